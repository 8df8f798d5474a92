-- Functions that reach a checkpoint, and how such a function saves and rebuilds its frames.
use Rattle.std.specs.Prelude.{ℕ, zero, suc, ◌+◌, ◌-◌, ◌*◌, ◌==◌, nat_le, Bool, true, false, ◌&&◌, if◌then◌else◌, List, [], ◌∷◌, length, map, count_by, slice_get, option_and_then, Option, Some, None}
use Rattle.std.specs.List.{list_any, range_with_len}
use Rattle.porch_flat.specs.declared.whole.Function.{Function}
use Rattle.porch_flat.specs.declared.whole.Flat.{Flat}
use Rattle.porch_flat.specs.whole.Form.{Form, form_of, call, checkpoint, restore, table, saved, push, label_of, is_mode}
use Rattle.porch_flat.specs.whole.Places.{commands_of}

-- a command at which a checkpoint may be reached, where these functions reach one
abbrev pub leads_to_checkpoint : (ℕ → Bool) → Form → Bool
leads_to_checkpoint reaches (call r g os) = reaches g
leads_to_checkpoint reaches checkpoint = true
leads_to_checkpoint reaches form = false

-- a checkpoint is reached by calls nested less than so deep
unfoldable pub reaches_within : ℕ → Flat → ℕ → Bool
reaches_within zero flat f = false
reaches_within (suc n) flat f =
    list_any (λ c. leads_to_checkpoint (reaches_within n flat) (form_of c))
    (commands_of (slice_get flat.functions f))

-- the function reaches a checkpoint
abbrev pub reaches : Flat → ℕ → Bool
reaches flat f = reaches_within (length flat.functions) flat f

-- the places from this one on where a test passes
abbrev pub places_from : ℕ → (Form → Bool) → List Form → List ℕ
places_from at test [] = []
places_from at test (form ∷ forms) =
    if test form then at ∷ places_from (at + 1) test forms else places_from (at + 1) test forms

abbrev pub same_number : Option ℕ → Option ℕ → Bool
same_number (Some n) (Some m) = n == m
same_number n m = false

abbrev pub same_numbers : List ℕ → List ℕ → Bool
same_numbers [] [] = true
same_numbers (n ∷ ns) (m ∷ ms) = (n == m) && same_numbers ns ms
same_numbers ns ms = false

-- the label of a call number
abbrev pub table_label : ℕ → Form → Option ℕ
table_label k (table j n) = if k == j then Some n else None
table_label k form = None

abbrev pub saved_label : ℕ → Form → Option ℕ
saved_label k (saved j n) = if k == j then Some n else None
saved_label k form = None

-- a RESTORE and a PUSH of so many variables, all in order
abbrev pub restores : ℕ → Form → Bool
restores count (restore vs) = same_numbers vs (range_with_len 0 count)
restores count form = false

abbrev pub pushes : ℕ → Form → Bool
pushes count (push vs) = same_numbers vs (range_with_len 0 count)
pushes count form = false

abbrev pub passes : {X : Type 0} → (X → Bool) → Option X → Bool
passes test None = false
passes test (Some x) = test x

-- the label that stands last
abbrev pub last_label : List Form → Option ℕ
last_label forms = option_and_then label_of (slice_get forms (length forms - 2))

module _ (vars : ℕ) (forms : List Form) where
  -- Call number k, which stands at a place: its table names the label in front of it, and behind it the
  -- frame is left for the last label.
  abbrev pub is_marked : (k place : ℕ) → Bool
  is_marked k place =
      nat_le 1 place
      && same_number (option_and_then (table_label k) (slice_get forms k))
      (option_and_then label_of (slice_get forms (place - 1)))
      && same_number (option_and_then (saved_label k) (slice_get forms (place + 1))) (last_label forms)

  abbrev pub are_marked : ℕ → List ℕ → Bool
  are_marked k [] = true
  are_marked k (place ∷ places) = is_marked k place && are_marked (k + 1) places

  -- the rest of it, for so many call numbers: no other command is for saving and rebuilding
  abbrev pub has_ends : ℕ → Bool
  has_ends zero = count_by is_mode forms == 0
  has_ends (suc count) =
      passes (restores vars) (slice_get forms 0)
      && passes (pushes vars) (slice_get forms (length forms - 1))
      && count_by is_mode forms == 2 * suc count + 2

  -- for the places of its call numbers
  abbrev pub is_marked_at : List ℕ → Bool
  is_marked_at places = are_marked 1 places && has_ends (length places)

-- the function saves and rebuilds its frames where it reaches a checkpoint, and only there
abbrev pub is_rewritten : Flat → Function → Bool
is_rewritten flat f =
    let forms = map form_of f.commands in
    is_marked_at (length f.vars) forms (places_from 0 (leads_to_checkpoint (reaches flat)) forms)

-- no command is for saving and rebuilding
abbrev pub is_plain : Function → Bool
is_plain f = count_by is_mode (map form_of f.commands) == 0
