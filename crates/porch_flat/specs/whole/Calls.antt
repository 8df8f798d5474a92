-- Which functions reach a checkpoint, as the least set.
use Rattle.std.specs.Prelude.{ℕ, ◌≡◌, Bool, true, false, slice_get, Option, Some, None}
use Rattle.std.specs.List.{list_any}
use Rattle.porch_flat.specs.declared.whole.Flat.{Flat}
use Rattle.porch_flat.specs.whole.Form.{Form, form_of, call, checkpoint}
use Rattle.porch_flat.specs.whole.Places.{is_number, commands_of}

-- the function that is called
abbrev pub callee_of : Form → Option ℕ
callee_of (call r g os) = Some g
callee_of form = None

abbrev pub is_call_of : ℕ → Form → Bool
is_call_of g form = is_number g (callee_of form)

abbrev pub is_checkpoint : Form → Bool
is_checkpoint checkpoint = true
is_checkpoint form = false

-- one function calls another one
abbrev pub calls : Flat → (caller called : ℕ) → Bool
calls flat f g = list_any (λ c. is_call_of g (form_of c)) (commands_of (slice_get flat.functions f))

-- a function holds CHECKPOINT itself
abbrev pub holds_checkpoint : Flat → ℕ → Bool
holds_checkpoint flat f = list_any (λ c. is_checkpoint (form_of c)) (commands_of (slice_get flat.functions f))

-- a set that holds each function with a CHECKPOINT, and each that calls one of the set
pub record IsClosed (flat : Flat) (set : ℕ → Bool) : Type 0 where
  pub checkpoints : (f : ℕ) → holds_checkpoint flat f ≡ true → set f ≡ true
  pub callers : (f g : ℕ) → calls flat f g ≡ true → set g ≡ true → set f ≡ true

-- the least such set
pub record IsLeastClosed (flat : Flat) (set : ℕ → Bool) : Type 0 where
  pub closed : IsClosed flat set
  pub least : (other : ℕ → Bool) → IsClosed flat other → (f : ℕ) → set f ≡ true → other f ≡ true
