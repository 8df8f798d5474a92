-- The commands of a rewritten function, line by line: each keeps every rule.
use Rattle.std.proofs.Common.{◌≡◌, ◌<◌, ◌≤◌, ℕ, zero, suc, ◌+◌, List, [], ◌∷◌, ◌++◌, length, drop, refl, sym, ap, ◌∙◌, subst, arith, Bool, true, false, Option, Some, None}
use Rattle.std.specs.Prelude.{slice_get, ◌^◌, nat_lt, ◌&&◌, if◌then◌else◌}
use Rattle.std.specs.List.{list_all, range_with_len}
use Rattle.std.specs.Option.{option_map}
use Rattle.std.proofs.lemmas.Bool.Decides.{nat_tests}
use Rattle.porch_flat.specs.declared.whole.Command.{Command}
use Rattle.porch_flat.specs.declared.whole.Command.TheVariants as command
use Rattle.porch_flat.specs.declared.whole.Function.{Function}
use Rattle.porch_flat.specs.declared.whole.Flat.{Flat}
use Rattle.porch_flat.specs.declared.whole.FlatRule.TheVariants as rule
use Rattle.porch_flat.specs.whole.Form as form
use Rattle.porch_flat.specs.whole.Form.{Form, form_of, label_of, jump_of}
use Rattle.porch_flat.specs.whole.Lines.{command_line, end_line, command_lines}
use Rattle.porch_flat.specs.whole.Places.{is_number, place_of_label}
use Rattle.porch_flat.specs.whole.Rewritten.{reaches, same_number, leads_to_checkpoint}
use Rattle.porch_flat.specs.whole.Rules.{is_number_of, leads_well, stands_once, keeps_jump}
use Rattle.porch_rewrite.specs.Laws.{label_named, HasRoom}
use Rattle.porch_rewrite.specs.Rewriting.{FIRST_LABEL, has_number, numbers_in, all_with_marks, tables, way_out, every_variable, front, back, saving_commands, with_commands, rewritten}
use Rattle.porch_rewrite.proofs.Arriving.{is_label, find, position_is, drop_here, drop_next, drop_append, append_more}
use Rattle.porch_rewrite.proofs.Filling.{tally, tally_is}
use Rattle.porch_rewrite.proofs.Lines.{Each, Keeps}
use Rattle.porch_rewrite.proofs.SameRules.{numbers_same, kind_same, constants_same, arity_same}
use Rattle.porch_rewrite.proofs.Sizes.{size, size_is, Rests, length_append, leads_there, label_once}

-- labels by name

label_is_named : (g : Form) (n : ℕ) → label_of g ≡ Some n → label_named g ≡ Some n
label_is_named (form.label k) n h = h
label_is_named (form.jump k) n h = absurd (cc)
label_is_named (form.branch o k) n h = absurd (cc)
label_is_named (form.call r g os) n h = absurd (cc)
label_is_named form.checkpoint n h = absurd (cc)
label_is_named (form.move v o) n h = absurd (cc)
label_is_named (form.cast v w) n h = absurd (cc)
label_is_named (form.operator op v a b) n h = absurd (cc)
label_is_named (form.complement v o) n h = absurd (cc)
label_is_named (form.comparison c v a b) n h = absurd (cc)
label_is_named (form.subobject v within leaf) n h = absurd (cc)
label_is_named (form.step way v p o) n h = absurd (cc)
label_is_named (form.difference v p q) n h = absurd (cc)
label_is_named (form.load v p) n h = absurd (cc)
label_is_named (form.store p o) n h = absurd (cc)
label_is_named (form.copy p q) n h = absurd (cc)
label_is_named (form.kill v) n h = absurd (cc)
label_is_named (form.allocate zeros v o) n h = absurd (cc)
label_is_named (form.free p) n h = absurd (cc)
label_is_named (form.show how v o) n h = absurd (cc)
label_is_named (form.text v p) n h = absurd (cc)
label_is_named form.turn n h = absurd (cc)
label_is_named (form.return o) n h = absurd (cc)
label_is_named (form.restore vs) n h = absurd (cc)
label_is_named (form.table k l) n h = absurd (cc)
label_is_named (form.saved k l) n h = absurd (cc)
label_is_named (form.push vs) n h = absurd (cc)

jump_is_named : (g : Form) (n : ℕ) → jump_of g ≡ Some n → label_named g ≡ Some n
jump_is_named (form.jump k) n h = h
jump_is_named (form.branch o k) n h = h
jump_is_named (form.label k) n h = absurd (cc)
jump_is_named (form.call r g os) n h = absurd (cc)
jump_is_named form.checkpoint n h = absurd (cc)
jump_is_named (form.move v o) n h = absurd (cc)
jump_is_named (form.cast v w) n h = absurd (cc)
jump_is_named (form.operator op v a b) n h = absurd (cc)
jump_is_named (form.complement v o) n h = absurd (cc)
jump_is_named (form.comparison c v a b) n h = absurd (cc)
jump_is_named (form.subobject v within leaf) n h = absurd (cc)
jump_is_named (form.step way v p o) n h = absurd (cc)
jump_is_named (form.difference v p q) n h = absurd (cc)
jump_is_named (form.load v p) n h = absurd (cc)
jump_is_named (form.store p o) n h = absurd (cc)
jump_is_named (form.copy p q) n h = absurd (cc)
jump_is_named (form.kill v) n h = absurd (cc)
jump_is_named (form.allocate zeros v o) n h = absurd (cc)
jump_is_named (form.free p) n h = absurd (cc)
jump_is_named (form.show how v o) n h = absurd (cc)
jump_is_named (form.text v p) n h = absurd (cc)
jump_is_named form.turn n h = absurd (cc)
jump_is_named (form.return o) n h = absurd (cc)
jump_is_named (form.restore vs) n h = absurd (cc)
jump_is_named (form.table k l) n h = absurd (cc)
jump_is_named (form.saved k l) n h = absurd (cc)
jump_is_named (form.push vs) n h = absurd (cc)

-- what has a call number is no label
numbered_unlabelled : (reaching : ℕ → Bool) (g : Form) → leads_to_checkpoint reaching g ≡ true → label_of g ≡ None
numbered_unlabelled reaching (form.call r k os) h = refl
numbered_unlabelled reaching form.checkpoint h = refl
numbered_unlabelled reaching (form.label k) h = absurd (cc)
numbered_unlabelled reaching (form.jump k) h = refl
numbered_unlabelled reaching (form.branch o k) h = refl
numbered_unlabelled reaching (form.move v o) h = refl
numbered_unlabelled reaching (form.cast v w) h = refl
numbered_unlabelled reaching (form.operator op v a b) h = refl
numbered_unlabelled reaching (form.complement v o) h = refl
numbered_unlabelled reaching (form.comparison c v a b) h = refl
numbered_unlabelled reaching (form.subobject v within leaf) h = refl
numbered_unlabelled reaching (form.step way v p o) h = refl
numbered_unlabelled reaching (form.difference v p q) h = refl
numbered_unlabelled reaching (form.load v p) h = refl
numbered_unlabelled reaching (form.store p o) h = refl
numbered_unlabelled reaching (form.copy p q) h = refl
numbered_unlabelled reaching (form.kill v) h = refl
numbered_unlabelled reaching (form.allocate zeros v o) h = refl
numbered_unlabelled reaching (form.free p) h = refl
numbered_unlabelled reaching (form.show how v o) h = refl
numbered_unlabelled reaching (form.text v p) h = refl
numbered_unlabelled reaching form.turn h = refl
numbered_unlabelled reaching (form.return o) h = refl
numbered_unlabelled reaching (form.restore vs) h = refl
numbered_unlabelled reaching (form.table k l) h = refl
numbered_unlabelled reaching (form.saved k l) h = refl
numbered_unlabelled reaching (form.push vs) h = refl

-- labels found in lists that are put together

none_of : (o : Option ℕ) → option_map (λ k. suc k) o ≡ None → o ≡ None
none_of None h = refl
none_of (Some k) h = absurd (cc)

-- a list in which nothing passes begins with what doesn't
first_none : (p : Command → Bool) (x : Command) (xs : List Command) (b : Bool) → p x ≡ b → find p (x ∷ xs) ≡ None → (p x ≡ false) × (find p xs ≡ None)
first_none p x xs true is h = absurd (let at : Some 0 ≡ None = subst (λ c. (if c then Some 0 else option_map (λ k. suc k) (find p xs)) ≡ None) is h in cc)
first_none p x xs false is h = (is, none_of (find p xs) (subst (λ c. (if c then Some 0 else option_map (λ k. suc k) (find p xs)) ≡ None) is h))

find_past : (p : Command → Bool) (x : Command) (xs : List Command) → p x ≡ false → find p (x ∷ xs) ≡ option_map (λ k. suc k) (find p xs)
find_past p x xs is = rw is refl

pub find_none : (p : Command → Bool) (xs ys : List Command) → find p xs ≡ None → find p ys ≡ None → find p (xs ++ ys) ≡ None
find_none p [] ys a b = b
find_none p (x ∷ xs) ys a b =
    let first = first_none p x xs (p x) refl a in
    find_past p x (xs ++ ys) first.0 ∙ ap (λ o. option_map (λ k. suc k) o) (find_none p xs ys first.1 b)

find_first : (p : Command → Bool) (xs : List Command) (y : Command) (ys : List Command) → find p xs ≡ None → p y ≡ true → find p (xs ++ y ∷ ys) ≡ Some (length xs)
find_first p [] y ys a b = rw b refl
find_first p (x ∷ xs) y ys a b =
    let first = first_none p x xs (p x) refl a in
    find_past p x (xs ++ y ∷ ys) first.0 ∙ ap (λ o. option_map (λ k. suc k) o) (find_first p xs y ys first.1 b)

same_itself : (n : ℕ) → is_number n (Some n) ≡ true
same_itself n = grind (arith, nat_tests)

apart : (k b : ℕ) → b < k → is_number (FIRST_LABEL + k) (Some (FIRST_LABEL + b)) ≡ false
apart k b less = grind (arith, nat_tests, less)

old_apart : (k n : ℕ) → n < FIRST_LABEL → is_number (FIRST_LABEL + k) (Some n) ≡ false
old_apart k n less = grind (arith, nat_tests, less)

old_by : (k : ℕ) (o : Option ℕ) → ((n : ℕ) → o ≡ Some n → n < FIRST_LABEL) → is_number (FIRST_LABEL + k) o ≡ false
old_by k None less = refl
old_by k (Some n) less = old_apart k n (less n refl)

same_some : (o : Option ℕ) (i : ℕ) → same_number o (Some i) ≡ true → o ≡ Some i
same_some None i h = absurd (cc)
same_some (Some k) i h = let same : k ≡ i = grind (arith, nat_tests, h) in rw same refl

same_self : (i : ℕ) → same_number (Some i) (Some i) ≡ true
same_self i = grind (arith, nat_tests)

both_first : (a b : Bool) → a && b ≡ true → a ≡ true
both_first true b h = refl
both_first false b h = absurd (cc)

both_second : (a b : Bool) → a && b ≡ true → b ≡ true
both_second true b h = h
both_second false b h = absurd (cc)

both_and : (a b : Bool) → a ≡ true → b ≡ true → a && b ≡ true
both_and true true a b = refl
both_and false b a c = absurd (cc)
both_and true false a b = absurd (cc)

small : (n : ℕ) → n < 2 ^ 31 → is_number_of n ≡ true
small n less = grind (arith, nat_tests, less)

all_below : (a n m : ℕ) → a + n ≤ m → list_all (λ v. nat_lt v m) (range_with_len a n) ≡ true
all_below a zero m le = refl
all_below a (suc n) m le =
    let first : nat_lt a m ≡ true = grind (arith, nat_tests, le) in
    both_and (nat_lt a m) (list_all (λ v. nat_lt v m) (range_with_len (a + 1) n)) first (all_below (a + 1) n m (omega (arith, le)))

module _ (flat : Flat) (number : ℕ) (f : Function) (at_number : slice_get flat.functions number ≡ Some f) (room : HasRoom flat)
    (few : numbers_in (reaches flat) f.commands < FIRST_LABEL) where
  abbrev reaching : ℕ → Bool
  reaching = reaches flat

  abbrev program : Flat
  program = rewritten flat

  abbrev made : List Command
  made = saving_commands reaching f

  abbrev f' : Function
  f' = with_commands f made

  abbrev out : ℕ
  out = way_out reaching f

  abbrev KeptAt : ℕ → Command → Type 0
  KeptAt q c = Keeps program true (command_line f' q c)

  -- a command that stood there
  old_kept : (i q : ℕ) (c : Command) → Keeps flat false (command_line f i c) → keeps_jump (command_line f' q c) ≡ true → KeptAt q c
  old_kept i q c kept jump rule.Number = numbers_same flat f made (form_of c) ∙ kept rule.Number
  old_kept i q c kept jump rule.Kind = kind_same flat f made (form_of c) ∙ kept rule.Kind
  old_kept i q c kept jump rule.Constant = constants_same flat f made (form_of c) ∙ kept rule.Constant
  old_kept i q c kept jump rule.Jump = jump
  old_kept i q c kept jump rule.Arity = arity_same flat f made (form_of c) ∙ kept rule.Arity
  old_kept i q c kept jump rule.Modes = refl
  old_kept i q c kept jump rule.Main = refl

  -- commands that are added

  label_kept : (q n : ℕ) → n < 2 ^ 31 → place_of_label made n ≡ Some q → KeptAt q (command.Label n)
  label_kept q n less there rule.Number = rw (small n less) refl
  label_kept q n less there rule.Kind = refl
  label_kept q n less there rule.Constant = refl
  label_kept q n less there rule.Jump = rw (there, same_self q) refl
  label_kept q n less there rule.Arity = refl
  label_kept q n less there rule.Modes = refl
  label_kept q n less there rule.Main = refl

  saved_kept : (q k n : ℕ) → k < 2 ^ 31 → n < 2 ^ 31 → KeptAt q (command.Saved k n)
  saved_kept q k n one two rule.Number = rw (small k one, small n two) refl
  saved_kept q k n one two rule.Kind = refl
  saved_kept q k n one two rule.Constant = refl
  saved_kept q k n one two rule.Jump = refl
  saved_kept q k n one two rule.Arity = refl
  saved_kept q k n one two rule.Modes = refl
  saved_kept q k n one two rule.Main = refl

  table_kept : (q k n : ℕ) → k < 2 ^ 31 → n < 2 ^ 31 → KeptAt q (command.Table k n)
  table_kept q k n one two rule.Number = rw (small k one, small n two) refl
  table_kept q k n one two rule.Kind = refl
  table_kept q k n one two rule.Constant = refl
  table_kept q k n one two rule.Jump = refl
  table_kept q k n one two rule.Arity = refl
  table_kept q k n one two rule.Modes = refl
  table_kept q k n one two rule.Main = refl

  restore_kept : (q : ℕ) → KeptAt q (command.Restore (every_variable reaching f))
  restore_kept q rule.Number = rw (all_below 0 (length f.vars) (length f.vars) (omega arith)) refl
  restore_kept q rule.Kind = refl
  restore_kept q rule.Constant = refl
  restore_kept q rule.Jump = refl
  restore_kept q rule.Arity = refl
  restore_kept q rule.Modes = refl
  restore_kept q rule.Main = refl

  push_kept : (q : ℕ) → KeptAt q (command.Push (every_variable reaching f))
  push_kept q rule.Number = rw (all_below 0 (length f.vars) (length f.vars) (omega arith)) refl
  push_kept q rule.Kind = refl
  push_kept q rule.Constant = refl
  push_kept q rule.Jump = refl
  push_kept q rule.Arity = refl
  push_kept q rule.Modes = refl
  push_kept q rule.Main = refl

  end_kept : Keeps program true end_line
  end_kept rule.Number = refl
  end_kept rule.Kind = refl
  end_kept rule.Constant = refl
  end_kept rule.Jump = refl
  end_kept rule.Arity = refl
  end_kept rule.Modes = refl
  end_kept rule.Main = refl

  -- labels that a command of the function names lie below those that are added
  below_new : (i : ℕ) (c : Command) → slice_get f.commands i ≡ Some c → (n : ℕ) → label_named (form_of c) ≡ Some n → n < FIRST_LABEL
  below_new i c here n named = room number i n c (rw at_number here) named

  -- before a place stand none of the labels that are still to come
  abbrev Clear : ℕ → List Command → Type 0
  Clear before prefix = (k : ℕ) → before ≤ k → find (is_label (FIRST_LABEL + k)) prefix ≡ None

  new_label : (before : ℕ) (prefix rest : List Command) → made ≡ prefix ++ command.Label (FIRST_LABEL + before) ∷ rest → Clear before prefix → place_of_label made (FIRST_LABEL + before) ≡ Some (length prefix)
  new_label before prefix rest whole clear =
      position_is (is_label (FIRST_LABEL + before)) made ∙ ap (λ cs. find (is_label (FIRST_LABEL + before)) cs) whole
      ∙ find_first (is_label (FIRST_LABEL + before)) prefix (command.Label (FIRST_LABEL + before)) rest (clear before (omega arith)) (same_itself (FIRST_LABEL + before))

  -- the way out
  back_kept : (prefix : List Command) → made ≡ prefix ++ back reaching f → Clear (numbers_in reaching f.commands) prefix → Each (Keeps program true) (command_lines f' (length prefix) (back reaching f))
  back_kept prefix whole clear = (
    label_kept (length prefix) out (omega (arith, few)) (new_label (numbers_in reaching f.commands) prefix (command.Push (every_variable reaching f) ∷ []) whole clear),
    (push_kept (length prefix + 1), (end_kept, tt)),
  )

  unlabelled : (before : ℕ) (prefix : List Command) (c : Command) → Clear before prefix → ((k : ℕ) → before ≤ k → is_label (FIRST_LABEL + k) c ≡ false) → Clear before (prefix ++ c ∷ [])
  unlabelled before prefix c clear other k le = find_none (is_label (FIRST_LABEL + k)) prefix (c ∷ []) (clear k le) (rw (other k le) refl)

  later : (before : ℕ) (prefix : List Command) → Clear before prefix → Clear (before + 1) prefix
  later before prefix clear k le = clear k (omega (arith, le))

  labelled : (before : ℕ) (prefix : List Command) → Clear before prefix → Clear (before + 1) (prefix ++ command.Label (FIRST_LABEL + before) ∷ [])
  labelled before prefix clear k le =
      find_none (is_label (FIRST_LABEL + k)) prefix (command.Label (FIRST_LABEL + before) ∷ []) (clear k (omega (arith, le))) (rw (apart k before (omega (arith, le))) refl)

  -- a command by its jump and its label
  jump_kept : (i q before : ℕ) (c : Command) (rest : List Command) → drop q made ≡ c ∷ rest → size reaching (drop (i + 1) f.commands) + 2 ≤ length rest → slice_get f.commands i ≡ Some c
      → Keeps flat false (command_line f i c) → ((n : ℕ) → label_of (form_of c) ≡ Some n → Rests reaching f q before (drop i f.commands)) → keeps_jump (command_line f' q c) ≡ true
  jump_kept i q before c rest at long here kept rests =
      let jump = kept rule.Jump in
      both_and (leads_well f' q (jump_of (form_of c))) (stands_once f' q (form_of c))
      (leads_there reaching f (jump_of (form_of c)) (λ n is. below_new i c here n (jump_is_named (form_of c) n is)) i q c rest at long
      (both_first (leads_well f i (jump_of (form_of c))) (stands_once f i (form_of c)) jump))
      (once (form_of c) refl (both_second (leads_well f i (jump_of (form_of c))) (stands_once f i (form_of c)) jump))
    where
      once : (g : Form) → form_of c ≡ g → stands_once f i g ≡ true → stands_once f' q g ≡ true
      once (form.label n) is h =
          let own : label_of (form_of c) ≡ Some n = ap label_of is in
          let less = below_new i c here n (label_is_named (form_of c) n own) in
          let there = label_once reaching f n less i q before (same_some (place_of_label f.commands n) i h) (rests n own) in
          rw there (same_self q)
      once (form.jump k) is h = refl
      once (form.branch o k) is h = refl
      once (form.call r g os) is h = refl
      once form.checkpoint is h = refl
      once (form.move v o) is h = refl
      once (form.cast v w) is h = refl
      once (form.operator op v a b) is h = refl
      once (form.complement v o) is h = refl
      once (form.comparison o v a b) is h = refl
      once (form.subobject v within leaf) is h = refl
      once (form.step way v p o) is h = refl
      once (form.difference v p r) is h = refl
      once (form.load v p) is h = refl
      once (form.store p o) is h = refl
      once (form.copy p r) is h = refl
      once (form.kill v) is h = refl
      once (form.allocate zeros v o) is h = refl
      once (form.free p) is h = refl
      once (form.show how v o) is h = refl
      once (form.text v p) is h = refl
      once form.turn is h = refl
      once (form.return o) is h = refl
      once (form.restore vs) is h = refl
      once (form.table k l) is h = refl
      once (form.saved k l) is h = refl
      once (form.push vs) is h = refl

  abbrev behind : ℕ → List Command → List Command
  behind before cs = all_with_marks reaching out before cs ++ back reaching f

  long_behind : (before : ℕ) (cs : List Command) → length (behind before cs) ≡ size reaching cs + 2
  long_behind before cs = length_append (all_with_marks reaching out before cs) (back reaching f) ∙ ap (λ k. k + 2) (size_is reaching out before cs)

  from_place : (prefix rest : List Command) → made ≡ prefix ++ rest → drop (length prefix) made ≡ rest
  from_place prefix rest whole = ap (λ cs. drop (length prefix) cs) whole ∙ drop_append prefix rest

  one_on : (prefix : List Command) (c : Command) (rest : List Command) → made ≡ prefix ++ c ∷ rest → made ≡ (prefix ++ c ∷ []) ++ rest
  one_on prefix c rest whole = whole ∙ sym (append_more prefix (c ∷ []) rest)

  longer : (prefix : List Command) (c : Command) → length (prefix ++ c ∷ []) ≡ length prefix + 1
  longer prefix c = length_append prefix (c ∷ [])

  not_new : (i : ℕ) (c : Command) → slice_get f.commands i ≡ Some c → (k : ℕ) → is_label (FIRST_LABEL + k) c ≡ false
  not_new i c here k = old_by k (label_of (form_of c)) (λ n is. below_new i c here n (label_is_named (form_of c) n is))

  abbrev Lines : ℕ → List Command → Type 0
  Lines place cs = Each (Keeps program true) (command_lines f' place cs)

  -- the function's own commands from one on, and the way out
  own_kept : (cs : List Command) (i before : ℕ) (prefix : List Command) → drop i f.commands ≡ cs → made ≡ prefix ++ behind before cs → before + tally (has_number reaching) cs ≡ numbers_in reaching f.commands
      → Clear before prefix → Each (Keeps flat false) (command_lines f i cs) → Lines (length prefix) (behind before cs)
  own_kept [] i before prefix at whole numbers clear kept =
      let all : before ≡ numbers_in reaching f.commands = omega (arith, numbers) in back_kept prefix whole (subst (λ b. Clear b prefix) all clear)
  own_kept (c ∷ cs) i before prefix at whole numbers clear kept = own_by (has_number reaching c) refl (λ i before prefix at whole numbers clear kept. own_kept cs i before prefix at whole numbers clear kept)
    where
      next_at : drop (i + 1) f.commands ≡ cs
      next_at = drop_next f.commands i c cs at

      here : slice_get f.commands i ≡ Some c
      here = drop_here f.commands i c cs at

      own_by : (b : Bool) → has_number reaching c ≡ b
          → ((i before : ℕ) (prefix : List Command) → drop i f.commands ≡ cs → made ≡ prefix ++ behind before cs → before + tally (has_number reaching) cs ≡ numbers_in reaching f.commands
          → Clear before prefix → Each (Keeps flat false) (command_lines f i cs) → Lines (length prefix) (behind before cs))
          → Lines (length prefix) (behind before (c ∷ cs))
      own_by true is more =
          let label : Command = command.Label (FIRST_LABEL + before) in
          let mark : Command = command.Saved (before + 1) out in
          let shape : behind before (c ∷ cs) ≡ label ∷ c ∷ mark ∷ behind (before + 1) cs = rw is refl in
          let whole1 : made ≡ prefix ++ label ∷ c ∷ mark ∷ behind (before + 1) cs = whole ∙ ap (λ l. prefix ++ l) shape in
          let prefix1 : List Command = prefix ++ label ∷ [] in
          let whole2 : made ≡ prefix1 ++ c ∷ mark ∷ behind (before + 1) cs = one_on prefix label (c ∷ mark ∷ behind (before + 1) cs) whole1 in
          let prefix2 : List Command = prefix1 ++ c ∷ [] in
          let whole3 : made ≡ prefix2 ++ mark ∷ behind (before + 1) cs = one_on prefix1 c (mark ∷ behind (before + 1) cs) whole2 in
          let prefix3 : List Command = prefix2 ++ mark ∷ [] in
          let whole4 : made ≡ prefix3 ++ behind (before + 1) cs = one_on prefix2 mark (behind (before + 1) cs) whole3 in
          let counted : before + 1 + tally (has_number reaching) cs ≡ numbers_in reaching f.commands = (let one : tally (has_number reaching) (c ∷ cs) ≡ 1 + tally (has_number reaching) cs = rw is refl in omega (arith, numbers, one)) in
          let clear1 = labelled before prefix clear in
          let clear2 = unlabelled (before + 1) prefix1 c clear1 (λ k le. not_new i c here k) in
          let clear3 = unlabelled (before + 1) prefix2 mark clear2 (λ k le. refl) in
          let rest = more (i + 1) (before + 1) prefix3 next_at whole4 counted clear3 kept.1 in
          let one : length prefix1 ≡ length prefix + 1 = longer prefix label in
          let two : length prefix2 ≡ length prefix + 1 + 1 = longer prefix1 c ∙ ap (λ k. k + 1) one in
          let three : length prefix3 ≡ length prefix + 1 + 1 + 1 = longer prefix2 mark ∙ ap (λ k. k + 1) two in
          let place1 : drop (length prefix + 1) made ≡ c ∷ mark ∷ behind (before + 1) cs = subst (λ k. drop k made ≡ c ∷ mark ∷ behind (before + 1) cs) one (from_place prefix1 (c ∷ mark ∷ behind (before + 1) cs) whole2) in
          let long : size reaching (drop (i + 1) f.commands) + 2 ≤ length (mark ∷ behind (before + 1) cs) = (let size_of = long_behind (before + 1) cs in let same : size reaching (drop (i + 1) f.commands) ≡ size reaching cs = ap (λ l. size reaching l) next_at in omega (arith, size_of, same)) in
          let none : label_of (form_of c) ≡ None = numbered_unlabelled reaching (form_of c) is in
          subst (λ l. Lines (length prefix) l) (sym shape) (
            label_kept (length prefix) (FIRST_LABEL + before) (omega (arith, few, counted)) (new_label before prefix (c ∷ mark ∷ behind (before + 1) cs) whole1 clear),
            (
              old_kept i (length prefix + 1) c kept.0
                  (jump_kept i (length prefix + 1) before c (mark ∷ behind (before + 1) cs) place1 long here kept.0 (λ n label. absurd (let no : None ≡ Some n = sym none ∙ label in cc))),
              (
                saved_kept (length prefix + 1 + 1) (before + 1) out (omega (arith, few, counted)) (omega (arith, few)),
                subst (λ k. Lines k (behind (before + 1) cs)) three rest,
              ),
            ),
          )
      own_by false is more =
          let shape : behind before (c ∷ cs) ≡ c ∷ behind before cs = rw is refl in
          let whole1 : made ≡ prefix ++ c ∷ behind before cs = whole ∙ ap (λ l. prefix ++ l) shape in
          let prefix1 : List Command = prefix ++ c ∷ [] in
          let whole2 : made ≡ prefix1 ++ behind before cs = one_on prefix c (behind before cs) whole1 in
          let counted : before + tally (has_number reaching) cs ≡ numbers_in reaching f.commands = (let none : tally (has_number reaching) (c ∷ cs) ≡ tally (has_number reaching) cs = rw is refl in omega (arith, numbers, none)) in
          let clear1 = unlabelled before prefix c clear (λ k le. not_new i c here k) in
          let rest = more (i + 1) before prefix1 next_at whole2 counted clear1 kept.1 in
          let one : length prefix1 ≡ length prefix + 1 = longer prefix c in
          let place : drop (length prefix) made ≡ c ∷ behind before cs = from_place prefix (c ∷ behind before cs) whole1 in
          let long : size reaching (drop (i + 1) f.commands) + 2 ≤ length (behind before cs) = (let size_of = long_behind before cs in let same : size reaching (drop (i + 1) f.commands) ≡ size reaching cs = ap (λ l. size reaching l) next_at in omega (arith, size_of, same)) in
          let stands : Rests reaching f (length prefix) before (drop i f.commands) = from_place prefix (behind before (c ∷ cs)) whole ∙ ap (λ l. behind before l) (sym at) in
          subst (λ l. Lines (length prefix) l) (sym shape) (
            old_kept i (length prefix) c kept.0 (jump_kept i (length prefix) before c (behind before cs) place long here kept.0 (λ n label. stands)),
            subst (λ k. Lines k (behind before cs)) one rest,
          )

  tables_kept : (count before place : ℕ) (rest : List Command) → before + count ≤ numbers_in reaching f.commands → Lines (place + count) rest → Lines place (tables before count ++ rest)
  tables_kept zero before place rest le kept = let none : place + 0 ≡ place = omega arith in subst (λ k. Lines k rest) none kept
  tables_kept (suc count) before place rest le kept =
      let same : place + suc count ≡ place + 1 + count = omega arith in (
        table_kept place (before + 1) (FIRST_LABEL + before) (omega (arith, few, le)) (omega (arith, few, le)),
        tables_kept count (before + 1) (place + 1) rest (omega (arith, le)) (subst (λ k. Lines k rest) same kept),
      )

  tables_unlabelled : (n before count : ℕ) → find (is_label n) (tables before count) ≡ None
  tables_unlabelled n before zero = refl
  tables_unlabelled n before (suc count) = ap (λ o. option_map (λ k. suc k) o) (tables_unlabelled n (before + 1) count)

  front_clear : Clear 0 (front reaching f)
  front_clear k le = ap (λ o. option_map (λ k. suc k) o) (tables_unlabelled (FIRST_LABEL + k) 0 (numbers_in reaching f.commands))

  tables_length : (before count : ℕ) → length (tables before count) ≡ count
  tables_length before zero = refl
  tables_length before (suc count) = ap (λ k. suc k) (tables_length (before + 1) count)

  -- every command of the rewritten function
  pub commands_kept : Each (Keeps flat false) (command_lines f 0 f.commands) → Each (Keeps program true) (command_lines f' 0 made)
  commands_kept kept =
      let numbers : 0 + tally (has_number reaching) f.commands ≡ numbers_in reaching f.commands = (let same = tally_is (has_number reaching) f.commands in omega (arith, same)) in
      let own = own_kept f.commands 0 0 (front reaching f) refl refl numbers front_clear kept in
      let place : length (front reaching f) ≡ 1 + numbers_in reaching f.commands = (let long = tables_length 0 (numbers_in reaching f.commands) in omega (arith, long)) in
      (restore_kept 0, tables_kept (numbers_in reaching f.commands) 0 1 (behind 0 f.commands) (omega arith) (subst (λ k. Lines k (behind 0 f.commands)) place own))
