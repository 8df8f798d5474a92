-- Comparisons of pointers: their commands, and the code of the operator, which converts nothing.
use Rattle.std.proofs.Common.{◌≡◌, ℕ, ◌+◌, ℤ, pos, List, [], ◌∷◌, ◌++◌, length, refl, sym, ap, subst, ◌∙◌, arith, inl, inr, Bool, true, false, Option, Some, None}
use Rattle.std.proofs.lemmas.Bool.Decides.{eqb_tells}
use Rattle.std.proofs.lemmas.Int.{ints}
use Rattle.std.specs.Prelude.{not, nat_eq, int_lt, int_le, ◌-ℤ◌, ◌&&◌, if◌then◌else◌, slice_get, Result, Ok, Err}
use Rattle.porch_types.specs.declared.shapes.Ty.{Ty}
use Rattle.porch_types.specs.declared.shapes.Ty.TheVariants.{Pointer}
use Rattle.porch_types.specs.LeafTypes.{pointee_of}
use Rattle.porch_values.specs.declared.acts.Act.{Act}
use Rattle.porch_values.specs.declared.acts.Act.TheVariants.{Relation}
use Rattle.porch_objects.specs.Store.{Home, of_global, of_call, of_block, Value, Object, Store, seen}
use Rattle.porch_objects.specs.Pointers.{if_there, Position, position_of, same_home, between, difference, equal, equality}
use Rattle.porch_objects.specs.Meaning.{Progress}
use Rattle.porch_typed.specs.declared.typed.Comparison.{Comparison}
use Rattle.porch_typed.specs.declared.typed.Comparison.TheVariants.{Less, Greater, LessEqual, GreaterEqual, Equal, NotEqual}
use Rattle.porch_typed.specs.declared.typed.Operator.TheVariants as operator
use Rattle.porch_flat.specs.declared.flat.Operand.{Operand}
use Rattle.porch_flat.specs.declared.flat.Operand.TheVariants.{Var, Constant}
use Rattle.porch_flat.specs.declared.whole.Command.{Command}
use Rattle.porch_flat.specs.declared.whole.Command.TheVariants as command
use Rattle.porch_flat.specs.declared.whole.Comparison.{Comparison as Order}
use Rattle.porch_flat.specs.declared.whole.Comparison.TheVariants as order
use Rattle.porch_flat.specs.whole.Form.{form_of}
use Rattle.porch_flat.specs.whole.Places.{type_at}
use Rattle.porch_abstract.specs.Machine.{Next, Goes, put}
use Rattle.porch_abstract.specs.whole.Machine.{if_ok, mapped, does, operand_of, compared, int_of, type_compared}
use Rattle.porch_abstract.specs.whole.Machine as machine
use Rattle.porch_mean.specs.Outcome.{Went, with_result}
use Rattle.porch_mean.specs.Operators.{truth_value}
use Rattle.porch_mean.specs.Operators as meaning
use Rattle.porch_lowering.specs.Code.{InUse}
use Rattle.porch_lowering.specs.Values.{INT}
use Rattle.porch_lowering.specs.Operators.{var_of, used_commands, commands_if, used_if, operand_if, next_of, is_converted, may_fail, comparison, operate}
use Rattle.porch_sound.specs.Typing.{StoreTyping}
use Rattle.porch_sound.specs.Laws.{Gives}
use Rattle.porch_lowered.specs.Beside.{beside}
use Rattle.porch_lowered.proofs.ReadAlike.{difference_alike, equality_alike, seen_grounded}
use Rattle.porch_lowered.proofs.Typed.{counts}
use Rattle.porch_lowered.proofs.SameLeaf.{seen_twice}
use Rattle.porch_lowered.proofs.States.{Stands}
use Rattle.porch_lowered.proofs.Codes.{Context, commands, frame, here, goes_on, IsOf, Follow, IsReady, grounded, value_is_grounded, Arrives}
use Rattle.porch_lowered.proofs.Holding.{IsSetting}
use Rattle.porch_lowered.proofs.Operands.{IsOperand, operand_is, operand_type}
use Rattle.porch_lowered.proofs.Commands.{command_follows}
use Rattle.porch_lowered.proofs.Comparisons.{IsVar, not_less, truth_is_int, quiet_comparison}
use Rattle.porch_lowered.proofs.Pointers.{difference_seen}
use Rattle.porch_lowered.proofs.PointerCode.{same_not_converted}
use Rattle.porch_lowered.proofs.Strict.{used_in_turn, both_used, ok_both}

-- a truth value as an int
abbrev pub as_truth : Result Bool Act → Result Value Act
as_truth r = meaning.if_ok r (λ holds. Ok (truth_value holds))

shown_truth : (r : Result Bool Act) (go : Value → Next) → if_ok r (λ holds. go (int_of holds)) ≡ if_ok (as_truth r) go
shown_truth (Ok b) go = refl
shown_truth (Err a) go = refl

mapped_is : {A B : Type 0} (f : A → B) (r : Result A Act) → mapped f r ≡ meaning.if_ok r (λ x. Ok (f x))
mapped_is f (Ok x) = refl
mapped_is f (Err a) = refl

-- The other way round: what stands behind stands in front.

same_turned : (a b : ℕ) → nat_eq a b ≡ nat_eq b a
same_turned a b =
    elim (eqb_tells a b) [
      | inl w ↦ (let e : b ≡ a = sym w.1 in rw e refl)
      | inr w ↦
          elim (eqb_tells b a) [
            | inl u ↦ absurd (w.1 (sym u.1))
            | inr u ↦ w.0 ∙ sym u.0
          ]
    ]

turned_less : (x y : ℤ) → int_lt (y -ℤ x) (pos 0) ≡ int_lt (pos 0) (x -ℤ y)
turned_less x y = grind (arith, ints)

turned_most : (x y : ℤ) → not (int_lt (pos 0) (y -ℤ x)) ≡ int_le (pos 0) (x -ℤ y)
turned_most x y = grind (arith, ints)

module _ (types : List Ty) (to : ℕ) where
  home_turned : (a b : Home) → same_home types to a b ≡ same_home types to b a
  home_turned (of_global a) (of_global b) = same_turned a b
  home_turned (of_call a v) (of_call b w) = ap (λ x. x && nat_eq v w) (same_turned a b) ∙ ap (λ x. nat_eq b a && x) (same_turned v w)
  home_turned (of_block a) (of_block b) = same_turned a b
  home_turned (of_global a) (of_call b w) = refl
  home_turned (of_global a) (of_block b) = refl
  home_turned (of_call a v) (of_global b) = refl
  home_turned (of_call a v) (of_block b) = refl
  home_turned (of_block a) (of_global b) = refl
  home_turned (of_block a) (of_call b w) = refl

  placed_turned : (test test' : ℤ → Bool) → ((x y : ℕ) → test (pos y -ℤ pos x) ≡ test' (pos x -ℤ pos y)) → (p q : Option Position)
      → mapped test (between types to q p) ≡ meaning.if_ok (between types to p q) (λ z. Ok (test' z))
  placed_turned test test' turned None None = refl
  placed_turned test test' turned None (Some q) = refl
  placed_turned test test' turned (Some p) None = refl
  placed_turned test test' turned (Some p) (Some q) =
      ap (λ b. mapped test (if b then Ok (pos q.index -ℤ pos p.index) else Err Relation))
      (ap (λ x. x && nat_eq q.row.first p.row.first) (home_turned q.home p.home) ∙ ap (λ x. same_home types to p.home q.home && x) (same_turned q.row.first p.row.first))
      ∙ by (same_home types to p.home q.home && nat_eq p.row.first q.row.first)
    where
      by : (b : Bool) → mapped test (if b then Ok (pos q.index -ℤ pos p.index) else Err Relation)
          ≡ meaning.if_ok (if b then Ok (pos p.index -ℤ pos q.index) else Err Relation) (λ z. Ok (test' z))
      by true = ap (λ b. let r : Result Bool Act = Ok b in r) (turned p.index q.index)
      by false = refl

  abbrev placed : Store → Value → Value → Result ℤ Act
  placed s x y = between types to (position_of types to s x) (position_of types to s y)

  difference_turned : (test test' : ℤ → Bool) → ((x y : ℕ) → test (pos y -ℤ pos x) ≡ test' (pos x -ℤ pos y)) → (s : Store) (v w : Value)
      → mapped test (difference types to s w v) ≡ meaning.if_ok (difference types to s v w) (λ z. Ok (test' z))
  difference_turned test test' turned s v w =
      mapped_is test (difference types to s w v)
      ∙ ok_both (seen s w) (seen s v) (λ y x. placed s y x) (λ z. Ok (test z))
      ∙ ap (λ (g : Value → Value → Result Bool Act). both_used (seen s w) (seen s v) (λ y x. g y x))
      (λ i y x. (sym (mapped_is test (placed s y x)) ∙ placed_turned test test' turned (position_of types to s x) (position_of types to s y)) i)
      ∙ used_in_turn (seen s v) (seen s w) (λ x y. meaning.if_ok (placed s x y) (λ z. Ok (test' z)))
      ∙ sym (ok_both (seen s v) (seen s w) (λ x y. placed s x y) (λ z. Ok (test' z)))

-- of values as they are seen the same
equality_seen : (types : List Ty) (to : ℕ) (s : Store) (a b : Value) → equality types to s (seen s a) (seen s b) ≡ equality types to s a b
equality_seen types to s a b =
    ap (λ x. if_there x (λ p. if_there (seen s (seen s b)) (λ q. equal types to p q))) (seen_twice s a)
    ∙ ap (λ y. if_there (seen s a) (λ p. if_there y (λ q. equal types to p q))) (seen_twice s b)

module _ (c : Context) (set : IsSetting c) (to ty place d : ℕ) (made : StoreTyping) (s : Progress) (ts : List Object) (used : InUse)
    (shape : slice_get c.flat.types ty ≡ Some (Pointer to)) (ready : IsReady c made s ts) where
  -- the type in which two operands are compared, of which the first is a variable
  type_is : (a b : Operand) (x y : Value) → IsOperand c ty used s ts a x → IsOperand c ty used s ts b y → IsVar a
      → (type_compared c.flat c.under (frame c place) c.callers a b ≡ Some ty) × (type_compared c.flat c.under (frame c place) c.callers b a ≡ Some ty)
  type_is (Var t) (Var u) x y oa ob h = (operand_type c set ty used s ts t x oa place, operand_type c set ty used s ts u y ob place)
  type_is (Var t) (Constant z) x y oa ob h = (operand_type c set ty used s ts t x oa place, operand_type c set ty used s ts t x oa place)
  type_is (Constant z) b x y oa ob h = absurd h

  abbrev compared_as : Order → Option ℕ → (a b : Operand) → Next
  compared_as how as_ty a b =
      compared c.flat c.under (frame c place) c.callers (type_at c.flat as_ty) how (operand_of c.flat as_ty a (here c s ts place)) (operand_of c.flat as_ty b (here c s ts place)) (here c s ts place)
      (λ holds. goes_on c d place s ts (int_of holds))

  -- with the temporaries beside them they compare alike
  compares_alike : (how : Order) (x y : Value) → IsOf c made ty x → IsOf c made ty y
      → machine.pointers_compare c.flat.types to how (beside s.store (ts ∷ c.more)) (seen s.store x) (seen s.store y) ≡ machine.pointers_compare c.flat.types to how s.store x y
  compares_alike how x y xa yb = by how
    where
      differ : difference c.flat.types to (beside s.store (ts ∷ c.more)) (seen s.store x) (seen s.store y) ≡ difference c.flat.types to s.store x y
      differ =
          difference_alike (counts made) s.store (ts ∷ c.more) (grounded c made s ts ready) c.flat.types to (seen s.store x) (seen s.store y)
          (seen_grounded (counts made) s.store x (value_is_grounded c made ty x xa)) (seen_grounded (counts made) s.store y (value_is_grounded c made ty y yb))
          ∙ difference_seen c.flat.types to s.store x y

      are_equal : equality c.flat.types to (beside s.store (ts ∷ c.more)) (seen s.store x) (seen s.store y) ≡ equality c.flat.types to s.store x y
      are_equal =
          equality_alike (counts made) s.store (ts ∷ c.more) (grounded c made s ts ready) c.flat.types to (seen s.store x) (seen s.store y)
          (seen_grounded (counts made) s.store x (value_is_grounded c made ty x xa)) (seen_grounded (counts made) s.store y (value_is_grounded c made ty y yb))
          ∙ equality_seen c.flat.types to s.store x y

      by : (how : Order) → machine.pointers_compare c.flat.types to how (beside s.store (ts ∷ c.more)) (seen s.store x) (seen s.store y)
          ≡ machine.pointers_compare c.flat.types to how s.store x y
      by order.Equal = are_equal
      by order.NotEqual = ap (λ r. mapped not r) are_equal
      by order.Less = ap (λ r. mapped (λ z. int_lt z (pos 0)) r) differ
      by order.LessEqual = ap (λ r. mapped (λ z. not (int_lt (pos 0) z)) r) differ

  pointers_compared : (how : Order) (a b : Operand) (x y : Value) → type_compared c.flat c.under (frame c place) c.callers a b ≡ Some ty
      → IsOperand c ty used s ts a x → IsOf c made ty x → IsOperand c ty used s ts b y → IsOf c made ty y
      → compared_as how (type_compared c.flat c.under (frame c place) c.callers a b) a b
      ≡ if_ok (as_truth (machine.pointers_compare c.flat.types to how s.store x y)) (goes_on c d place s ts)
  pointers_compared how a b x y e oa xa ob yb =
      ap (λ as_ty. compared_as how as_ty a b) e
      ∙ ap
      (λ x. compared c.flat c.under (frame c place) c.callers (type_at c.flat (Some ty)) how x (operand_of c.flat (Some ty) b (here c s ts place)) (here c s ts place)
      (λ holds. goes_on c d place s ts (int_of holds)))
      (operand_is c set made s ts place ty used a x ready oa xa)
      ∙ ap
      (λ y. compared c.flat c.under (frame c place) c.callers (type_at c.flat (Some ty)) how (seen s.store x) y (here c s ts place)
      (λ holds. goes_on c d place s ts (int_of holds)))
      (operand_is c set made s ts place ty used b y ready ob yb)
      ∙ ap
      (λ shape. compared c.flat c.under (frame c place) c.callers shape how (seen s.store x) (seen s.store y) (here c s ts place)
      (λ holds. goes_on c d place s ts (int_of holds)))
      shape
      ∙ ap (λ r. if_ok r (λ holds. goes_on c d place s ts (int_of holds))) (compares_alike how x y xa yb)
      ∙ shown_truth (machine.pointers_compare c.flat.types to how s.store x y) (goes_on c d place s ts)

  pub pointers_do : (how : Comparison) (a b : Operand) (x y : Value)
      → IsOperand c ty used s ts a x → IsOf c made ty x → IsOperand c ty used s ts b y → IsOf c made ty y → IsVar a
      → does c.flat c.under (frame c place) c.callers (form_of (comparison how d a b)) (here c s ts place)
      ≡ if_ok (as_truth (meaning.pointers_compare c.flat.types c.under.widths how to s.store x y)) (λ w. Goes (put d w (here c s ts (place + 1))))
  pointers_do Less a b x y oa xa ob yb h =
      pointers_compared order.Less a b x y (type_is a b x y oa ob h).0 oa xa ob yb
      ∙ ap (λ r. if_ok (as_truth r) (goes_on c d place s ts)) (mapped_is (λ z. int_lt z (pos 0)) (difference c.flat.types to s.store x y))
  pointers_do Greater a b x y oa xa ob yb h =
      pointers_compared order.Less b a y x (type_is a b x y oa ob h).1 ob yb oa xa
      ∙ ap (λ r. if_ok (as_truth r) (goes_on c d place s ts))
      (difference_turned c.flat.types to (λ z. int_lt z (pos 0)) (λ z. int_lt (pos 0) z) (λ i j. turned_less (pos i) (pos j)) s.store x y)
  pointers_do LessEqual a b x y oa xa ob yb h =
      pointers_compared order.LessEqual a b x y (type_is a b x y oa ob h).0 oa xa ob yb
      ∙ ap (λ r. if_ok (as_truth r) (goes_on c d place s ts))
      (mapped_is (λ z. not (int_lt (pos 0) z)) (difference c.flat.types to s.store x y)
      ∙ ap (λ (test : ℤ → Bool). meaning.if_ok (difference c.flat.types to s.store x y) (λ z. Ok (test z))) (λ i z. not_less z (pos 0) i))
  pointers_do GreaterEqual a b x y oa xa ob yb h =
      pointers_compared order.LessEqual b a y x (type_is a b x y oa ob h).1 ob yb oa xa
      ∙ ap (λ r. if_ok (as_truth r) (goes_on c d place s ts))
      (difference_turned c.flat.types to (λ z. not (int_lt (pos 0) z)) (λ z. int_le (pos 0) z) (λ i j. turned_most (pos i) (pos j)) s.store x y)
  pointers_do Equal a b x y oa xa ob yb h = pointers_compared order.Equal a b x y (type_is a b x y oa ob h).0 oa xa ob yb
  pointers_do NotEqual a b x y oa xa ob yb h =
      pointers_compared order.NotEqual a b x y (type_is a b x y oa ob h).0 oa xa ob yb
      ∙ ap (λ r. if_ok (as_truth r) (goes_on c d place s ts)) (mapped_is not (equality c.flat.types to s.store x y))

module _ (c : Context) (set : IsSetting c) where
  pub truth_gives : (made : StoreTyping) (r : Result Bool Act) → Gives (IsOf c made INT) (as_truth r)
  truth_gives made (Ok b) = truth_is_int c set made b
  truth_gives made (Err a) = tt

  -- operands of one type are not converted
  abbrev comparing_code : (first second : Bool) → Comparison → (d : ℕ) → (a b : Operand) → (ty : ℕ) → InUse → List Command
  comparing_code first second how d a b ty used =
      let t = next_of c.start ty used in
      let t' = next_of c.start ty (used_if first used ty) in
      commands_if (first && may_fail ty ty) (used_commands b)
      ++ (commands_if (not first && (second && may_fail ty ty)) (used_commands a)
      ++ (commands_if first (command.Cast t (var_of a) ∷ [])
      ++ (commands_if second (command.Cast t' (var_of b) ∷ [])
      ++ comparison how d (operand_if first t a) (operand_if second t' b) ∷ [])))

  comparing_is : (how : Comparison) (op_ty d : ℕ) (a b : Operand) (ty label : ℕ) (used : InUse)
      → comparison how d a b ∷ [] ≡ (operate c.start (operator.ComparePointers how op_ty) d a ty b ty used label).commands
  comparing_is how op_ty d a b ty label used =
      sym
      (ap (λ f. comparing_code f (is_converted b ty ty) how d a b ty used) (same_not_converted a ty)
      ∙ ap (λ g. comparing_code false g how d a b ty used) (same_not_converted b ty))

  pub pointers_follow : (how : Comparison) (ty to d place label : ℕ) (a b : Operand) (v w : Value) (made : StoreTyping) (s : Progress) (ts : List Object) (used : InUse)
      → slice_get c.flat.types ty ≡ Some (Pointer to) → IsVar a → IsReady c made s ts
      → IsOperand c ty used s ts a v → IsOf c made ty v → IsOperand c ty used s ts b w → IsOf c made ty w
      → Stands (commands c) place (operate c.start (operator.ComparePointers how ty) d a ty b ty used label).commands
      → Follow c (with_result (meaning.operate c.flat.types c.under.widths (operator.ComparePointers how ty) s.store v w) s (λ w s. Went w s)) (here c s ts place) s.marks
      (Arrives c INT made (Some d) used ts (here c s ts place) s.marks
      (place + length (operate c.start (operator.ComparePointers how ty) d a ty b ty used label).commands))
  pointers_follow how ty to d place label a b v w made s ts used shape var ready oa va ob wb stands =
      let is = comparing_is how ty d a b ty label used in
      let target : pointee_of (slice_get c.flat.types ty) ≡ to = ap (λ shape. pointee_of shape) shape in
      subst
      (λ code.
      Stands (commands c) place code
      → Follow c (with_result (meaning.operate c.flat.types c.under.widths (operator.ComparePointers how ty) s.store v w) s (λ w s. Went w s)) (here c s ts place) s.marks
      (Arrives c INT made (Some d) used ts (here c s ts place) s.marks (place + length code)))
      is
      (λ stands.
      command_follows c INT d place (comparison how d a b) made s ts used _ ready stands.0 (quiet_comparison c set how d a b)
      (pointers_do c set to ty place d made s ts used shape ready how a b v w oa va ob wb var
      ∙ ap (λ k. if_ok (as_truth (meaning.pointers_compare c.flat.types c.under.widths how k s.store v w)) (λ w. Goes (put d w (here c s ts (place + 1))))) (sym target))
      (truth_gives made (meaning.pointers_compare c.flat.types c.under.widths how (pointee_of (slice_get c.flat.types ty)) s.store v w)))
      stands
