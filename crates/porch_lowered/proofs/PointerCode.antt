-- The code of operators that step a pointer, or take the difference of two.
use Rattle.std.proofs.Common.{◌≡◌, ◌<◌, ◌≤◌, ℕ, ◌+◌, ℤ, List, [], ◌∷◌, ◌++◌, length, length-append, refl, sym, ap, subst, ◌∙◌, inl, inr, arith, Bool, true, false, Some}
use Rattle.std.proofs.lemmas.Bool.Decides.{eqb_tells}
use Rattle.std.specs.Prelude.{slice_get, not, ◌&&◌, if◌then◌else◌, Result, Ok}
use Rattle.porch_types.specs.declared.shapes.Kind.{Kind}
use Rattle.porch_types.specs.declared.shapes.Ty.TheVariants.{Whole, Pointer}
use Rattle.porch_types.specs.Kinds.{kind_number}
use Rattle.porch_values.specs.declared.acts.Act.{Act}
use Rattle.porch_values.specs.Integers.{converted}
use Rattle.porch_objects.specs.Store.{Value, number, null, pointer, past, indeterminate, Object, seen}
use Rattle.porch_objects.specs.Pointers.{if_there, if_number, step}
use Rattle.porch_objects.specs.Meaning.{Progress}
use Rattle.porch_flat.specs.declared.flat.Operand.{Operand}
use Rattle.porch_flat.specs.declared.flat.Operand.TheVariants.{Var, Constant}
use Rattle.porch_flat.specs.declared.whole.Command.{Command}
use Rattle.porch_flat.specs.declared.whole.Command.TheVariants as command
use Rattle.porch_flat.specs.declared.whole.Direction.{Direction}
use Rattle.porch_flat.specs.declared.whole.Direction.TheVariants.{Forward, Back}
use Rattle.porch_abstract.specs.whole.Machine.{forward, constant_of}
use Rattle.porch_typed.specs.declared.typed.Operator.{Operator}
use Rattle.porch_typed.specs.declared.typed.Operator.TheVariants as operator
use Rattle.porch_mean.specs.Outcome.{Went, with_result}
use Rattle.porch_mean.specs.Operators.{promoted_kind, as_value}
use Rattle.porch_mean.specs.Operators as meaning
use Rattle.porch_lowering.specs.Code.{InUse}
use Rattle.porch_lowering.specs.Values.{INT}
use Rattle.porch_lowering.specs.Operators.{var_of, used_commands, commands_if, used_if, operand_if, next_of, is_small, is_converted, may_fail, promoted, operate}
use Rattle.porch_sound.specs.Typing.{StoreTyping}
use Rattle.porch_lowered.proofs.States.{Stands, front_stands, back_stands}
use Rattle.porch_lowered.proofs.Codes.{Context, commands, here, IsOf, Follow, IsUsed, IsReady, Arrives}
use Rattle.porch_lowered.proofs.Holding.{IsSetting, kept_types, one_is_used, one_at_least, used_before}
use Rattle.porch_lowered.proofs.Operands.{IsOperand, operand_stays}
use Rattle.porch_lowered.proofs.Conversions.{IsNumber, convert}
use Rattle.porch_lowered.proofs.Commands.{convert_follows}
use Rattle.porch_lowered.proofs.Operate.{InRange, is_number, Fits, same_kind, is_variable, from_here}
use Rattle.porch_lowered.proofs.OperatorCode.{promotes}
use Rattle.porch_lowered.proofs.Pointers.{stepped, step_command, step_follows}

pub same_not_converted : (o : Operand) (ty : ℕ) → is_converted o ty ty ≡ false
same_not_converted (Constant z) ty = refl
same_not_converted (Var x) ty =
    elim (eqb_tells ty ty) [
      | inl w ↦ rw w.0 refl
      | inr w ↦ absurd (w.1 refl)
    ]

-- a promotion meets no act
promotion_safe : (o : Operand) (ty : ℕ) → (is_converted o ty (promoted ty) && may_fail ty (promoted ty)) ≡ false
promotion_safe o ty = by (is_small ty)
  where
    none : (b : Bool) → (b && false) ≡ false
    none true = refl
    none false = refl

    by : (small : Bool) → (is_converted o ty (if small then INT else ty) && may_fail ty (if small then INT else ty)) ≡ false
    by true = none (is_converted o ty INT)
    by false = ap (λ b. b && may_fail ty ty) (same_not_converted o ty)

-- a number that is converted stays what it is
number_steps : (b : Bool) (conversion : ℤ → Result ℤ Act) (P : ℤ → Type 0) (x y : Value) (g : Value → ℤ → Result Value Act) → ((z : ℤ) → P z → conversion z ≡ Ok z) → IsNumber P y
    → meaning.if_ok (convert b conversion y) (λ y. if_there x (λ p. if_there y (λ z. if_number z (λ z. g p z))))
    ≡ if_there x (λ p. if_there y (λ z. if_number z (λ z. g p z)))
number_steps false conversion P x y g same p = refl
number_steps true conversion P x (number z) g same p = ap (λ r. meaning.if_ok (as_value r) (λ y. if_there x (λ p. if_there y (λ z. if_number z (λ z. g p z))))) (same z p)
number_steps true conversion P x null g same p = absurd p
number_steps true conversion P x (pointer home leaf) g same p = absurd p
number_steps true conversion P x (past home leaf until) g same p = absurd p
number_steps true conversion P (number z) indeterminate g same p = refl
number_steps true conversion P null indeterminate g same p = refl
number_steps true conversion P (pointer home leaf) indeterminate g same p = refl
number_steps true conversion P (past home leaf until) indeterminate g same p = refl
number_steps true conversion P indeterminate indeterminate g same p = refl

module _ (c : Context) (set : IsSetting c) where
  -- the number, promoted, and the step
  abbrev pub stepping_code : Direction → (d t : ℕ) → (b : Operand) → (ty' right : ℕ) → InUse → List Command
  stepping_code way d t b ty' right used =
      let second = is_converted b ty' right in
      let t' = next_of c.start right used in
      commands_if second (command.Cast t' (var_of b) ∷ []) ++ step_command c set way d t (operand_if second t' b) ∷ []

  pub number_fits : (made : StoreTyping) (ty : ℕ) (from : Kind) (s : Progress) (ts : List Object) (used : InUse) (o : Operand) (v : Value) → slice_get c.flat.types ty ≡ Some (Whole from)
      → IsOperand c ty used s ts o v → IsOf c made ty v → Fits c set (promoted_kind from) o
  number_fits made ty from s ts used (Var x) v shape operand of = tt
  number_fits made ty from s ts used (Constant z) v shape operand of =
      let value : number z ≡ v = sym (ap (λ shape. constant_of shape z) shape) ∙ operand in
      promotes c set from z (subst (λ v. IsNumber (InRange c set from) v) (sym value) (is_number c set made ty from v shape of))

  pub stepping_follows : (way : Direction) (ty to ty' d place t : ℕ) (from : Kind) (b : Operand) (v w : Value) (made : StoreTyping) (s : Progress) (ts : List Object) (used : InUse)
      → slice_get c.flat.types ty ≡ Some (Pointer to) → slice_get c.flat.types ty' ≡ Some (Whole from) → IsReady c made s ts
      → IsOperand c ty used s ts (Var t) v → IsOf c made ty v → IsOperand c ty' used s ts b w → IsOf c made ty' w
      → ((k : ℕ) → used_if (is_converted b ty' (kind_number (promoted_kind from))) used (kind_number (promoted_kind from)) k ≤ c.pools k)
      → Stands (commands c) place (stepping_code way d t b ty' (kind_number (promoted_kind from)) used)
      → Follow c (with_result (stepped c.flat.types to (forward way) s.store v w) s (λ w s. Went w s)) (here c s ts place) s.marks
      (Arrives c ty made (Some d) used ts (here c s ts place) s.marks (place + length (stepping_code way d t b ty' (kind_number (promoted_kind from)) used)))
  stepping_follows way ty to ty' d place t from b v w made s ts used shape shape' ready ot vt ob wb room stands =
      let kind = promoted_kind from in
      let right = kind_number kind in
      let second = is_converted b ty' right in
      let t' = next_of c.start right used in
      let casts = commands_if second (command.Cast t' (var_of b) ∷ []) in
      let x = step_command c set way d t (operand_if second t' b) in
      let middle = place + length casts in
      let end : middle + 1 ≡ place + length (casts ++ x ∷ []) = simp length-append (omega arith) in
      let w_number = is_number c set made ty' from (seen s.store w) shape' ((kept_types c set made s ts ready).values ty' w wb) in
      let room_used : (k : ℕ) → used k ≤ c.pools k = λ k. room_less second used right k (room k) in
      subst
      (λ r. Follow c (with_result r s (λ w s. Went w s)) (here c s ts place) s.marks (Arrives c ty made (Some d) used ts (here c s ts place) s.marks (place + length (casts ++ x ∷ []))))
      (number_steps second (λ z. converted kind c.under.widths z) (InRange c set from) (seen s.store v) (seen s.store w) (λ p z. step c.flat.types to s.store p (forward way z))
      (λ z range. set.same kind z (promotes c set from z range)) w_number)
      (rw (← end)
      (convert_follows c set second kind ty' place made s ts used b w _ _ ready ob wb (λ e. is_variable c set ty' right b e)
      (λ e. same_kind c set made s ts used ty' from kind b w shape' (set.whole ty' from shape') (number_fits made ty' from s ts used b w shape' ob wb) ob wb e)
      (λ e. room_one second used right e (room right)) room_used (front_stands (commands c) place casts (x ∷ []) stands) (λ y converted.
      from_here c set ty d place middle (middle + 1) made s ts converted.temporaries used (used_if second used right) _ converted.onward converted.kept (λ i u. more_used second used right i u)
      (subst
      (λ y. Follow c (with_result (if_there (seen s.store v) (λ p. if_there y (λ z. if_number z (λ z. step c.flat.types to s.store p (forward way z))))) s (λ w s. Went w s))
      (here c s converted.temporaries middle) s.marks (Arrives c ty made (Some d) (used_if second used right) converted.temporaries (here c s converted.temporaries middle) s.marks (middle + 1)))
      converted.is
      (step_follows c set way ty to right middle d t kind (operand_if second t' b) made s converted.temporaries (used_if second used right) v converted.value shape (set.kinds kind) converted.ready
      (operand_stays c ty used (used_if second used right) s ts converted.temporaries (Var t) v (λ i u. more_used second used right i u) converted.kept ot) vt converted.operand converted.of
      (back_stands (commands c) place casts (x ∷ []) stands).0)))))
    where
      room_less : (b : Bool) (used : InUse) (ty t : ℕ) → used_if b used ty t ≤ c.pools t → used t ≤ c.pools t
      room_less true used ty t h = (let a = one_at_least c set ty used t in omega (arith, a, h))
      room_less false used ty t h = h

      room_one : (b : Bool) (used : InUse) (ty : ℕ) → b ≡ true → used_if b used ty ty ≤ c.pools ty → used ty < c.pools ty
      room_one true used ty e h = (let a = one_is_used c set ty used in omega (arith, a, h))
      room_one false used ty e h = cc

      more_used : (b : Bool) (used : InUse) (ty : ℕ) (i : ℕ) → IsUsed c used i → IsUsed c (used_if b used ty) i
      more_used true used ty i u = used_before c set ty used i u
      more_used false used ty i u = u

  -- the code of an operator on a left operand of a type, and a right one that is converted to a type
  abbrev general_code : (first second_fails : Bool) → (left_fails : Bool) → (d : ℕ) → (a b : Operand) → (ty ty' right : ℕ) → InUse → (make : (target : ℕ) → (left right : Operand) → Command) → List Command
  general_code first second_fails left_fails d a b ty ty' right used make =
      let second = is_converted b ty' right in
      let t = next_of c.start ty used in
      let with_left = used_if first used ty in
      let t' = next_of c.start right with_left in
      commands_if (first && left_fails) (used_commands b)
      ++ (commands_if (not first && second_fails) (used_commands a)
      ++ (commands_if first (command.Cast t (var_of a) ∷ [])
      ++ (commands_if second (command.Cast t' (var_of b) ∷ [])
      ++ make d (operand_if first t a) (operand_if second t' b) ∷ [])))

  general_is : (d : ℕ) (a b : Operand) (ty ty' right : ℕ) (used : InUse) (make : (target : ℕ) → (left right : Operand) → Command) (fails : Bool) (left_fails : Bool) → fails ≡ false
      → general_code (is_converted a ty ty) fails left_fails d a b ty ty' right used make ≡ general_code false false left_fails d a b ty ty' right used make
  general_is d a b ty ty' right used make fails left_fails e =
      ap (λ f. general_code f fails left_fails d a b ty ty' right used make) (same_not_converted a ty)
      ∙ ap (λ g. general_code false g left_fails d a b ty ty' right used make) e

  abbrev pub steps : Direction → (to : ℕ) → Operator
  steps Forward to = operator.Forward to
  steps Back to = operator.Back to

  pub steps_code : (way : Direction) (op_ty d t : ℕ) (b : Operand) (ty ty' label : ℕ) (used : InUse)
      → stepping_code way d t b ty' (promoted ty') used ≡ (operate c.start (steps way op_ty) d (Var t) ty b ty' used label).commands
  steps_code Forward op_ty d t b ty ty' label used =
      sym (general_is d (Var t) b ty ty' (promoted ty') used (λ d a b. command.Step d (var_of a) b) (is_converted b ty' (promoted ty') && may_fail ty' (promoted ty')) (may_fail ty ty) (promotion_safe b ty'))
  steps_code Back op_ty d t b ty ty' label used =
      sym (general_is d (Var t) b ty ty' (promoted ty') used (λ d a b. command.Back d (var_of a) b) (is_converted b ty' (promoted ty') && may_fail ty' (promoted ty')) (may_fail ty ty) (promotion_safe b ty'))

  no_more : (b : Bool) → (b && false) ≡ false
  no_more true = refl
  no_more false = refl

  -- a number in front of a pointer
  abbrev turned_code : (first second : Bool) → (left_fails right_fails : Bool) → (d t : ℕ) → (a : Operand) → (ty' right : ℕ) → InUse → List Command
  turned_code first second left_fails right_fails d t a ty' right used =
      let x = next_of c.start right used in
      let y = next_of c.start ty' (used_if first used right) in
      commands_if left_fails (used_commands (Var t))
      ++ (commands_if right_fails (used_commands a)
      ++ (commands_if first (command.Cast x (var_of a) ∷ [])
      ++ (commands_if second (command.Cast y t ∷ [])
      ++ command.Step d (var_of (operand_if second y (Var t))) (operand_if first x a) ∷ [])))

  pub steps_of_code : (op_ty d t : ℕ) (a : Operand) (ty ty' label : ℕ) (used : InUse)
      → stepping_code Forward d t a ty (promoted ty) used ≡ (operate c.start (operator.ForwardOf op_ty) d a ty (Var t) ty' used label).commands
  steps_of_code op_ty d t a ty ty' label used =
      let first = is_converted a ty (promoted ty) in
      let second = is_converted (Var t) ty' ty' in
      sym
      (ap (λ g. turned_code first g (first && may_fail ty (promoted ty)) (not first && (g && may_fail ty' ty')) d t a ty' (promoted ty) used) (same_not_converted (Var t) ty')
      ∙ ap (λ fails. turned_code first false (first && may_fail ty (promoted ty)) fails d t a ty' (promoted ty) used) (no_more (not first))
      ∙ ap (λ fails. turned_code first false fails false d t a ty' (promoted ty) used) (promotion_safe a ty))

  -- two pointers of a type
  abbrev differing_code : (first second : Bool) → (d t u ty : ℕ) → InUse → List Command
  differing_code first second d t u ty used =
      let x = next_of c.start ty used in
      let y = next_of c.start ty (used_if first used ty) in
      commands_if (first && may_fail ty ty) (used_commands (Var u))
      ++ (commands_if (not first && (second && may_fail ty ty)) (used_commands (Var t))
      ++ (commands_if first (command.Cast x t ∷ [])
      ++ (commands_if second (command.Cast y u ∷ [])
      ++ command.Diff d (var_of (operand_if first x (Var t))) (var_of (operand_if second y (Var u))) ∷ [])))

  pub differences_code : (op_ty d t u ty label : ℕ) (used : InUse)
      → command.Diff d t u ∷ [] ≡ (operate c.start (operator.Difference op_ty) d (Var t) ty (Var u) ty used label).commands
  differences_code op_ty d t u ty label used =
      sym
      (ap (λ f. differing_code f (is_converted (Var u) ty ty) d t u ty used) (same_not_converted (Var t) ty)
      ∙ ap (λ g. differing_code false g d t u ty used) (same_not_converted (Var u) ty))
