-- The code of an operator follows what it makes of two operands that are there.
use Rattle.std.proofs.Common.{◌≡◌, ◌≤◌, ℕ, ◌+◌, ℤ, List, [], ◌∷◌, ◌++◌, length, refl, sym, ap, subst, ◌∙◌, false, Some}
use Rattle.std.specs.Prelude.{⊤, slice_get, not, ◌&&◌, IsTrue}
use Rattle.porch_types.specs.declared.shapes.Kind.{Kind}
use Rattle.porch_types.specs.declared.shapes.Kind.TheVariants.{Char, UChar, Short, UShort, Int, UInt, Long, ULong}
use Rattle.porch_types.specs.declared.shapes.Ty.TheVariants.{Whole}
use Rattle.porch_types.specs.Kinds.{kind_number}
use Rattle.porch_values.specs.declared.acts.Op.{Op}
use Rattle.porch_values.specs.Integers.{applied, converted}
use Rattle.porch_objects.specs.Store.{Value, number, null, pointer, past, indeterminate, Object, seen}
use Rattle.porch_objects.specs.Pointers.{if_there, if_number}
use Rattle.porch_objects.specs.Meaning.{Progress}
use Rattle.porch_flat.specs.declared.flat.Operand.{Operand}
use Rattle.porch_flat.specs.declared.flat.Operand.TheVariants.{Var, Constant}
use Rattle.porch_flat.specs.declared.whole.Command.{Command}
use Rattle.porch_flat.specs.declared.whole.Command.TheVariants as command
use Rattle.porch_typed.specs.declared.typed.Comparison.{Comparison}
use Rattle.porch_typed.specs.declared.typed.Operator.TheVariants as operator
use Rattle.porch_mean.specs.Outcome.{Went, with_result}
use Rattle.porch_mean.specs.Operators.{promoted_kind, as_value}
use Rattle.porch_mean.specs.Operators as meaning
use Rattle.porch_lowering.specs.Code.{InUse}
use Rattle.porch_lowering.specs.Values.{INT, Accepts, constant_in}
use Rattle.porch_lowering.specs.Operators.{var_of, used_commands, commands_if, used_if, operand_if, next_of, is_converted, may_fail, promoted, arithmetic, comparison, operate}
use Rattle.porch_sound.specs.Typing.{StoreTyping}
use Rattle.porch_lowered.proofs.States.{Stands}
use Rattle.porch_lowered.proofs.Codes.{Context, commands, here, IsOf, Follow, IsReady, MayGo, Arrives}
use Rattle.porch_lowered.proofs.Holding.{IsSetting, kept_types}
use Rattle.porch_lowered.proofs.Operands.{IsOperand}
use Rattle.porch_lowered.proofs.Numbers.{narrow_fits, small_is_int}
use Rattle.porch_lowered.proofs.Conversions.{IsNumber, source_gives}
use Rattle.porch_lowered.proofs.Operate.{InRange, is_number, Fits, converted_code, operands_follow}
use Rattle.porch_lowered.proofs.Integers.{of_numbers, arithmetic_finishes}
use Rattle.porch_lowered.proofs.Comparisons.{tested, IsVar, comparison_finishes}

-- a constant is one that may stand as an operand
abbrev pub IsAccepted : Accepts → Operand → Type 0
IsAccepted accepts (Var x) = ⊤
IsAccepted accepts (Constant z) = IsTrue (accepts z)

pub promoted_number : (kind : Kind) → promoted (kind_number kind) ≡ kind_number (promoted_kind kind)
promoted_number Char = refl
promoted_number UChar = refl
promoted_number Short = refl
promoted_number UShort = refl
promoted_number Int = refl
promoted_number UInt = refl
promoted_number Long = refl
promoted_number ULong = refl

pub never_constant : (o : Operand) → IsAccepted (λ z. false) o → IsVar o
never_constant (Var x) h = tt
never_constant (Constant z) h = cc

module _ (c : Context) (set : IsSetting c) where
  pub fits : (kind : Kind) (o : Operand) → IsAccepted (constant_in kind) o → Fits c set kind o
  fits kind (Var x) h = tt
  fits kind (Constant z) h = narrow_fits kind c.under.widths z h

  -- a value of a kind is one of the kind that it is promoted to
  pub promotes : (kind : Kind) (z : ℤ) → InRange c set kind z → InRange c set (promoted_kind kind) z
  promotes Char z h = small_is_int c.under.widths Char refl z h
  promotes UChar z h = small_is_int c.under.widths UChar refl z h
  promotes Short z h = small_is_int c.under.widths Short refl z h
  promotes UShort z h = small_is_int c.under.widths UShort refl z h
  promotes Int z h = h
  promotes UInt z h = h
  promotes Long z h = h
  promotes ULong z h = h

  -- a shift's count needs no conversion in the source
  shifted : (o : Op) (kind from : Kind) (x y : Value) → IsNumber (InRange c set from) y
      → source_gives (λ z. converted kind c.under.widths z) (λ z. converted (promoted_kind from) c.under.widths z) (of_numbers (λ x y. applied o kind c.under.widths x y)) x y
      ≡ if_there x (λ x. if_there y (λ y. if_number x (λ x. if_number y (λ y.
      meaning.if_ok (converted kind c.under.widths x) (λ x. as_value (applied o kind c.under.widths x y))))))
  shifted o kind from x (number y) range =
      ap
      (λ r.
      if_there x (λ x. if_number x (λ x.
      meaning.if_ok (converted kind c.under.widths x) (λ x. meaning.if_ok r (λ y. as_value (applied o kind c.under.widths x y))))))
      (set.same (promoted_kind from) y (promotes from y range))
  shifted o kind from x null range = absurd range
  shifted o kind from x (pointer home leaf) range = absurd range
  shifted o kind from x (past home leaf until) range = absurd range
  shifted o kind from x indeterminate range = refl

  -- the code of a shift whose count is converted to this type
  abbrev shifted_code : Op → Kind → (right : ℕ) → (d : ℕ) → (a : Operand) → (ty : ℕ) → (b : Operand) → (ty' : ℕ) → InUse → List Command
  shifted_code o kind right d a ty b ty' used =
      let to = kind_number kind in
      let first = is_converted a ty to in
      let second = is_converted b ty' right in
      let t = next_of c.start to used in
      let with_left = used_if first used to in
      let t' = next_of c.start right with_left in
      commands_if (first && may_fail ty to) (used_commands b)
      ++ (commands_if (not first && (second && may_fail ty' right)) (used_commands a)
      ++ (commands_if first (command.Cast t (var_of a) ∷ [])
      ++ (commands_if second (command.Cast t' (var_of b) ∷ [])
      ++ arithmetic o d (operand_if first t a) (operand_if second t' b) ∷ [])))

  module _ (ty ty' d place label : ℕ) (from from' : Kind) (a b : Operand) (v w : Value) (made : StoreTyping) (s : Progress) (ts : List Object) (used : InUse)
      (shape : slice_get c.flat.types ty ≡ Some (Whole from)) (shape' : slice_get c.flat.types ty' ≡ Some (Whole from'))
      (ready : IsReady c made s ts) (oa : IsOperand c ty used s ts a v) (va : IsOf c made ty v) (ob : IsOperand c ty' used s ts b w) (wb : IsOf c made ty' w) where
    pub arithmetic_follows : (o : Op) (kind : Kind) → IsAccepted (constant_in kind) a → IsAccepted (constant_in kind) b → MayGo c (kind_number kind) (Some d)
        → ((t : ℕ) → (operate c.start (operator.Arithmetic o kind) d a ty b ty' used label).most t ≤ c.pools t)
        → Stands (commands c) place (operate c.start (operator.Arithmetic o kind) d a ty b ty' used label).commands
        → Follow c (with_result (meaning.operate c.flat.types c.under.widths (operator.Arithmetic o kind) s.store v w) s (λ w s. Went w s)) (here c s ts place) s.marks
        (Arrives c (kind_number kind) made (Some d) used ts (here c s ts place) s.marks
        (place + length (operate c.start (operator.Arithmetic o kind) d a ty b ty' used label).commands))
    arithmetic_follows o kind fit fit' may room stands =
        operands_follow c set (λ a. ⊤) kind kind from from' ty ty' (kind_number kind) d place (of_numbers (λ x y. applied o kind c.under.widths x y)) (arithmetic o)
        a b v w made s ts used (arithmetic_finishes c set o kind kind) (λ t. tt) tt shape (set.whole ty from shape) shape' (set.whole ty' from' shape') (fits kind a fit) (fits kind b fit')
        ready oa va ob wb may room stands

    pub comparison_follows : (how : Comparison) (kind : Kind) → IsVar a → IsAccepted (constant_in kind) b → MayGo c INT (Some d)
        → ((t : ℕ) → (operate c.start (operator.Compare how kind) d a ty b ty' used label).most t ≤ c.pools t)
        → Stands (commands c) place (operate c.start (operator.Compare how kind) d a ty b ty' used label).commands
        → Follow c (with_result (meaning.operate c.flat.types c.under.widths (operator.Compare how kind) s.store v w) s (λ w s. Went w s)) (here c s ts place) s.marks
        (Arrives c INT made (Some d) used ts (here c s ts place) s.marks
        (place + length (operate c.start (operator.Compare how kind) d a ty b ty' used label).commands))
    comparison_follows how kind var fit' may room stands =
        operands_follow c set IsVar kind kind from from' ty ty' INT d place (tested (λ x y. meaning.compares how x y)) (comparison how)
        a b v w made s ts used (comparison_finishes c set how kind) (λ t. tt) var shape (set.whole ty from shape) shape' (set.whole ty' from' shape') (of_var a var) (fits kind b fit')
        ready oa va ob wb may room stands
      where
        of_var : (a : Operand) → IsVar a → Fits c set kind a
        of_var (Var x) h = tt
        of_var (Constant z) h = absurd h

    pub shift_follows : (o : Op) (kind : Kind) → IsAccepted (constant_in kind) a → Fits c set (promoted_kind from') b → MayGo c (kind_number kind) (Some d)
        → ((t : ℕ) → (operate c.start (operator.Shift o kind) d a ty b ty' used label).most t ≤ c.pools t)
        → Stands (commands c) place (operate c.start (operator.Shift o kind) d a ty b ty' used label).commands
        → Follow c (with_result (meaning.operate c.flat.types c.under.widths (operator.Shift o kind) s.store v w) s (λ w s. Went w s)) (here c s ts place) s.marks
        (Arrives c (kind_number kind) made (Some d) used ts (here c s ts place) s.marks
        (place + length (operate c.start (operator.Shift o kind) d a ty b ty' used label).commands))
    shift_follows o kind fit fit' may room stands =
        let is' = set.whole ty' from' shape' in
        let to : promoted ty' ≡ kind_number (promoted_kind from') = ap (λ t. promoted t) is' ∙ promoted_number from' in
        let w_number = is_number c set made ty' from' (seen s.store w) shape' ((kept_types c set made s ts ready).values ty' w wb) in
        let same = shifted o kind from' (seen s.store v) (seen s.store w) w_number in
        let code_is : converted_code c set kind (promoted_kind from') (arithmetic o) d a ty b ty' used ≡ (operate c.start (operator.Shift o kind) d a ty b ty' used label).commands =
        ap (λ t. shifted_code o kind t d a ty b ty' used) (sym to) in
        subst
        (λ code.
        Stands (commands c) place code
        → Follow c (with_result (meaning.operate c.flat.types c.under.widths (operator.Shift o kind) s.store v w) s (λ w s. Went w s)) (here c s ts place) s.marks
        (Arrives c (kind_number kind) made (Some d) used ts (here c s ts place) s.marks (place + length code)))
        code_is
        (λ stands.
        subst
        (λ r. Follow c (with_result r s (λ w s. Went w s)) (here c s ts place) s.marks
        (Arrives c (kind_number kind) made (Some d) used ts (here c s ts place) s.marks
        (place + length (converted_code c set kind (promoted_kind from') (arithmetic o) d a ty b ty' used))))
        same
        (operands_follow c set (λ a. ⊤) kind (promoted_kind from') from from' ty ty' (kind_number kind) d place (of_numbers (λ x y. applied o kind c.under.widths x y)) (arithmetic o)
        a b v w made s ts used (arithmetic_finishes c set o kind (promoted_kind from')) (λ t. tt) tt shape (set.whole ty from shape) shape' is' (fits kind a fit) fit'
        ready oa va ob wb may
        (subst (λ t. (k : ℕ) → used_if (is_converted b ty' t) (used_if (is_converted a ty (kind_number kind)) used (kind_number kind)) t k ≤ c.pools k) to room)
        stands))
        stands
