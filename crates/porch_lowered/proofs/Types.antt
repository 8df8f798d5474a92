-- The type that lowering takes an expression to have is the one that it has.
use Rattle.std.proofs.Common.{◌≡◌, ℕ, refl, sym, ap, ◌∙◌, Option, Some, None}
use Rattle.std.specs.Prelude.{slice_get}
use Rattle.porch_typed.specs.declared.typed.Operator.{Operator}
use Rattle.porch_typed.specs.Mirror as tree
use Rattle.porch_typed.specs.Mirror.{Expression, Expressions, Steps, Program, Function}
use Rattle.porch_typed.specs.Typed as typed
use Rattle.porch_typed.specs.Typed.{Applies, arithmetic, shift, compare, compare_pointers, forward, back, forward_of, difference, HasType, HasLast, Gives}
use Rattle.porch_lowering.specs.Values.{operator_type, steps_type, result_of, type_of, last_type}
use Rattle.porch_lowered.proofs.Applied.{kind_type}

module _ (p : Program) (f : Function) where
  pub applied_type : (op : Operator) (left right ty : ℕ) → Applies p.types op left right ty → operator_type op ≡ ty
  applied_type op left right ty (arithmetic o kind l r plain fit whole whole') = kind_type kind
  applied_type op left right ty (shift o kind l r plain fit whole whole') = kind_type kind
  applied_type op left right ty (compare how kind l r fit whole whole') = refl
  applied_type op left right ty (compare_pointers how to pointer) = refl
  applied_type op left right ty (forward to r pointer whole) = refl
  applied_type op left right ty (back to r pointer whole) = refl
  applied_type op left right ty (forward_of to l whole pointer) = refl
  applied_type op left right ty (difference to pointer) = refl

  same_result : (found : Option Function) → result_of found ≡ typed.result_of p f found
  same_result None = refl
  same_result (Some g) = refl

  mutual
    pub type_is : (e : Expression) (ty : Option ℕ) → HasType p f e ty → type_of p e ≡ ty
    type_is (tree.constant kind z) ty h = ap (λ t. Some t) (kind_type kind) ∙ sym h.0
    type_is (tree.null_pointer t) ty h = sym h.0
    type_is (tree.read t place) ty h = sym h.0
    type_is (tree.whole t place) ty h = sym h.0
    type_is (tree.address t place) ty h = sym h.0
    type_is (tree.first t place) ty h = sym h.0
    type_is (tree.row e steps) ty h = ap (λ t. steps_type steps t) (type_is e (Some h.0) h.1) ∙ steps_are steps h.0 ty h.3
    type_is (tree.all_of e es) ty h = sym h.0
    type_is (tree.any_of e es) ty h = sym h.0
    type_is (tree.unary op kind e) ty h = ap (λ t. Some t) (kind_type kind) ∙ sym h.0
    type_is (tree.isnt e) ty h = sym h.0
    type_is (tree.choice t e a b) ty h = sym h.0
    type_is (tree.sequence e es) ty h = last_is es (type_of p e) ty h.2 h.3
    type_is (tree.assign t place e) ty h = sym h.0
    type_is (tree.assign_by t op place e) ty h = sym h.0
    type_is (tree.increment t before way place) ty h = sym h.0
    type_is (tree.conversion kind e) ty h = ap (λ t. Some t) (kind_type kind) ∙ sym h.0
    type_is (tree.discard e) ty h = sym h.0
    type_is (tree.member_of t leaf e) ty h = sym h.0
    type_is (tree.call g es) ty h = same_result (slice_get p.functions g) ∙ sym h.0
    type_is (tree.put_character e) ty h = sym h.0
    type_is (tree.put_text e) ty h = sym h.0
    type_is (tree.put_literal bs) ty h = sym h.0
    type_is (tree.print xs) ty h = sym h.0
    type_is (tree.allocate t zeroed e) ty h = sym h.0
    type_is (tree.release e) ty h = sym h.0
    type_is tree.checkpoint ty h = sym h

    pub steps_are : (steps : Steps) (left : ℕ) (ty : Option ℕ) → Gives p f steps left ty → steps_type steps (Some left) ≡ ty
    steps_are tree.no_steps left ty h = sym h
    steps_are (tree.with_step op e steps) left ty h =
        ap (λ t. steps_type steps (Some t)) (applied_type op left h.0 h.1 h.3) ∙ steps_are steps h.1 ty h.4

    pub last_is : (es : Expressions) (first ty : Option ℕ) → (es ≡ tree.no_expressions → ⊥) → HasLast p f es ty → last_type p es first ≡ ty
    last_is tree.no_expressions first ty some h = absurd (some refl)
    last_is (tree.with_expression e tree.no_expressions) first ty some h = type_is e ty h
    last_is (tree.with_expression e (tree.with_expression e' es)) first ty some h = last_is (tree.with_expression e' es) (type_of p e) ty (λ e. cc) h.2
