-- Choices, assignments and casts.
use Rattle.std.proofs.Common.{◌≡◌, ℕ, refl, sym, ap, subst, ◌∙◌, inl, inr, Option, Some, None, Bool, true, false, Result, Ok, Err}
use Rattle.std.proofs.lemmas.Bool.{eqb-true}
use Rattle.std.specs.Prelude.{nat_eq, if◌then◌else◌, ◌&&◌}
use Rattle.porch_lex.specs.declared.refusal.Refusal.{Refusal}
use Rattle.porch_lex.specs.declared.refusal.Rule.TheVariants.{Mismatch}
use Rattle.porch_types.specs.declared.shapes.Kind.{Kind}
use Rattle.porch_types.specs.declared.shapes.Kind.TheVariants.{Int}
use Rattle.porch_types.specs.Kinds.{kind_number, int_type}
use Rattle.porch_values.specs.declared.acts.Op.{Op}
use Rattle.porch_values.specs.declared.acts.Op.TheVariants.{Add, Sub}
use Rattle.porch_tree.specs.declared.tree.Assigning.{Assigning}
use Rattle.porch_tree.specs.declared.tree.Assigning.TheVariants as assigning
use Rattle.porch_typed.specs.declared.typed.Operator.{Operator}
use Rattle.porch_typed.specs.declared.typed.Operator.TheVariants as operator
use Rattle.porch_typed.specs.Mirror as tree
use Rattle.porch_typed.specs.Mirror.{Expression, whole, first, choice, assign, assign_by, conversion, discard, Place}
use Rattle.porch_typed.specs.Typed.{type_of_kind, IsScalar, IsWhole, IsStored, does_compare, Applies}
use Rattle.porch_check.specs.Refusals.{refuse, and_then}
use Rattle.porch_check.specs.Shapes.{Shape, void, pointer, array, structure, function, Shapes, shape_of, is_complete}
use Rattle.porch_check.specs.Shapes as shape
use Rattle.porch_check.specs.Scopes.{Scopes, with_shape}
use Rattle.porch_check.specs.Operands.{Value, integer, address, no_address, record_of, nothing, Typed, typed_as, Form, operand, place, go_on, value_in, value_at, read_value, is_scalar, is_null, null_as, fitted_to, fitted}
use Rattle.porch_check.specs.Operators.{Operation, operation, if_complete, addition, subtraction, choice_of, chosen_form, choice_form, infix_of, operated, assigned_by, assigned, assign_form, cast_to_kind, is_address_of, cast_to_pointer, cast_to_other, cast_form}
use Rattle.porch_check.specs.Operators as node
use Rattle.porch_check.specs.Sealing.{sealed_operator}
use Rattle.porch_typing.specs.Shapes.{IsKnown, IsShape, ComeTo}
use Rattle.porch_typing.specs.States.{IsState, Holds, Gives}
use Rattle.porch_typing.specs.Ends.{End, IsEnd, seal, Agrees}
use Rattle.porch_typing.specs.Forms.{IsKnownForm, Anything, type_of_value, IsValue, IsOperand, IsForm, Leads}
use Rattle.porch_typing.proofs.Shapes.{shape_is, known_shape}
use Rattle.porch_typing.proofs.States.{refused, pure, under, gives_all}
use Rattle.porch_typing.proofs.Ends.{kind_seal, kind_whole, kind_scalar, pointer_scalar, struct_is, shape_on}
use Rattle.porch_typing.proofs.Values.{Has, as_operand, IsValued, value_type, value_is, value_rule, null_typed, Fits, fitted_rule}
use Rattle.porch_typing.proofs.Operators.{IsOperated, by_test, joined_given, kind_has, address_has, address_is, IsOperation, JoinsValues, operated_rule, nulls_whole, Tests, scalar_test}
use Rattle.porch_typing.proofs.Nodes.{conditioned}

-- The operator of an assignment compares nothing.

abbrev Plain : Operation → Type 0
Plain o = does_compare o.operator ≡ false

plain_arithmetic : (op : Op) (at : ℕ) (u : Value) (y : Typed) (v : Value) → Gives Plain (node.arithmetic op at u y v)
plain_arithmetic op at (integer a) y (integer b) = joined_given Plain at a b _ (λ kind good. record { is = refl })
plain_arithmetic op at u y v = record { is = tt }

plain_shift : (op : Op) (at : ℕ) (u : Value) (y : Typed) (v : Value) → Gives Plain (node.shift op at u y v)
plain_shift op at (integer a) y (integer b) = record { is = refl }
plain_shift op at u y v = record { is = tt }

plain_addition : (at : ℕ) (s : Scopes) (u : Value) (y : Typed) (v : Value) → Gives Plain (addition at s u y v)
plain_addition at s (address n to) y (integer b) = by_test Plain (is_complete s.shapes to) _ _ at (λ e. refl)
plain_addition at s (integer a) y (address n to) = by_test Plain (is_complete s.shapes to) _ _ at (λ e. refl)
plain_addition at s u y v = plain_arithmetic Add at u y v

plain_subtraction : (at : ℕ) (s : Scopes) (u : Value) (y : Typed) (v : Value) → Gives Plain (subtraction at s u y v)
plain_subtraction at s (address n to) y (integer b) = by_test Plain (is_complete s.shapes to) _ _ at (λ e. refl)
plain_subtraction at s (address n to) y (address m of) = by (nat_eq n m)
  where
    by : (b : Bool) → Gives Plain (if b then if_complete s to at (operation (Rattle.porch_typed.specs.declared.typed.Operator.TheVariants.Difference n) y.tree (integer Rattle.porch_types.specs.declared.shapes.Kind.TheVariants.Long)) else refuse Mismatch at)
    by true = by_test Plain (is_complete s.shapes to) _ _ at (λ e. refl)
    by false = record { is = tt }
plain_subtraction at s u y v = plain_arithmetic Sub at u y v

plain_operated : (a : Assigning) (at : ℕ) (x y : Typed) (s : Scopes) → Gives Plain (operated (infix_of a) at x y s)
plain_operated assigning.Mul at x y s = plain_arithmetic _ at x.value y y.value
plain_operated assigning.Div at x y s = plain_arithmetic _ at x.value y y.value
plain_operated assigning.Rem at x y s = plain_arithmetic _ at x.value y y.value
plain_operated assigning.Sub at x y s = plain_subtraction at s x.value y y.value
plain_operated assigning.ShiftLeft at x y s = plain_shift _ at x.value y y.value
plain_operated assigning.ShiftRight at x y s = plain_shift _ at x.value y y.value
plain_operated assigning.BitAnd at x y s = plain_arithmetic _ at x.value y y.value
plain_operated assigning.BitXor at x y s = plain_arithmetic _ at x.value y y.value
plain_operated assigning.BitOr at x y s = plain_arithmetic _ at x.value y y.value
plain_operated a at x y s = plain_addition at s x.value y y.value

plain_sealed : (w : End) (op : Operator) → does_compare (sealed_operator (seal w) op) ≡ does_compare op
plain_sealed w (operator.Arithmetic op kind) = refl
plain_sealed w (operator.Shift op kind) = refl
plain_sealed w (operator.Compare c kind) = refl
plain_sealed w (operator.ComparePointers c ty) = refl
plain_sealed w (operator.Forward ty) = refl
plain_sealed w (operator.Back ty) = refl
plain_sealed w (operator.ForwardOf ty) = refl
plain_sealed w (operator.Difference ty) = refl

module _ (w : End) (h : IsEnd w) where
  joins_values : (a : Assigning) → JoinsValues w h (infix_of a)
  joins_values assigning.Mul = tt
  joins_values assigning.Div = tt
  joins_values assigning.Rem = tt
  joins_values assigning.Sub = tt
  joins_values assigning.ShiftLeft = tt
  joins_values assigning.ShiftRight = tt
  joins_values assigning.BitAnd = tt
  joins_values assigning.BitXor = tt
  joins_values assigning.BitOr = tt
  joins_values a = tt

  abbrev F : Form → Type 0
  F f = IsForm w f

  chosen_as : (c x y : Typed) (ty : Option ℕ) (a b : Expression) (v : Value) → Tests w h c.tree → type_of_value w v ≡ Rattle.std.specs.Option.option_map (seal w) ty
      → Has w h a (Rattle.std.specs.Option.option_map (seal w) ty) → Has w h b (Rattle.std.specs.Option.option_map (seal w) ty) → IsValue w v → F (choice_of ty c a b v)
  chosen_as c x y ty a b v t e i j k = as_operand w h (choice ty c.tree a b) v (e, t, i, j) k

  same_as : (e : Expression) (n m : ℕ) → nat_eq n m ≡ true → Has w h e (Some (seal w m)) → Has w h e (Some (seal w n))
  same_as e n m same t = subst (λ k. Has w h e (Some (seal w k))) (sym (eqb-true n m same)) t

  converted : (kind : Kind) (e : Expression) (t : ℕ) → IsWhole w.program.types t → Has w h e (Some t) → Has w h (conversion kind e) (Some (seal w (kind_number kind)))
  converted kind e t i o = (ap (λ n. Some n) (h.numbers kind), (t, i, o))

  chosen_rule : (at : ℕ) (c x y : Typed) (u v : Value) → Tests w h c.tree → x.value ≡ u → y.value ≡ v → IsOperand w x → IsOperand w y
      → Gives F (chosen_form at c x u y v)
  chosen_rule at c x y (integer a) (integer b) t p q o r =
      joined_given F at a b _ (λ kind good. record {
        is = chosen_as c x y (Some (kind_number kind)) (conversion kind x.tree) (conversion kind y.tree) (integer kind) t
            (ap (λ n. Some n) (sym (h.numbers kind))) (converted kind x.tree (type_of_kind a) (kind_whole w h a) (kind_has w h x a o p))
            (converted kind y.tree (type_of_kind b) (kind_whole w h b) (kind_has w h y b r q)) tt;
      })
  chosen_rule at c x y (address n to) (address m of) t p q o r =
      by_test F (nat_eq n m) _ _ at (λ e.
      chosen_as c x y (Some n) x.tree y.tree (address n to) t refl (address_has w h x n to o p) (same_as y.tree n m e (address_has w h y m of r q)) (address_is w h x n to o p))
  chosen_rule at c x y (address n to) v t p q o r =
      by_test F (is_null y) _ _ at (λ e.
      chosen_as c x y (Some n) x.tree (null_as y.tree n) (address n to) t refl (address_has w h x n to o p)
      (null_typed w h y.tree n to (type_of_value w y.value) r.tree (address_is w h x n to o p)) (address_is w h x n to o p))
  chosen_rule at c x y u (address n to) t p q o r =
      by_test F (is_null x) _ _ at (λ e.
      chosen_as c x y (Some n) (null_as x.tree n) y.tree (address n to) t refl
      (null_typed w h x.tree n to (type_of_value w x.value) o.tree (address_is w h y n to r q)) (address_has w h y n to r q) (address_is w h y n to r q))
  chosen_rule at c x y (record_of n) (record_of m) t p q o r =
      by_test F (nat_eq n m) _ _ at (λ e.
      chosen_as c x y (Some n) x.tree y.tree (record_of n) t refl (subst (λ v. Has w h x.tree (type_of_value w v)) p o.tree)
      (same_as y.tree n m e (subst (λ v. Has w h y.tree (type_of_value w v)) q r.tree)) (subst (λ v. IsValue w v) p o.value))
  chosen_rule at c x y nothing nothing t p q o r =
      record {
        is = chosen_as c x y None x.tree y.tree nothing t refl (subst (λ v. Has w h x.tree (type_of_value w v)) p o.tree)
            (subst (λ v. Has w h y.tree (type_of_value w v)) q r.tree) tt;
      }
  chosen_rule at c x y u v t p q o r =
      by_test F (is_null x && is_null y) _ _ at (λ e.
      (let both = nulls_whole w h x y o r e in
      chosen_as c x y (Some int_type) (conversion Int x.tree) (conversion Int y.tree) no_address t
      (ap (λ n. Some n) (sym (h.numbers Int))) (converted Int x.tree (both.0).0 (both.0).1 (both.0).2) (converted Int y.tree (both.1).0 (both.1).1 (both.1).2) tt))

  pub choice_rule : (at of : ℕ) (c x y : Typed) → IsOperand w c → IsOperand w x → IsOperand w y → Gives F (choice_form at of c x y)
  choice_rule at of c x y k o r =
      conditioned F (is_scalar c.value) of x.value y.value _ (λ e. chosen_rule at c x y x.value y.value (scalar_test w h c k e) refl refl o r)

  -- Assignments.

  -- a value that is stored in a place
  stored_in : (e : Expression) (p : Place) (n : ℕ) (x : Shape) → IsValued w h x → IsShape w.last n x → IsForm w (place p n)
      → Has w h e (Some (seal w n)) → F (operand (typed_as e (value_in x n)))
  stored_in e p n x valued s f t =
      as_operand w h e (value_in x n) (subst (λ ty. Has w h e ty) (sym (value_type w h n x valued s)) t) (value_is w h n x valued s f.1)

  abbrev StoresIn : Place → ℕ → Shape → Expression → Type 0
  StoresIn p n x e = F (operand (typed_as (assign n p e) (value_in x n)))

  plain_in : (at : ℕ) (s : Scopes) (p : Place) (n : ℕ) (y : Typed) (x : Shape) → shape_of s.shapes n ≡ x → ComeTo s.shapes w.last → IsForm w (place p n)
      → IsOperand w y → Gives (Fits w h n) (fitted_to (value_in x n) y y.value at) → Gives (StoresIn p n x) (fitted_to (value_in x n) y y.value at)
  plain_in at s p n y x same c f o g = by x same (fitted_to (value_in x n) y y.value at) refl g
    where
      by : (x : Shape) → shape_of s.shapes n ≡ x → (r : Result Expression Refusal) → fitted_to (value_in x n) y y.value at ≡ r → Gives (Fits w h n) r → Gives (StoresIn p n x) r
      by x same (Err e) eq g = record { is = tt }
      by (shape.whole kind) same (Ok e) eq g =
          (let t = shape_on w s.shapes c n (shape.whole kind) (λ no_such. cc) same in
          record {
            is = stored_in (assign n p e) p n (shape.whole kind) tt t f
                (refl, inl (subst (λ t. IsScalar w.program.types t) (sym (kind_seal w h n kind t)) (kind_scalar w h kind)), f.0, g.is);
          })
      by (pointer to) same (Ok e) eq g =
          (let t = shape_on w s.shapes c n (pointer to) (λ no_such. cc) same in
          record { is = stored_in (assign n p e) p n (pointer to) tt t f (refl, inl (pointer_scalar w h n to t), f.0, g.is) })
      by (structure number) same (Ok e) eq g =
          (let t = shape_on w s.shapes c n (structure number) (λ no_such. cc) same in
          record { is = stored_in (assign n p e) p n (structure number) tt t f (refl, inr (struct_is w h n number (f.1).0 t (f.1).1), f.0, g.is) })
      by void same (Ok e) eq g = absurd (cc)
      by (array of count) same (Ok e) eq g = absurd (cc)
      by (function r ps) same (Ok e) eq g = absurd (cc)

  plain_rule : (at : ℕ) (p : Place) (n : ℕ) (y : Typed) (s : Scopes) → IsState s
      → Holds (Leads w IsKnownForm (λ g. IsForm w (place p n) → IsOperand w y → F g) s) (assigned assigning.Plain at p n y s)
  plain_rule at p n y s st =
      pure w s (fitted at n y s) (λ e. operand (typed_as (assign n p e) (value_at s.shapes n))) st (gives_all (fitted at n y s) (λ e. tt))
      (λ a c. under (fitted at n y s) (λ f. under (fitted at n y s) (λ o.
      plain_in at s p n y (shape_of s.shapes n) refl c f o (fitted_rule w h s at n y c o))))

  -- the operator's result fits in its left operand's place
  abbrev StoresBy : Place → ℕ → Operation → Shape → Expression → Type 0
  StoresBy p n o y e = F (operand (typed_as (assign_by n o.operator p o.right) (value_in y n)))

  module _ (p : Place) (n : ℕ) (x : Typed) (o : Operation) (y : Shape) (valued : IsValued w h y) (t : IsShape w.last n y) (f : IsForm w (place p n))
      (e : x.value ≡ value_in y n) (i : IsOperation w h x o) (plain : Plain o) (scalar : IsScalar w.program.types (seal w n)) where
    left_is : i.left ≡ seal w n
    left_is =
        let a : Some i.left ≡ Some (seal w n) = sym (i.own plain) ∙ ap (type_of_value w) e ∙ value_type w h n y valued t in cc

    applied_in : IsStored w.program.types i.result (seal w n) → StoresBy p n o y x.tree
    applied_in fits =
        stored_in (assign_by n o.operator p o.right) p n y valued t f (
          refl,
          scalar,
          f.0,
          plain_sealed w o.operator ∙ plain,
          i.right,
          i.result,
          i.right_has,
          subst (λ k. Applies w.program.types (sealed_operator (seal w) o.operator) k i.right i.result) left_is i.applies,
          fits,
        )

    result_is : (v : Value) (r : ℕ) → o.value ≡ v → type_of_value w v ≡ Some r → i.result ≡ r
    result_is v r eq k = (let a : Some i.result ≡ Some r = sym i.gives ∙ ap (type_of_value w) eq ∙ k in cc)

  fits_in : (at : ℕ) (s : Scopes) (p : Place) (n : ℕ) (x : Typed) (o : Operation) (y : Shape) → shape_of s.shapes n ≡ y → ComeTo s.shapes w.last → IsForm w (place p n)
      → x.value ≡ value_in y n → IsOperation w h x o → Plain o → (v : Value) → o.value ≡ v
      → Gives (StoresBy p n o y) (fitted_to (value_in y n) (typed_as o.right v) v at)
  fits_in at s p n x o (shape.whole kind) same c f e i plain (integer k) eq =
      (let t = shape_on w s.shapes c n (shape.whole kind) (λ no_such. cc) same in
      let k_is : i.result ≡ type_of_kind k = result_is p n x o (shape.whole kind) tt t f e i plain (subst (λ t. IsScalar w.program.types t) (sym (kind_seal w h n kind t)) (kind_scalar w h kind)) (integer k) (type_of_kind k) eq refl in
      record {
        is = applied_in p n x o (shape.whole kind) tt t f e i plain
            (subst (λ t. IsScalar w.program.types t) (sym (kind_seal w h n kind t)) (kind_scalar w h kind))
            (inl (subst (λ t. IsWhole w.program.types t) (sym k_is) (kind_whole w h k), subst (λ t. IsWhole w.program.types t) (sym (kind_seal w h n kind t)) (kind_whole w h kind)));
      })
  fits_in at s p n x o (shape.whole kind) same c f e i plain v eq = record { is = tt }
  fits_in at s p n x o (pointer to) same c f e i plain (integer k) eq = record { is = tt }
  fits_in at s p n x o (pointer to) same c f e i plain (address m of) eq =
      by_test (StoresBy p n o (pointer to)) (nat_eq n m) _ _ at (λ own.
      (let t = shape_on w s.shapes c n (pointer to) (λ no_such. cc) same in
      applied_in p n x o (pointer to) tt t f e i plain (pointer_scalar w h n to t)
      (inr (result_is p n x o (pointer to) tt t f e i plain (pointer_scalar w h n to t) (address m of) (seal w m) eq refl ∙ ap (seal w) (sym (eqb-true n m own))))))
  fits_in at s p n x o (pointer to) same c f e i plain v eq = absurd (subst (λ v. IsOperated v) eq i.operated)
  fits_in at s p n x o (structure number) same c f e i plain (record_of m) eq = absurd (subst (λ v. IsOperated v) eq i.operated)
  fits_in at s p n x o y same c f e i plain v eq = record { is = tt }

  assigned_with : (at : ℕ) (p : Place) (n : ℕ) (x y : Typed) (s : Scopes) (z : Shape) → IsState s → shape_of s.shapes n ≡ z → x.value ≡ value_in z n
      → (r : Result Operation Refusal) → Gives Plain r → (Agrees w s → ComeTo s.shapes w.last → IsForm w (place p n) → IsOperand w y → Gives (IsOperation w h x) r)
      → Holds (Leads w IsKnownForm (λ g. IsForm w (place p n) → IsOperand w y → F g) s)
      (and_then r (λ o. and_then (fitted_to (value_in z n) (typed_as o.right o.value) o.value at) (λ e. Ok (operand (typed_as (assign_by n o.operator p o.right) (value_in z n)), s))))
  assigned_with at p n x y s z st same e (Ok o) plain k =
      pure w s (fitted_to (value_in z n) (typed_as o.right o.value) o.value at) (λ e. operand (typed_as (assign_by n o.operator p o.right) (value_in z n))) st (gives_all _ (λ e. tt))
      (λ a c. under _ (λ f. under _ (λ oy. fits_in at s p n x o z same c f e (k a c f oy).is plain.is o.value refl)))
  assigned_with at p n x y s z st same e (Err r) plain k = record { is = tt }

  -- an array is assigned nothing
  never_fits : {P : Form → Scopes → Type 0} (at : ℕ) (p : Place) (n of : ℕ) (count : Option ℕ) (s : Scopes) → shape_of s.shapes n ≡ array of count
      → (r : Result Operation Refusal)
      → Holds P (and_then r (λ o. and_then (fitted at n (typed_as o.right o.value) s) (λ e. Ok (operand (typed_as (assign_by n o.operator p o.right) (value_at s.shapes n)), s))))
  never_fits {P = P} at p n of count s same (Err e) = record { is = tt }
  never_fits {P = P} at p n of count s same (Ok o) = subst (λ z. Holds P (and_then (fitted_to (value_in z n) (typed_as o.right o.value) o.value at) (λ e. Ok (operand (typed_as (assign_by n o.operator p o.right) (value_in z n)), s)))) (sym same) (record { is = tt })

  abbrev Assigned : Assigning → (at : ℕ) → Place → (n : ℕ) → Typed → Scopes → Type 0
  Assigned a at p n y s = Holds (Leads w IsKnownForm (λ g. IsForm w (place p n) → IsOperand w y → F g) s) (assigned_by (infix_of a) at p n y s)

  by_shape : (a : Assigning) (at : ℕ) (p : Place) (n : ℕ) (y : Typed) (s : Scopes) (z : Shape) → IsState s → IsKnown s.shapes n → shape_of s.shapes n ≡ z
      → (x : Typed) → x.value ≡ value_in z n → Holds (Leads w Anything (λ x. IsForm w (place p n) → IsOperand w x) s) (Ok (x, s))
      → Holds (Leads w IsKnownForm (λ g. IsForm w (place p n) → IsOperand w y → F g) s)
      (and_then (operated (infix_of a) at x y s) (λ o. and_then (fitted at n (typed_as o.right o.value) s) (λ e. Ok (operand (typed_as (assign_by n o.operator p o.right) (value_at s.shapes n)), s))))
  by_shape a at p n y s z st k same x e read =
      subst (λ q. Holds (Leads w IsKnownForm (λ g. IsForm w (place p n) → IsOperand w y → F g) s)
      (and_then (operated (infix_of a) at x y s) (λ o. and_then (fitted_to (value_in q n) (typed_as o.right o.value) o.value at) (λ e. Ok (operand (typed_as (assign_by n o.operator p o.right) (value_in q n)), s))))) (sym same)
      (assigned_with at p n x y s z st same e (operated (infix_of a) at x y s) (plain_operated a at x y s)
      (λ ag c f oy. operated_rule w h (infix_of a) at x y s (joins_values a) (read.is.holds ag c f) oy))

  by_read : (a : Assigning) (at : ℕ) (p : Place) (n : ℕ) (y : Typed) (s : Scopes) (z : Shape) → IsState s → IsKnown s.shapes n → shape_of s.shapes n ≡ z
      → Holds (Leads w Anything (λ x. IsForm w (place p n) → IsOperand w x) s) (read_value z p n s)
      → Holds (Leads w IsKnownForm (λ g. IsForm w (place p n) → IsOperand w y → F g) s)
      (go_on (read_value z p n s) (λ x s. and_then (operated (infix_of a) at x y s) (λ o. and_then (fitted at n (typed_as o.right o.value) s)
      (λ e. Ok (operand (typed_as (assign_by n o.operator p o.right) (value_at s.shapes n)), s)))))
  by_read a at p n y s (array of count) st k same read =
      never_fits at p n of count (with_shape (pointer of) s).1
      (shape_is (with_shape (pointer of) s).1.shapes n (array of count) (read.is.goes.kept n (array of count) (known_shape s.shapes n (array of count) k same)))
      (operated (infix_of a) at (typed_as (first (with_shape (pointer of) s).0 p) (address (with_shape (pointer of) s).0 of)) y (with_shape (pointer of) s).1)
  by_read a at p n y s (structure number) st k same read = by_shape a at p n y s (structure number) st k same (typed_as (whole n p) (record_of n)) refl read
  by_read a at p n y s (shape.whole kind) st k same read = by_shape a at p n y s (shape.whole kind) st k same (typed_as (tree.read n p) (integer kind)) refl read
  by_read a at p n y s (pointer to) st k same read = by_shape a at p n y s (pointer to) st k same (typed_as (tree.read n p) (address n to)) refl read
  by_read a at p n y s void st k same read = by_shape a at p n y s void st k same (typed_as (tree.read n p) nothing) refl read
  by_read a at p n y s (function r ps) st k same read = by_shape a at p n y s (function r ps) st k same (typed_as (tree.read n p) nothing) refl read

  by_rule : (a : Assigning) (at : ℕ) (p : Place) (n : ℕ) (y : Typed) (s : Scopes) → IsState s → IsKnown s.shapes n → Assigned a at p n y s
  by_rule a at p n y s st k = by_read a at p n y s (shape_of s.shapes n) st k refl (value_rule w h s at (place p n) st k)

  assigned_rule : (a : Assigning) (at : ℕ) (p : Place) (n : ℕ) (y : Typed) (s : Scopes) → IsState s → IsKnown s.shapes n
      → Holds (Leads w IsKnownForm (λ g. IsForm w (place p n) → IsOperand w y → F g) s) (assigned a at p n y s)
  assigned_rule assigning.Plain at p n y s st k = plain_rule at p n y s st
  assigned_rule a at p n y s st k = by_rule a at p n y s st k

  pub assign_rule : (a : Assigning) (at : ℕ) (f : Form) (y : Typed) (s : Scopes) → IsState s → IsKnownForm f s
      → Holds (Leads w IsKnownForm (λ g. F f → IsOperand w y → F g) s) (assign_form a at f y s)
  assign_rule a at (place p n) y s st k = assigned_rule a at p n y s st k
  assign_rule a at f y s st k = refused w _

  -- Casts.

  to_kind : (at : ℕ) (kind : Kind) (x : Typed) (v : Value) → x.value ≡ v → IsOperand w x → Gives F (cast_to_kind at kind x v)
  to_kind at kind x (integer k) e o =
      record { is = as_operand w h (conversion kind x.tree) (integer kind) (refl, (type_of_kind k, kind_whole w h k, kind_has w h x k o e)) tt }
  to_kind at kind x v e o = record { is = tt }

  to_other : (at : ℕ) (v : Value) → Gives F (cast_to_other at v)
  to_other at (address n to) = record { is = tt }
  to_other at no_address = record { is = tt }
  to_other at v = record { is = tt }

  pub cast_rule : (t : Shape) (at n : ℕ) (x : Typed) → IsOperand w x → Gives F (cast_form t at n x)
  cast_rule void at n x o = record { is = as_operand w h (discard x.tree) nothing (refl, type_of_value w x.value, o.tree) tt }
  cast_rule (shape.whole kind) at n x o = to_kind at kind x x.value refl o
  cast_rule (pointer to) at n x o =
      by_test F (x.is_allocation && is_address_of n x.value) _ _ at (λ e. as_operand w h x.tree x.value o.tree o.value)
  cast_rule t at n x o = to_other at x.value
