-- Operators between two operands.
use Rattle.std.proofs.Common.{◌≡◌, ◌≢◌, ℕ, List, refl, sym, ap, subst, inl, inr, Some, Bool, true, false, Result, Ok, Err}
use Rattle.std.proofs.lemmas.Bool.{eqb-true, and_parts, or_cases}
use Rattle.std.specs.Prelude.{⊤, nat_eq, if◌then◌else◌, ◌&&◌}
use Rattle.porch_lex.specs.declared.refusal.Refusal.{Refusal}
use Rattle.porch_lex.specs.declared.refusal.Rule.{Rule}
use Rattle.porch_types.specs.declared.shapes.Kind.{Kind}
use Rattle.porch_types.specs.declared.shapes.Kind.TheVariants.{Char, UChar, Short, UShort, Int, UInt, Long, ULong}
use Rattle.porch_values.specs.declared.acts.Op.{Op}
use Rattle.porch_values.specs.declared.acts.Op.TheVariants.{Add, Sub, Mul, Div, Rem, And, Or, Xor, Shl, Shr}
use Rattle.porch_values.specs.Integers.{is_operand_kind, is_shift}
use Rattle.porch_tree.specs.declared.tree.Infix.{Infix}
use Rattle.porch_tree.specs.declared.tree.Infix.TheVariants as sign
use Rattle.porch_typed.specs.declared.typed.Comparison.{Comparison}
use Rattle.porch_typed.specs.declared.typed.Comparison.TheVariants.{Less, Greater, LessEqual, GreaterEqual, Equal, NotEqual}
use Rattle.porch_typed.specs.declared.typed.Operator.{Operator}
use Rattle.porch_typed.specs.declared.typed.Operator.TheVariants as operator
use Rattle.porch_typed.specs.Mirror.{Expression, row, all_of, any_of, Expressions, no_expressions, with_expression, Steps, no_steps, with_step}
use Rattle.porch_typed.specs.Typed.{type_of_kind, HasType, IsScalar, IsWhole, IsPointer, OfType, Applies, arithmetic, shift, compare, compare_pointers, forward, back, forward_of, difference, does_compare, AreTests}
use Rattle.porch_typed.specs.Typed as typed
use Rattle.porch_check.specs.Refusals.{refuse, and_then}
use Rattle.porch_check.specs.Shapes.{pointer, is_complete}
use Rattle.porch_check.specs.Scopes.{Scopes}
use Rattle.porch_check.specs.Operands.{Value, integer, address, no_address, Typed, typed_as, promoted, common_promoted, if_common, joined_kinds, is_scalar, is_no_address, is_null, null_as}
use Rattle.porch_check.specs.Operators.{Operation, operation, if_complete, addition, subtraction, comparison, relation, equality, logical, operated, with_last_step, with_last, row_tree, all_tree, any_tree, left_tree, tree_of, joined}
use Rattle.porch_check.specs.Operators as node
use Rattle.porch_check.specs.Sealing.{sealed, sealed_all, sealed_steps, sealed_operator}
use Rattle.porch_typing.specs.Shapes.{IsShape}
use Rattle.porch_typing.specs.States.{Gives}
use Rattle.porch_typing.specs.Ends.{End, IsEnd, seal}
use Rattle.porch_typing.specs.Forms.{type_of_value, IsValue, IsOperand}
use Rattle.porch_typing.proofs.Ends.{is_pointer, kind_whole, kind_scalar, pointer_scalar}
use Rattle.porch_typing.proofs.Values.{Has, as_operand, null_typed}

-- results with a property

pub by_test : {A : Type 0} (P : A → Type 0) (b : Bool) (x : A) (rule : Rule) (at : ℕ) → (b ≡ true → P x) → Gives P (if b then Ok x else refuse rule at)
by_test P true x rule at k = record { is = k refl }
by_test P false x rule at k = record { is = tt }

pub made : {A B : Type 0} (P : A → Type 0) (Q : B → Type 0) (r : Result A Refusal) (f : A → B) → Gives P r → ((x : A) → P x → Q (f x)) → Gives Q (and_then r (λ x. Ok (f x)))
made P Q (Ok x) f h k = record { is = k x h.is }
made P Q (Err e) f h k = record { is = tt }

-- The kinds that operators take.

common_given : {A : Type 0} (P : A → Type 0) (at : ℕ) (go : Kind → Result A Refusal) → ((kind : Kind) → is_operand_kind kind ≡ true → Gives P (go kind))
    → (p q : Kind) → is_operand_kind p ≡ true → is_operand_kind q ≡ true → Gives P (if_common (common_promoted p q) at go)
common_given P at go k p Char a b = absurd (cc)
common_given P at go k p UChar a b = absurd (cc)
common_given P at go k p Short a b = absurd (cc)
common_given P at go k p UShort a b = absurd (cc)
common_given P at go k Int Int a b = k Int refl
common_given P at go k Int UInt a b = k UInt refl
common_given P at go k Int Long a b = k Long refl
common_given P at go k Int ULong a b = k ULong refl
common_given P at go k UInt Int a b = k UInt refl
common_given P at go k UInt UInt a b = k UInt refl
common_given P at go k UInt Long a b = record { is = tt }
common_given P at go k UInt ULong a b = k ULong refl
common_given P at go k Long Int a b = k Long refl
common_given P at go k Long UInt a b = record { is = tt }
common_given P at go k Long Long a b = k Long refl
common_given P at go k Long ULong a b = k ULong refl
common_given P at go k ULong q a b = k ULong refl
common_given P at go k p q a b = absurd (cc)

pub promoted_operand : (kind : Kind) → is_operand_kind (promoted kind) ≡ true
promoted_operand Char = refl
promoted_operand UChar = refl
promoted_operand Short = refl
promoted_operand UShort = refl
promoted_operand Int = refl
promoted_operand UInt = refl
promoted_operand Long = refl
promoted_operand ULong = refl

pub joined_given : {A : Type 0} (P : A → Type 0) (at : ℕ) (a b : Kind) (go : Kind → Result A Refusal)
    → ((kind : Kind) → is_operand_kind kind ≡ true → Gives P (go kind)) → Gives P (joined_kinds at a b go)
joined_given P at a b go k = common_given P at go k (promoted a) (promoted b) (promoted_operand a) (promoted_operand b)

-- what an operator gives: an integer or a pointer of a type
abbrev pub IsOperated : Value → Type 0
IsOperated (integer kind) = ⊤
IsOperated (address n to) = ⊤
IsOperated v = ⊥

module _ (w : End) (h : IsEnd w) where
  abbrev types : List Rattle.porch_types.specs.declared.shapes.Ty.Ty
  types = w.program.types

  -- an operator with operands that it takes
  pub record IsOperation (x : Typed) (o : Operation) : Type 0 where
    pub left : ℕ
    pub right : ℕ
    pub result : ℕ
    pub left_has : Has w h (left_tree o.operator x) (Some left)
    pub right_has : Has w h o.right (Some right)
    pub applies : Applies types (sealed_operator (seal w) o.operator) left right result
    pub gives : type_of_value w o.value ≡ Some result
    pub value : IsValue w o.value
    pub operated : IsOperated o.value
    pub own : does_compare o.operator ≡ false → type_of_value w x.value ≡ Some left

  pub kind_has : (x : Typed) (a : Kind) → IsOperand w x → x.value ≡ integer a → Has w h x.tree (Some (type_of_kind a))
  kind_has x a o e = subst (λ v. Has w h x.tree (type_of_value w v)) e o.tree

  pub address_has : (x : Typed) (n to : ℕ) → IsOperand w x → x.value ≡ address n to → Has w h x.tree (Some (seal w n))
  address_has x n to o e = subst (λ v. Has w h x.tree (type_of_value w v)) e o.tree

  pub address_is : (x : Typed) (n to : ℕ) → IsOperand w x → x.value ≡ address n to → IsShape w.last n (pointer to)
  address_is x n to o e = subst (λ v. IsValue w v) e o.value

  abbrev Is : Typed → Operation → Type 0
  Is x o = IsOperation x o

  arithmetic_rule : (op : Op) (at : ℕ) (x y : Typed) (u v : Value) → is_shift op ≡ false → x.value ≡ u → y.value ≡ v → IsOperand w x → IsOperand w y
      → Gives (Is x) (node.arithmetic op at u y v)
  arithmetic_rule op at x y (integer a) (integer b) no_shift p q o r =
      joined_given (Is x) at a b _ (λ kind good. record {
        is = record {
          left = type_of_kind a;
          right = type_of_kind b;
          result = type_of_kind kind;
          left_has = kind_has x a o p;
          right_has = kind_has y b r q;
          applies = arithmetic op kind (type_of_kind a) (type_of_kind b) no_shift good (kind_whole w h a) (kind_whole w h b);
          gives = refl;
          value = tt;
          operated = tt;
          own = λ e. ap (type_of_value w) p;
        };
      })
  arithmetic_rule op at x y u v no_shift p q o r = record { is = tt }

  shift_rule : (op : Op) (at : ℕ) (x y : Typed) (u v : Value) → is_shift op ≡ true → x.value ≡ u → y.value ≡ v → IsOperand w x → IsOperand w y
      → Gives (Is x) (node.shift op at u y v)
  shift_rule op at x y (integer a) (integer b) does p q o r =
      record {
        is = record {
          left = type_of_kind a;
          right = type_of_kind b;
          result = type_of_kind (promoted a);
          left_has = kind_has x a o p;
          right_has = kind_has y b r q;
          applies = shift op (promoted a) (type_of_kind a) (type_of_kind b) does (promoted_operand a) (kind_whole w h a) (kind_whole w h b);
          gives = refl;
          value = tt;
          operated = tt;
          own = λ e. ap (type_of_value w) p;
        };
      }
  shift_rule op at x y u v does p q o r = record { is = tt }

  addition_rule : (at : ℕ) (s : Scopes) (x y : Typed) (u v : Value) → x.value ≡ u → y.value ≡ v → IsOperand w x → IsOperand w y
      → Gives (Is x) (addition at s u y v)
  addition_rule at s x y (address n to) (integer b) p q o r =
      by_test (Is x) (is_complete s.shapes to) _ _ at (λ e. record {
        left = seal w n;
        right = type_of_kind b;
        result = seal w n;
        left_has = address_has x n to o p;
        right_has = kind_has y b r q;
        applies = forward (seal w n) (type_of_kind b) (is_pointer w h n to (address_is x n to o p)) (kind_whole w h b);
        gives = refl;
        value = address_is x n to o p;
        operated = tt;
        own = λ e. ap (type_of_value w) p;
      })
  addition_rule at s x y (integer a) (address n to) p q o r =
      by_test (Is x) (is_complete s.shapes to) _ _ at (λ e. record {
        left = type_of_kind a;
        right = seal w n;
        result = seal w n;
        left_has = kind_has x a o p;
        right_has = address_has y n to r q;
        applies = forward_of (seal w n) (type_of_kind a) (kind_whole w h a) (is_pointer w h n to (address_is y n to r q));
        gives = refl;
        value = address_is y n to r q;
        operated = tt;
        own = λ e. ap (type_of_value w) p;
      })
  addition_rule at s x y u v p q o r = arithmetic_rule Add at x y u v refl p q o r

  subtraction_rule : (at : ℕ) (s : Scopes) (x y : Typed) (u v : Value) → x.value ≡ u → y.value ≡ v → IsOperand w x → IsOperand w y
      → Gives (Is x) (subtraction at s u y v)
  subtraction_rule at s x y (address n to) (integer b) p q o r =
      by_test (Is x) (is_complete s.shapes to) _ _ at (λ e. record {
        left = seal w n;
        right = type_of_kind b;
        result = seal w n;
        left_has = address_has x n to o p;
        right_has = kind_has y b r q;
        applies = back (seal w n) (type_of_kind b) (is_pointer w h n to (address_is x n to o p)) (kind_whole w h b);
        gives = refl;
        value = address_is x n to o p;
        operated = tt;
        own = λ e. ap (type_of_value w) p;
      })
  subtraction_rule at s x y (address n to) (address m of) p q o r = by (nat_eq n m) refl
    where
      by : (b : Bool) → nat_eq n m ≡ b
          → Gives (Is x) (if b then if_complete s to at (operation (operator.Difference n) y.tree (integer Long)) else refuse Rattle.porch_lex.specs.declared.refusal.Rule.TheVariants.Mismatch at)
      by true same = by_test (Is x) (is_complete s.shapes to) _ _ at (λ e. record {
        left = seal w n;
        right = seal w n;
        result = type_of_kind Long;
        left_has = address_has x n to o p;
        right_has = subst (λ k. Has w h y.tree (Some (seal w k))) (sym (eqb-true n m same)) (address_has y m of r q);
        applies = difference (seal w n) (is_pointer w h n to (address_is x n to o p));
        gives = refl;
        value = tt;
        operated = tt;
        own = λ e. ap (type_of_value w) p;
      })
      by false same = record { is = tt }
  subtraction_rule at s x y u v p q o r = arithmetic_rule Sub at x y u v refl p q o r

  compared : (c : Comparison) (kind : Kind) (x y : Typed) (s t : ℕ) → is_operand_kind kind ≡ true → IsWhole types s → IsWhole types t
      → Has w h x.tree (Some s) → Has w h y.tree (Some t) → Is x (operation (operator.Compare c kind) y.tree (integer Int))
  compared c kind x y s t good i j o r =
      record {
        left = s;
        right = t;
        result = type_of_kind Int;
        left_has = o;
        right_has = r;
        applies = compare c kind s t good i j;
        gives = refl;
        value = tt;
        operated = tt;
        own = λ e. absurd (cc);
      }

  comparison_rule : (c : Comparison) (at : ℕ) (x y : Typed) (u v : Value) → x.value ≡ u → y.value ≡ v → IsOperand w x → IsOperand w y
      → Gives (Is x) (comparison c at u y v)
  comparison_rule c at x y (integer a) (integer b) p q o r =
      joined_given (Is x) at a b _ (λ kind good. record {
        is = compared c kind x y (type_of_kind a) (type_of_kind b) good (kind_whole w h a) (kind_whole w h b) (kind_has x a o p) (kind_has y b r q);
      })
  comparison_rule c at x y u v p q o r = record { is = tt }

  -- the left operand of a comparison of pointers
  pointer_left : (b : Bool) (x : Typed) (n to : ℕ) → IsOperand w x → IsShape w.last n (pointer to) → (b ≡ false → Has w h x.tree (Some (seal w n)))
      → Has w h (if b then null_as x.tree n else x.tree) (Some (seal w n))
  pointer_left true x n to o e k = null_typed w h x.tree n to (type_of_value w x.value) o.tree e
  pointer_left false x n to o e k = k refl

  pointers_compared : (c : Comparison) (x : Typed) (n to : ℕ) (e : Expression) → IsOperand w x → IsShape w.last n (pointer to)
      → (is_null x ≡ false → Has w h x.tree (Some (seal w n))) → Has w h e (Some (seal w n))
      → Is x (operation (operator.ComparePointers c n) e (integer Int))
  pointers_compared c x n to e o t k r =
      record {
        left = seal w n;
        right = seal w n;
        result = type_of_kind Int;
        left_has = pointer_left (is_null x) x n to o t k;
        right_has = r;
        applies = compare_pointers c (seal w n) (is_pointer w h n to t);
        gives = refl;
        value = tt;
        operated = tt;
        own = λ e. absurd (cc);
      }

  relation_rule : (c : Comparison) (at : ℕ) (s : Scopes) (x y : Typed) (u v : Value) → x.value ≡ u → y.value ≡ v → IsOperand w x → IsOperand w y
      → Gives (Is x) (relation c at s u y v)
  relation_rule c at s x y (address n to) (address m of) p q o r = by (nat_eq n m) refl
    where
      by : (b : Bool) → nat_eq n m ≡ b
          → Gives (Is x) (if b then if_complete s to at (operation (operator.ComparePointers c n) y.tree (integer Int)) else refuse Rattle.porch_lex.specs.declared.refusal.Rule.TheVariants.Mismatch at)
      by true same = by_test (Is x) (is_complete s.shapes to) _ _ at (λ e.
          pointers_compared c x n to y.tree o (address_is x n to o p) (λ no_null. address_has x n to o p)
          (subst (λ k. Has w h y.tree (Some (seal w k))) (sym (eqb-true n m same)) (address_has y m of r q)))
      by false same = record { is = tt }
  relation_rule c at s x y u v p q o r = comparison_rule c at x y u v p q o r

  -- a null operand of no pointer type is an integer
  no_type : (x : Typed) → IsOperand w x → is_null x ≡ true → (t : ℕ) × IsWhole types t × Has w h x.tree (Some t)
  no_type x o e =
      elim (or_cases x.is_zero (is_no_address x.value) e) [
        | inl z ↦ (let k = o.zero z in (type_of_kind k.0, kind_whole w h k.0, kind_has x k.0 o k.1))
        | inr z ↦ by x.value refl z
      ]
    where
      by : (v : Value) → x.value ≡ v → is_no_address v ≡ true → (t : ℕ) × IsWhole types t × Has w h x.tree (Some t)
      by no_address p z = (type_of_kind Int, kind_whole w h Int, subst (λ v. Has w h x.tree (type_of_value w v)) p o.tree)
      by v p z = absurd (cc)

  pub nulls_whole : (x y : Typed) → IsOperand w x → IsOperand w y → (is_null x && is_null y) ≡ true
      → ((t : ℕ) × IsWhole types t × Has w h x.tree (Some t)) × ((t : ℕ) × IsWhole types t × Has w h y.tree (Some t))
  nulls_whole x y o r e = let both = and_parts (is_null x) (is_null y) e in (no_type x o both.0, no_type y r both.1)

  nulls_compared : (c : Comparison) (at : ℕ) (x y : Typed) → IsOperand w x → IsOperand w y
      → Gives (Is x) (if is_null x && is_null y then Ok (operation (operator.Compare c Int) y.tree (integer Int)) else refuse Rattle.porch_lex.specs.declared.refusal.Rule.TheVariants.Mismatch at)
  nulls_compared c at x y o r = by_test (Is x) (is_null x && is_null y) _ _ at (λ e.
      (let both = nulls_whole x y o r e in
      compared c Int x y (both.0).0 (both.1).0 refl (both.0).1 (both.1).1 (both.0).2 (both.1).2))

  equality_rule : (c : Comparison) (at : ℕ) (x y : Typed) (u v : Value) → x.value ≡ u → y.value ≡ v → IsOperand w x → IsOperand w y
      → Gives (Is x) (equality c at x u y v)
  equality_rule c at x y (address n to) (address m of) p q o r =
      by_test (Is x) (nat_eq n m) _ _ at (λ same.
      pointers_compared c x n to y.tree o (address_is x n to o p) (λ no_null. address_has x n to o p)
      (subst (λ k. Has w h y.tree (Some (seal w k))) (sym (eqb-true n m same)) (address_has y m of r q)))
  equality_rule c at x y (address n to) v p q o r =
      by_test (Is x) (is_null y) _ _ at (λ is.
      pointers_compared c x n to (null_as y.tree n) o (address_is x n to o p) (λ no_null. address_has x n to o p)
      (null_typed w h y.tree n to (type_of_value w y.value) r.tree (address_is x n to o p)))
  equality_rule c at x y u (address n to) p q o r =
      by_test (Is x) (is_null x) _ _ at (λ is.
      pointers_compared c x n to y.tree o (address_is y n to r q) (λ no_null. absurd (cc)) (address_has y n to r q))
  equality_rule c at x y (integer a) (integer b) p q o r = comparison_rule c at x y (integer a) (integer b) p q o r
  equality_rule c at x y u v p q o r = nulls_compared c at x y o r

  -- all but `&&` and `||`
  abbrev pub JoinsValues : Infix → Type 0
  JoinsValues sign.All = ⊥
  JoinsValues sign.Any = ⊥
  JoinsValues op = ⊤

  pub operated_rule : (op : Infix) (at : ℕ) (x y : Typed) (s : Scopes) → JoinsValues op → IsOperand w x → IsOperand w y → Gives (Is x) (operated op at x y s)
  operated_rule sign.Any at x y s j o r = absurd j
  operated_rule sign.All at x y s j o r = absurd j
  operated_rule sign.BitOr at x y s j o r = arithmetic_rule Or at x y x.value y.value refl refl refl o r
  operated_rule sign.BitXor at x y s j o r = arithmetic_rule Xor at x y x.value y.value refl refl refl o r
  operated_rule sign.BitAnd at x y s j o r = arithmetic_rule And at x y x.value y.value refl refl refl o r
  operated_rule sign.Equal at x y s j o r = equality_rule Equal at x y x.value y.value refl refl o r
  operated_rule sign.NotEqual at x y s j o r = equality_rule NotEqual at x y x.value y.value refl refl o r
  operated_rule sign.Less at x y s j o r = relation_rule Less at s x y x.value y.value refl refl o r
  operated_rule sign.Greater at x y s j o r = relation_rule Greater at s x y x.value y.value refl refl o r
  operated_rule sign.LessEqual at x y s j o r = relation_rule LessEqual at s x y x.value y.value refl refl o r
  operated_rule sign.GreaterEqual at x y s j o r = relation_rule GreaterEqual at s x y x.value y.value refl refl o r
  operated_rule sign.ShiftLeft at x y s j o r = shift_rule Shl at x y x.value y.value refl refl refl o r
  operated_rule sign.ShiftRight at x y s j o r = shift_rule Shr at x y x.value y.value refl refl refl o r
  operated_rule sign.Add at x y s j o r = addition_rule at s x y x.value y.value refl refl o r
  operated_rule sign.Sub at x y s j o r = subtraction_rule at s x y x.value y.value refl refl o r
  operated_rule sign.Mul at x y s j o r = arithmetic_rule Mul at x y x.value y.value refl refl refl o r
  operated_rule sign.Div at x y s j o r = arithmetic_rule Div at x y x.value y.value refl refl refl o r
  operated_rule sign.Rem at x y s j o r = arithmetic_rule Rem at x y x.value y.value refl refl refl o r

  -- Rows.

  steps_grow : (steps : Steps) (op : Operator) (y : Expression) (first left right result : ℕ)
      → typed.Gives w.program w.function (sealed_steps (seal w) steps) first (Some left) → Has w h y (Some right)
      → Applies types (sealed_operator (seal w) op) left right result
      → typed.Gives w.program w.function (sealed_steps (seal w) (with_last_step steps op y)) first (Some result)
  steps_grow no_steps op y first left right result g r a =
      (let same : left ≡ first = cc in (right, result, r, subst (λ k. Applies types (sealed_operator (seal w) op) k right result) same a, refl))
  steps_grow (with_step o x steps) op y first left right result g r a =
      (g.0, g.1, g.2, g.3, steps_grow steps op y g.1 left right result g.4 r a)

  some_last : (steps : Steps) (op : Operator) (y : Expression) → sealed_steps (seal w) (with_last_step steps op y) ≢ no_steps
  some_last no_steps op y e = cc
  some_last (with_step o x steps) op y e = cc

  new_row : (e : Expression) (op : Operator) (y : Expression) (left right result : ℕ) → Has w h e (Some left) → Has w h y (Some right)
      → Applies types (sealed_operator (seal w) op) left right result → Has w h (row e (with_step op y no_steps)) (Some result)
  new_row e op y left right result o r a = (left, o, (λ same. cc), (right, result, r, a, refl))

  row_typed : (begun : Bool) (e : Expression) (op : Operator) (y : Expression) (left right result : ℕ) → Has w h e (Some left) → Has w h y (Some right)
      → Applies types (sealed_operator (seal w) op) left right result → Has w h (row_tree begun e op y) (Some result)
  row_typed true (row e steps) op y left right result o r a =
      (o.0, o.1, some_last steps op y, steps_grow steps op y o.0 left right result o.3 r a)
  row_typed begun e op y left right result o r a = new_row e op y left right result o r a

  -- `&&` and `||`

  abbrev pub Tests : Expression → Type 0
  Tests e = OfType w.program w.function (IsScalar types) (HasType w.program w.function (sealed (seal w) e))

  pub scalar_test : (x : Typed) → IsOperand w x → is_scalar x.value ≡ true → Tests x.tree
  scalar_test x o e = by x.value refl e
    where
      by : (v : Value) → x.value ≡ v → is_scalar v ≡ true → Tests x.tree
      by (integer kind) p z = (type_of_kind kind, kind_scalar w h kind, kind_has x kind o p)
      by (address n to) p z = (seal w n, pointer_scalar w h n to (address_is x n to o p), address_has x n to o p)
      by no_address p z = (type_of_kind Int, kind_scalar w h Int, subst (λ v. Has w h x.tree (type_of_value w v)) p o.tree)
      by v p z = absurd (cc)

  tests_grow : (es : Expressions) (y : Expression) → AreTests w.program w.function (sealed_all (seal w) es) → Tests y
      → AreTests w.program w.function (sealed_all (seal w) (with_last es y))
  tests_grow no_expressions y t k = (k, tt)
  tests_grow (with_expression x xs) y t k = (t.0, tests_grow xs y t.1 k)

  some_more : (es : Expressions) (y : Expression) → sealed_all (seal w) (with_last es y) ≢ no_expressions
  some_more no_expressions y e = cc
  some_more (with_expression x xs) y e = cc

  all_typed : (begun : Bool) (e y : Expression) → Tests e → Tests y → Has w h (all_tree begun e y) (Some (type_of_kind Int))
  all_typed true (all_of e es) y o r = by (o.2)
    where
      by : Has w h (all_of e es) (Some (o.0)) → Has w h (all_of e (with_last es y)) (Some (type_of_kind Int))
      by t = (refl, t.1, some_more es y, tests_grow es y t.3 r)
  all_typed begun e y o r = (refl, o, (λ same. cc), (r, tt))

  any_typed : (begun : Bool) (e y : Expression) → Tests e → Tests y → Has w h (any_tree begun e y) (Some (type_of_kind Int))
  any_typed true (any_of e es) y o r = by (o.2)
    where
      by : Has w h (any_of e es) (Some (o.0)) → Has w h (any_of e (with_last es y)) (Some (type_of_kind Int))
      by t = (refl, t.1, some_more es y, tests_grow es y t.3 r)
  any_typed begun e y o r = (refl, o, (λ same. cc), (r, tt))

  record IsTested (x : Typed) (o : Operation) : Type 0 where
    pub left : Tests x.tree
    pub right : Tests o.right
    pub value : o.value ≡ integer Int

  logical_rule : (at : ℕ) (x y : Typed) → IsOperand w x → IsOperand w y → Gives (IsTested x) (logical at x y)
  logical_rule at x y o r =
      by_test (IsTested x) (is_scalar x.value && is_scalar y.value) _ _ at (λ e.
      (let both = and_parts (is_scalar x.value) (is_scalar y.value) e in
      record { left = scalar_test x o both.0; right = scalar_test y r both.1; value = refl }))

  tested : (e : Expression) (v : Value) → Has w h e (Some (type_of_kind Int)) → v ≡ integer Int → IsOperand w (typed_as e v)
  tested e v t same = subst (λ v. IsOperand w (typed_as e v)) (sym same) (as_operand w h e (integer Int) t tt)

  joins : (op : Infix) (at : ℕ) (begun : Bool) (x y : Typed) (s : Scopes) → JoinsValues op
      → ((o : Operation) → tree_of op begun x o ≡ row_tree begun (left_tree o.operator x) o.operator o.right) → IsOperand w x → IsOperand w y
      → Gives (IsOperand w) (joined op at begun x y s)
  joins op at begun x y s j same o r =
      made (Is x) (IsOperand w) (operated op at x y s) (λ z. typed_as (tree_of op begun x z) z.value) (operated_rule op at x y s j o r) (λ z i.
      (subst (λ e. IsOperand w (typed_as e z.value)) (sym (same z))
      (as_operand w h (row_tree begun (left_tree z.operator x) z.operator z.right) z.value
      (subst (λ ty. Has w h (row_tree begun (left_tree z.operator x) z.operator z.right) ty) (sym i.gives)
      (row_typed begun (left_tree z.operator x) z.operator z.right i.left i.right i.result i.left_has i.right_has i.applies)) i.value)))

  pub joined_rule : (op : Infix) (at : ℕ) (begun : Bool) (x y : Typed) (s : Scopes) → IsOperand w x → IsOperand w y → Gives (IsOperand w) (joined op at begun x y s)
  joined_rule sign.All at begun x y s o r =
      made (IsTested x) (IsOperand w) (logical at x y) (λ z. typed_as (all_tree begun x.tree z.right) z.value) (logical_rule at x y o r)
      (λ z i. tested (all_tree begun x.tree z.right) z.value (all_typed begun x.tree z.right i.left i.right) i.value)
  joined_rule sign.Any at begun x y s o r =
      made (IsTested x) (IsOperand w) (logical at x y) (λ z. typed_as (any_tree begun x.tree z.right) z.value) (logical_rule at x y o r)
      (λ z i. tested (any_tree begun x.tree z.right) z.value (any_typed begun x.tree z.right i.left i.right) i.value)
  joined_rule op at begun x y s o r = joins op at begun x y s tt (λ z. refl) o r
