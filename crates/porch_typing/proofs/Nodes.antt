-- Forms of one operand, of places and members, choices, assignments and casts.
use Rattle.std.proofs.Common.{◌≡◌, ℕ, [], refl, sym, subst, inl, inr, Option, Some, None, Bool, true, false, Result, Ok, Err}
use Rattle.std.specs.Prelude.{⊤, nat_eq, if◌then◌else◌, ◌&&◌, slice_get}
use Rattle.porch_lex.specs.declared.refusal.Refusal.{Refusal}
use Rattle.porch_lex.specs.declared.refusal.Rule.{Rule}
use Rattle.porch_lex.specs.declared.refusal.Rule.TheVariants.{Mismatch, Unknown}
use Rattle.porch_types.specs.declared.shapes.Kind.TheVariants.{Int}
use Rattle.porch_tree.specs.declared.tree.Prefix.{Prefix}
use Rattle.porch_tree.specs.declared.tree.Prefix.TheVariants as prefix
use Rattle.porch_tree.specs.Mirror.{Name}
use Rattle.porch_typed.specs.declared.typed.Direction.{Direction}
use Rattle.porch_typed.specs.declared.typed.Unary.{Unary}
use Rattle.porch_typed.specs.declared.typed.Unary.TheVariants.{Plus, Minus, Complement}
use Rattle.porch_typed.specs.Mirror.{Expression, row, unary, isnt, choice, assign, assign_by, increment, conversion, discard, member_of, no_steps, with_step, pointee, Place}
use Rattle.porch_typed.specs.Mirror as tree
use Rattle.porch_typed.specs.Typed.{type_of_kind, IsScalar, IsStruct, IsWhole, IsPlaceOf, IsStored, does_compare, Applies, arithmetic, shift, forward, back, forward_of, difference}
use Rattle.porch_check.specs.Refusals.{refuse, and_then, found_or}
use Rattle.porch_check.specs.Shapes.{Shape, void, pointer, array, structure, function, Shapes, shape_of, leaves_of, members_of, is_complete, Member}
use Rattle.porch_check.specs.Shapes as shape
use Rattle.porch_check.specs.Scopes.{Scopes}
use Rattle.porch_check.specs.Operands.{Value, integer, address, no_address, record_of, nothing, Typed, typed_as, Form, operand, place, literal, size, sized, callee, library_callee, value_in, value_at, promoted, is_scalar, is_null}
use Rattle.porch_check.specs.Operators.{if_complete, unary_form, not_form, pointee_form, address_form, increment_value, increment_form, index_form, member_named, member_value, member_in, member_of_value, member_form, arrow_form, chosen_form, with_condition, choice_form, cast_to_kind, is_address_of, cast_to_other, cast_form}
use Rattle.porch_check.specs.Expressions.{value_form}
use Rattle.porch_typing.specs.Shapes.{IsKnown, IsShape, AreShapes, ComeTo}
use Rattle.porch_typing.specs.States.{IsState, Holds, Gives}
use Rattle.porch_typing.specs.Ends.{End, IsEnd, IsComplete, seal}
use Rattle.porch_typing.specs.Forms.{IsKnownForm, type_of_value, IsOperand, IsForm, Leads}
use Rattle.porch_typing.proofs.Lists.{each_at}
use Rattle.porch_typing.proofs.States.{refused, shaped, gives_all}
use Rattle.porch_typing.proofs.Ends.{pointer_to, is_pointer, kind_seal, kind_whole, kind_scalar, pointer_scalar, struct_is, member_is, complete_is_known, leaves_on, complete_on, members_on, shape_on, member_found}
use Rattle.porch_typing.proofs.Values.{Has, as_operand, IsValued, value_type, value_is}
use Rattle.porch_typing.proofs.Operators.{by_test, made, promoted_operand, joined_given, kind_has, address_has, address_is, scalar_test}

-- whatever is found where something else is broken
never : {A B : Type 0} (P : B → Type 0) (r : Result A Refusal) (rule : Rule) (at : ℕ) → Gives P (and_then r (λ x. refuse rule at))
never P (Ok x) rule at = record { is = tt }
never P (Err e) rule at = record { is = tt }

-- What a state knows of the places that are found.
module _ (s : Scopes) (st : AreShapes s.shapes) where
  abbrev Knows : Form → Type 0
  Knows f = IsKnownForm f s

  pub unary_known : (op : Unary) (at : ℕ) (x : Typed) (v : Value) → Gives Knows (unary_form op at x v)
  unary_known op at x (integer kind) = record { is = tt }
  unary_known op at x v = record { is = tt }

  pub not_known : (at : ℕ) (x : Typed) → Gives Knows (not_form at x)
  not_known at x = by_test Knows (is_scalar x.value) _ _ at (λ e. tt)

  pub pointee_known : (at : ℕ) (x : Typed) (v : Value) → Gives Knows (pointee_form at s x v)
  pointee_known at x (address n to) = by_test Knows (is_complete s.shapes to) _ _ at (λ e. complete_is_known s.shapes to e)
  pointee_known at x v = record { is = tt }

  pub value_form_known : (p : Prefix) (at : ℕ) (x : Typed) → Gives Knows (value_form p at x s)
  value_form_known prefix.Pointee at x = pointee_known at x x.value
  value_form_known prefix.Minus at x = unary_known Minus at x x.value
  value_form_known prefix.Complement at x = unary_known Complement at x x.value
  value_form_known prefix.Not at x = not_known at x
  value_form_known p at x = unary_known Plus at x x.value

  pub increment_known : (before : Bool) (way : Direction) (at of : ℕ) (f : Form) → Gives Knows (increment_form before way at of f s)
  increment_known before way at of (place p n) = made (λ (v : Value). ⊤) Knows (increment_value s at (value_at s.shapes n)) (λ v. operand (typed_as (increment n before way p) v)) (gives_all _ (λ v. tt)) (λ v t. tt)
  increment_known before way at of f = record { is = tt }

  pub index_known : (at : ℕ) (x y : Typed) (u v : Value) → Gives Knows (index_form at s x u y v)
  index_known at x y (address n to) (integer b) = by_test Knows (is_complete s.shapes to) _ _ at (λ e. complete_is_known s.shapes to e)
  index_known at x y (integer a) (address n to) = by_test Knows (is_complete s.shapes to) _ _ at (λ e. complete_is_known s.shapes to e)
  index_known at x y u v = record { is = tt }

  -- a member that is found has a known type
  members_given : {A : Type 0} (P : A → Type 0) (at : ℕ) (n : Name) (struct : ℕ) (go : Member → Result A Refusal)
      → ((i : ℕ) (m : Member) → slice_get (members_of s.shapes struct) i ≡ Some m → Gives P (go m))
      → (o : Option Member) → member_named n.bytes (members_of s.shapes struct) ≡ o → Gives P (found_or o Unknown n.at go)
  members_given P at n struct go k None e = record { is = tt }
  members_given P at n struct go k (Some m) e = (let i = member_found n.bytes (members_of s.shapes struct) m e in k i.0 m i.1)

  pub in_struct : {A : Type 0} (P : A → Type 0) (x : Shape) (at : ℕ) (n : Name) (struct : ℕ) (go : Member → Result Form Refusal) → (P : Form → Type 0)
      → ((number : ℕ) → x ≡ structure number → (i : ℕ) (m : Member) → slice_get (members_of s.shapes struct) i ≡ Some m → Gives P (go m))
      → Gives P (member_in x at n s struct go)
  in_struct Q (structure number) at n struct go P k =
      members_given P at n struct go (k number refl) (member_named n.bytes (members_of s.shapes struct)) refl
  in_struct Q x at n struct go P k = record { is = tt }

  member_known : (struct i : ℕ) (m : Member) → slice_get (members_of s.shapes struct) i ≡ Some m → IsKnown s.shapes m.shape
  member_known struct i m e = each_at (λ (m : Member). IsKnown s.shapes m.shape) (members_of s.shapes struct) i m (st.members struct) e

  value_known : (at : ℕ) (e : Expression) (m : Member) (v : Value) → Gives Knows (member_value at s e m v)
  value_known at e m nothing = record { is = tt }
  value_known at e m v = record { is = tt }

  of_value_known : (at : ℕ) (n : Name) (x : Typed) (v : Value) → Gives Knows (member_of_value at n s x v)
  of_value_known at n x (record_of struct) =
      in_struct Knows (shape_of s.shapes struct) at n struct _ Knows (λ number same i m e. value_known at x.tree m (value_at s.shapes m.shape))
  of_value_known at n x v = record { is = tt }

  pub member_form_known : (at : ℕ) (n : Name) (f : Form) → Gives Knows (member_form at n f s)
  member_form_known at n (place p struct) =
      in_struct Knows (shape_of s.shapes struct) at n struct _ Knows (λ number same i m e. record { is = member_known struct i m e })
  member_form_known at n (operand x) = of_value_known at n x x.value
  member_form_known at n f = record { is = tt }

  pub arrow_known : (at : ℕ) (n : Name) (x : Typed) (v : Value) → Gives Knows (arrow_form at n s x v)
  arrow_known at n x (address p to) = by (is_complete s.shapes to)
    where
      by : (b : Bool) → Gives Knows (and_then (if b then Ok to else refuse Mismatch at) (λ struct.
          member_in (shape_of s.shapes struct) at n s struct (λ m. Ok (place (tree.member m.leaf (pointee x.tree)) m.shape))))
      by true = in_struct Knows (shape_of s.shapes to) at n to _ Knows (λ number same i m e. record { is = member_known to i m e })
      by false = record { is = tt }
  arrow_known at n x v = record { is = tt }

  chosen_known : (at : ℕ) (c x y : Typed) (u v : Value) → Gives Knows (chosen_form at c x u y v)
  chosen_known at c x y (integer a) (integer b) = joined_given Knows at a b _ (λ kind good. record { is = tt })
  chosen_known at c x y (address n to) (address m of) = by_test Knows (nat_eq n m) _ _ at (λ e. tt)
  chosen_known at c x y (address n to) v = by_test Knows (is_null y) _ _ at (λ e. tt)
  chosen_known at c x y u (address n to) = by_test Knows (is_null x) _ _ at (λ e. tt)
  chosen_known at c x y (record_of n) (record_of m) = by_test Knows (nat_eq n m) _ _ at (λ e. tt)
  chosen_known at c x y nothing nothing = record { is = tt }
  chosen_known at c x y u v = by_test Knows (is_null x && is_null y) _ _ at (λ e. tt)

pub conditioned : (P : Form → Type 0) (b : Bool) (of : ℕ) (u v : Value) (r : Result Form Refusal) → (b ≡ true → Gives P r) → Gives P (with_condition b of u v r)
conditioned P true of u v r k = k refl
conditioned P false of (integer a) (integer b) r k = never P r _ of
conditioned P false of u v r k = record { is = tt }

module _ (s : Scopes) (st : AreShapes s.shapes) where
  pub choice_known : (at of : ℕ) (c x y : Typed) → Gives (λ f. IsKnownForm f s) (choice_form at of c x y)
  choice_known at of c x y = conditioned (λ f. IsKnownForm f s) (is_scalar c.value) of x.value y.value _ (λ e. chosen_known s st at c x y x.value y.value)

  pub cast_known : (t : Shape) (at n : ℕ) (x : Typed) → Gives (λ f. IsKnownForm f s) (cast_form t at n x)
  cast_known void at n x = record { is = tt }
  cast_known (shape.whole kind) at n x = by x.value
    where
      by : (v : Value) → Gives (λ f. IsKnownForm f s) (cast_to_kind at kind x v)
      by (integer k) = record { is = tt }
      by v = record { is = tt }
  cast_known (pointer to) at n x = by_test (λ f. IsKnownForm f s) (x.is_allocation && is_address_of n x.value) _ _ at (λ e. tt)
  cast_known t at n x = by x.value
    where
      by : (v : Value) → Gives (λ f. IsKnownForm f s) (cast_to_other at v)
      by (address m of) = record { is = tt }
      by no_address = record { is = tt }
      by v = record { is = tt }

module _ (w : End) (h : IsEnd w) where
  abbrev F : Form → Type 0
  F f = IsForm w f

  unary_rule : (op : Unary) (at : ℕ) (x : Typed) (v : Value) → x.value ≡ v → IsOperand w x → Gives F (unary_form op at x v)
  unary_rule op at x (integer kind) e o =
      record {
        is = as_operand w h (unary op (promoted kind) x.tree) (integer (promoted kind))
            (refl, promoted_operand kind, (type_of_kind kind, kind_whole w h kind, kind_has w h x kind o e)) tt;
      }
  unary_rule op at x v e o = record { is = tt }

  not_rule : (at : ℕ) (x : Typed) → IsOperand w x → Gives F (not_form at x)
  not_rule at x o =
      by_test F (is_scalar x.value) _ _ at (λ e. as_operand w h (isnt x.tree) (integer Int) (refl, scalar_test w h x o e) tt)

  pointee_rule : (at : ℕ) (s : Scopes) (x : Typed) (v : Value) → ComeTo s.shapes w.last → x.value ≡ v → IsOperand w x → Gives F (pointee_form at s x v)
  pointee_rule at s x (address n to) c e o =
      by_test F (is_complete s.shapes to) _ _ at (λ b.
      ((seal w n, pointer_to w h n to (address_is w h x n to o e), address_has w h x n to o e), complete_on w s.shapes c to b))
  pointee_rule at s x v c e o = record { is = tt }

  pub value_form_rule : (p : Prefix) (at : ℕ) (x : Typed) (s : Scopes) → ComeTo s.shapes w.last → IsOperand w x → Gives F (value_form p at x s)
  value_form_rule prefix.Pointee at x s c o = pointee_rule at s x x.value c refl o
  value_form_rule prefix.Minus at x s c o = unary_rule Minus at x x.value refl o
  value_form_rule prefix.Complement at x s c o = unary_rule Complement at x x.value refl o
  value_form_rule prefix.Not at x s c o = not_rule at x o
  value_form_rule p at x s c o = unary_rule Plus at x x.value refl o

  pub address_rule : (of : ℕ) (f : Form) (s : Scopes) → IsState s → IsKnownForm f s
      → Holds (Leads w IsKnownForm (λ g. F f → F g) s) (address_form of f s)
  address_rule of (place p n) s st k =
      shaped w s (pointer n) (λ r. operand (typed_as (tree.address r p) (address r n))) st (k, tt) (λ r t known g. tt)
      (λ r a c e f. as_operand w h (tree.address r p) (address r n) (refl, seal w n, pointer_to w h r n e, f.0) e)
  address_rule of (operand x) s st k = refused w _
  address_rule of (literal bs) s st k = refused w _
  address_rule of (size n) s st k = refused w _
  address_rule of (sized x n) s st k = refused w _
  address_rule of (callee n) s st k = refused w _
  address_rule of (library_callee l) s st k = refused w _

  incremented : (before : Bool) (way : Direction) (p : Place) (n : ℕ) (x : Shape) → IsValued w h x → IsShape w.last n x → IsForm w (place p n)
      → IsScalar w.program.types (seal w n) → F (operand (typed_as (increment n before way p) (value_in x n)))
  incremented before way p n x valued e f scalar =
      as_operand w h (increment n before way p) (value_in x n) (value_type w h n x valued e, scalar, f.0) (value_is w h n x valued e f.1)

  increment_at : (before : Bool) (way : Direction) (at : ℕ) (s : Scopes) (p : Place) (n : ℕ) (x : Shape) → shape_of s.shapes n ≡ x → ComeTo s.shapes w.last
      → IsForm w (place p n)
      → Gives F (and_then (increment_value s at (value_in x n)) (λ v. Ok (operand (typed_as (increment n before way p) v))))
  increment_at before way at s p n (shape.whole kind) e c f =
      (let x = shape_on w s.shapes c n (shape.whole kind) (λ no_such. cc) e in
      record {
        is = incremented before way p n (shape.whole kind) tt x f (subst (λ t. IsScalar w.program.types t) (sym (kind_seal w h n kind x)) (kind_scalar w h kind));
      })
  increment_at before way at s p n (pointer to) e c f =
      (let x = shape_on w s.shapes c n (pointer to) (λ no_such. cc) e in
      made (λ v. v ≡ address n to) F (if_complete s to at (address n to)) (λ v. operand (typed_as (increment n before way p) v))
      (by_test (λ v. v ≡ address n to) (is_complete s.shapes to) _ _ at (λ b. refl))
      (λ v same. subst (λ v. F (operand (typed_as (increment n before way p) v))) (sym same)
      (incremented before way p n (pointer to) tt x f (pointer_scalar w h n to x))))
  increment_at before way at s p n x e c f = record { is = tt }

  pub increment_rule : (before : Bool) (way : Direction) (at of : ℕ) (f : Form) (s : Scopes) → ComeTo s.shapes w.last → F f
      → Gives F (increment_form before way at of f s)
  increment_rule before way at of (place p n) s c f = increment_at before way at s p n (shape_of s.shapes n) refl c f
  increment_rule before way at of (operand x) s c f = record { is = tt }
  increment_rule before way at of (literal bs) s c f = record { is = tt }
  increment_rule before way at of (size n) s c f = record { is = tt }
  increment_rule before way at of (sized x n) s c f = record { is = tt }
  increment_rule before way at of (callee n) s c f = record { is = tt }
  increment_rule before way at of (library_callee l) s c f = record { is = tt }

  index_at : (at : ℕ) (s : Scopes) (x y : Typed) (u v : Value) → ComeTo s.shapes w.last → x.value ≡ u → y.value ≡ v → IsOperand w x → IsOperand w y
      → Gives F (index_form at s x u y v)
  index_at at s x y (address n to) (integer b) c p q o r =
      by_test F (is_complete s.shapes to) _ _ at (λ e.
      (let a = address_is w h x n to o p in (
        (
          seal w n,
          pointer_to w h n to a,
          (
            seal w n,
            address_has w h x n to o p,
            (λ same. cc),
            (type_of_kind b, seal w n, kind_has w h y b r q, forward (seal w n) (type_of_kind b) (is_pointer w h n to a) (kind_whole w h b), refl),
          ),
        ),
        complete_on w s.shapes c to e,
      )))
  index_at at s x y (integer b) (address n to) c p q o r =
      by_test F (is_complete s.shapes to) _ _ at (λ e.
      (let a = address_is w h y n to r q in (
        (
          seal w n,
          pointer_to w h n to a,
          (
            type_of_kind b,
            kind_has w h x b o p,
            (λ same. cc),
            (seal w n, seal w n, address_has w h y n to r q, forward_of (seal w n) (type_of_kind b) (kind_whole w h b) (is_pointer w h n to a), refl),
          ),
        ),
        complete_on w s.shapes c to e,
      )))
  index_at at s x y u v c p q o r = record { is = tt }

  pub index_rule : (at : ℕ) (s : Scopes) (x y : Typed) → ComeTo s.shapes w.last → IsOperand w x → IsOperand w y → Gives F (index_form at s x x.value y y.value)
  index_rule at s x y c o r = index_at at s x y x.value y.value c refl refl o r

  -- Members: a struct of which one is found is complete.
  module _ (s : Scopes) (st : AreShapes s.shapes) (c : ComeTo s.shapes w.last) where
    abbrev Found : ℕ → Member → Type 0
    Found struct m = Rattle.porch_typed.specs.Typed.IsMember w.program.types (seal w struct) m.leaf (seal w m.shape) × IsComplete w m.shape

    found_member : (struct number i : ℕ) (m : Member) → shape_of s.shapes struct ≡ structure number → slice_get (members_of s.shapes struct) i ≡ Some m → Found struct m
    found_member struct number i m x e = by (leaves_of s.shapes struct) refl
      where
        by : (o : Option ℕ) → leaves_of s.shapes struct ≡ o → Found struct m
        by None none = (let bare = st.bare struct none in
            let empty : slice_get {X = Member} [] i ≡ Some m = subst (λ ms. slice_get ms i ≡ Some m) bare e in cc)
        by (Some k) some =
            member_is w h struct number k i m (shape_on w s.shapes c struct (structure number) (λ no_such. cc) x) (leaves_on w s.shapes c struct k some)
            (subst (λ ms. slice_get ms i ≡ Some m) (sym (members_on w s.shapes c struct k some)) e)

    member_valued : (at : ℕ) (e : Expression) (m : Member) (struct : ℕ) (x : Shape) → shape_of s.shapes m.shape ≡ x → Has w h e (Some (seal w struct)) → Found struct m
        → Gives F (member_value at s e m (value_in x m.shape))
    member_valued at e m struct (shape.whole kind) same t f =
        (let x = shape_on w s.shapes c m.shape (shape.whole kind) (λ no_such. cc) same in
        record {
          is = as_operand w h (member_of m.shape m.leaf e) (integer kind)
              (value_type w h m.shape (shape.whole kind) tt x, inl (subst (λ t. IsScalar w.program.types t) (sym (kind_seal w h m.shape kind x)) (kind_scalar w h kind)), seal w struct, t, f.0) tt;
        })
    member_valued at e m struct (pointer to) same t f =
        (let x = shape_on w s.shapes c m.shape (pointer to) (λ no_such. cc) same in
        record {
          is = as_operand w h (member_of m.shape m.leaf e) (address m.shape to)
              (refl, inl (pointer_scalar w h m.shape to x), seal w struct, t, f.0) x;
        })
    member_valued at e m struct (structure number) same t f =
        (let x = shape_on w s.shapes c m.shape (structure number) (λ no_such. cc) same in
        record {
          is = as_operand w h (member_of m.shape m.leaf e) (record_of m.shape)
              (refl, inr (struct_is w h m.shape number (f.1).0 x (f.1).1), seal w struct, t, f.0) (f.1, number, x);
        })
    member_valued at e m struct x same t f = record { is = tt }

    of_value_rule : (at : ℕ) (n : Name) (x : Typed) (v : Value) → x.value ≡ v → IsOperand w x → Gives F (member_of_value at n s x v)
    of_value_rule at n x (record_of struct) e o =
        in_struct s st F (shape_of s.shapes struct) at n struct _ F (λ number same i m found.
        member_valued at x.tree m struct (shape_of s.shapes m.shape) refl (subst (λ v. Has w h x.tree (type_of_value w v)) e o.tree) (found_member struct number i m same found))
    of_value_rule at n x v e o = record { is = tt }

    pub member_rule : (at : ℕ) (n : Name) (f : Form) → F f → Gives F (member_form at n f s)
    member_rule at n (place p struct) f =
        in_struct s st F (shape_of s.shapes struct) at n struct _ F (λ number same i m found.
        (let own = found_member struct number i m same found in record { is = ((seal w struct, f.0, own.0), own.1) }))
    member_rule at n (operand x) f = of_value_rule at n x x.value refl f
    member_rule at n (literal bs) f = record { is = tt }
    member_rule at n (size k) f = record { is = tt }
    member_rule at n (sized x k) f = record { is = tt }
    member_rule at n (callee k) f = record { is = tt }
    member_rule at n (library_callee l) f = record { is = tt }

    arrow_at : (at : ℕ) (n : Name) (x : Typed) (v : Value) → x.value ≡ v → IsOperand w x → Gives F (arrow_form at n s x v)
    arrow_at at n x (address p to) e o = by (is_complete s.shapes to)
      where
        by : (b : Bool) → Gives F (and_then (if b then Ok to else refuse Mismatch at) (λ struct.
            member_in (shape_of s.shapes struct) at n s struct (λ m. Ok (place (tree.member m.leaf (pointee x.tree)) m.shape))))
        by true =
            in_struct s st F (shape_of s.shapes to) at n to _ F (λ number same i m found.
            (let own = found_member to number i m same found in
            record { is = ((seal w to, (seal w p, pointer_to w h p to (address_is w h x p to o e), address_has w h x p to o e), own.0), own.1) }))
        by false = record { is = tt }
    arrow_at at n x v e o = record { is = tt }

    pub arrow_rule : (at : ℕ) (n : Name) (x : Typed) → IsOperand w x → Gives F (arrow_form at n s x x.value)
    arrow_rule at n x o = arrow_at at n x x.value refl o
