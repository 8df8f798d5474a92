-- Expressions that are operands where they stand: constants, and variables of the source, also where a conversion leaves them as
-- they are.
use Rattle.std.proofs.Common.{◌≡◌, ℕ, ℤ, pos, List, refl, sym, ap, subst, ◌∙◌, inr, Some}
use Rattle.std.specs.Prelude.{slice_get, slice_index_or, IsTrue, Ok}
use Rattle.porch_types.specs.declared.shapes.Kind.{Kind}
use Rattle.porch_types.specs.declared.shapes.Ty.TheVariants.{Pointer}
use Rattle.porch_types.specs.Kinds.{kind_number}
use Rattle.porch_types.specs.LeafTypes.{IsScalar, leaf_type}
use Rattle.porch_values.specs.Integers.{in_range, converted}
use Rattle.porch_objects.specs.Store.{of_call, Value, number, null, pointer, past, indeterminate, Root, Object, seen, one_of, leaf_of, leaf_at}
use Rattle.porch_objects.specs.Pointers.{if_there}
use Rattle.porch_objects.specs.Meaning.{Progress}
use Rattle.porch_flat.specs.declared.flat.Operand.TheVariants.{Var, Constant}
use Rattle.porch_flat.specs.whole.Places.{type_at}
use Rattle.porch_abstract.specs.whole.Machine as machine
use Rattle.porch_typed.specs.Mirror.{Expression, Place, Program}
use Rattle.porch_typed.specs.Mirror as tree
use Rattle.porch_mean.specs.Outcome.{Outcome, Went, Calls, and_then, with_result, use_number}
use Rattle.porch_mean.specs.Operators.{as_value}
use Rattle.porch_mean.specs.Expression.{value}
use Rattle.porch_sound.specs.Typing.{StoreTyping, one_root}
use Rattle.porch_lowered.proofs.SameLeaf.{seen_twice}
use Rattle.porch_lowered.proofs.States.{load_named}
use Rattle.porch_lowered.proofs.Codes.{Context, IsOf, IsReady}
use Rattle.porch_lowered.proofs.Holding.{IsSetting, kept_types}
use Rattle.porch_lowered.proofs.Numbers.{narrow_fits}
use Rattle.porch_lowered.proofs.Conversions.{IsNumber}
use Rattle.porch_lowered.proofs.Operate.{InRange, is_number}
use Rattle.porch_lowered.proofs.Places.{local_lives}
use Rattle.porch_lowered.proofs.Held.{use_now, InPlace}

some_number : (a b : ℤ) → Some a ≡ Some b → a ≡ b
some_number a b e = cc

module _ (c : Context) (set : IsSetting c) where
  -- the value that stands in a variable of the source has the variable's type
  pub variable_typed : (made : StoreTyping) (s : Progress) (ts : List Object) (v ty : ℕ) → IsReady c made s ts → slice_get c.variables v ≡ Some ty
      → IsScalar (slice_get c.flat.types ty) → IsOf c made ty (leaf_at s.store (of_call c.call v) 0)
  variable_typed made s ts v ty ready e scalar =
      let lives = local_lives c set v ty e made s ts ready in
      let o = lives.0 in
      let alive = (kept_types c set made s ts ready).objects (of_call c.call v) o lives.1 in
      let root_is : Some (one_of ty) ≡ Some o.root =
      sym (ap (λ found. one_root found) e) ∙ ap (λ tys. one_root (slice_get tys v)) (sym ready.declares) ∙ alive.root in
      let ty_is : o.root.ty ≡ ty = sym (root_ty (one_of ty) o.root root_is) in
      subst (λ found. IsOf c made ty (leaf_of found 0)) (sym lives.1)
      (subst (λ t. IsOf c made t (slice_index_or o.leaves 0 indeterminate)) (ap (λ t. leaf_type c.flat.types t 0) ty_is ∙ set.scalar_leaf ty 0 scalar) (alive.typed.leaves 0))
    where
      root_ty : (a b : Root) → Some a ≡ Some b → a.ty ≡ b.ty
      root_ty a b e = (let same : a ≡ b = cc in ap (λ (r : Root). r.ty) same)

  -- a number that is used and converted to its own kind
  converts_itself : (kind : Kind) (w : Value) (s : Progress) → IsNumber (InRange c set kind) w → seen s.store w ≡ w
      → and_then (with_result (if_there w (λ v. Ok v)) s (λ v s. Went v s)) (λ v s. use_number v s (λ z s. with_result (as_value (converted kind c.under.widths z)) s (λ v s. Went v s)))
      ≡ with_result (if_there w (λ v. Ok v)) s (λ v s. Went v s)
  converts_itself kind (number z) s range e = ap (λ r. with_result (as_value r) s (λ v s. Went v s)) (set.same kind z range)
  converts_itself kind null s range e = absurd range
  converts_itself kind (pointer home leaf) s range e = absurd range
  converts_itself kind (past home leaf until) s range e = absurd range
  converts_itself kind indeterminate s range e = refl

  module _ (p : Program) (enter : Calls) where
    abbrev means : Expression → Progress → Outcome
    means e s = value p c.under enter c.call e s

    -- a variable that is read
    read_is : (ty v : ℕ) (s : Progress) → means (tree.read ty (tree.variable v)) s ≡ use_now (leaf_at s.store (of_call c.call v) 0) s
    read_is ty v s = ap (λ r. with_result r s (λ v s. Went v s)) (load_named s.store c.call v)

    pub variable_in_place : (ty v : ℕ) → slice_get c.variables v ≡ Some ty → IsScalar (slice_get c.flat.types ty)
        → InPlace c ty (Some (Var v)) (λ s. means (tree.read ty (tree.variable v)) s)
    variable_in_place ty v e scalar made s ts used ready = (
      leaf_at s.store (of_call c.call v) 0,
      inr (record { declared = e; stands = refl }),
      variable_typed made s ts v ty ready e scalar,
      read_is ty v s,
    )

    -- also where a conversion leaves it as it is
    pub converted_in_place : (kind : Kind) (v : ℕ) → slice_get c.variables v ≡ Some (kind_number kind)
        → InPlace c (kind_number kind) (Some (Var v)) (λ s. means (tree.conversion kind (tree.read (kind_number kind) (tree.variable v))) s)
    converted_in_place kind v e made s ts used ready =
        let scalar : IsScalar (slice_get c.flat.types (kind_number kind)) = subst (λ shape. IsScalar shape) (sym (set.kinds kind)) tt in
        let w = leaf_at s.store (of_call c.call v) 0 in
        let of = variable_typed made s ts v (kind_number kind) ready e scalar in
        let range = is_number c set made (kind_number kind) kind (seen s.store w) (set.kinds kind) ((kept_types c set made s ts ready).values (kind_number kind) w of) in (
          w,
          inr (record { declared = e; stands = refl }),
          of,
          ap (λ o. and_then o (λ v s. use_number v s (λ z s. with_result (as_value (converted kind c.under.widths z)) s (λ v s. Went v s)))) (read_is (kind_number kind) v s)
              ∙ converts_itself kind (seen s.store w) s range (seen_twice s.store w),
        )

    -- A constant expression: what it is evaluated to, and that it is a value of its type.
    pub record IsConstant (e : Expression) (ty : ℕ) (z : ℤ) : Type 0 where
      pub value : Value
      pub operand : machine.constant_of (type_at c.flat (Some ty)) z ≡ value
      pub of : (made : StoreTyping) → IsOf c made ty value
      pub there : (s : Progress) → use_now value s ≡ Went value s
      pub means_it : (s : Progress) → means e s ≡ Went value s

    pub constant_in_place : (e : Expression) (ty : ℕ) (z : ℤ) → IsConstant e ty z → InPlace c ty (Some (Constant z)) (λ s. means e s)
    constant_in_place e ty z x made s ts used ready = (x.value, x.operand, x.of made, x.means_it s ∙ sym (x.there s))

    pub constant_is : (kind : Kind) (z : ℤ) → IsTrue (in_range kind 32 z) → IsConstant (tree.constant kind z) (kind_number kind) z
    constant_is kind z range =
        record {
          value = number z;
          operand = ap (λ shape. machine.constant_of shape z) (set.kinds kind);
          of = λ made. (kind, set.kinds kind, narrow_fits kind c.under.widths z range);
          there = λ s. refl;
          means_it = λ s. refl;
        }

    pub null_is : (ty to : ℕ) → slice_get c.flat.types ty ≡ Some (Pointer to) → IsConstant (tree.null_pointer ty) ty (pos 0)
    null_is ty to shape =
        record {
          value = null;
          operand = ap (λ shape. machine.constant_of shape (pos 0)) shape;
          of = λ made. (to, shape);
          there = λ s. refl;
          means_it = λ s. refl;
        }

    -- a constant that a conversion leaves as it is
    pub converted_is : (kind from : Kind) (e : Expression) (z : ℤ) → IsConstant e (kind_number from) z → IsTrue (in_range kind 32 z)
        → IsConstant (tree.conversion kind e) (kind_number kind) z
    converted_is kind from e z x range =
        let is : x.value ≡ number z = sym x.operand ∙ ap (λ shape. machine.constant_of shape z) (set.kinds from) in
        let fits = narrow_fits kind c.under.widths z range in
        record {
          value = number z;
          operand = ap (λ shape. machine.constant_of shape z) (set.kinds kind);
          of = λ made. (kind, set.kinds kind, fits);
          there = λ s. refl;
          means_it = λ s.
              ap (λ o. and_then o (λ v s. use_number v s (λ z s. with_result (as_value (converted kind c.under.widths z)) s (λ v s. Went v s)))) (x.means_it s ∙ ap (λ v. Went v s) is)
              ∙ ap (λ r. with_result (as_value r) s (λ v s. Went v s)) (set.same kind z fits);
        }
