-- What is read through pointers, of globals and of members, and what is assigned there, as cases of the induction.
use Rattle.std.proofs.Common.{◌≡◌, ℕ, ℤ, refl, sym, [], ◌∷◌, ap, subst, ◌∙◌, true, false, Option, Some, None}
use Rattle.std.specs.Prelude.{slice_get, unwrap_or, Ok}
use Rattle.porch_types.specs.declared.shapes.Ty.{Ty}
use Rattle.porch_types.specs.declared.shapes.Ty.TheVariants.{Whole, Pointer, Array, Struct}
use Rattle.porch_types.specs.LeafTypes.{IsScalar}
use Rattle.porch_objects.specs.Store.{Value, number, null, pointer, past, indeterminate, seen}
use Rattle.porch_objects.specs.Pointers.{if_there}
use Rattle.porch_objects.specs.Meaning.{Progress}
use Rattle.porch_flat.specs.declared.flat.Operand.{Operand}
use Rattle.porch_flat.specs.declared.flat.Operand.TheVariants.{Var}
use Rattle.porch_flat.specs.declared.whole.Command.TheVariants as command
use Rattle.porch_typed.specs.Mirror as tree
use Rattle.porch_typed.specs.Mirror.{Expression, Place, Program}
use Rattle.porch_mean.specs.Outcome.{Outcome, Went, Calls, and_then, with_result, with_determinate, use_value}
use Rattle.porch_mean.specs.Expression.{store_value}
use Rattle.porch_lowering.specs.Code.{Coder, plain}
use Rattle.porch_lowering.specs.Values.{no_constant, pointer_to, type_held, constant_of, variable_of, variable_read, constant_operand, operand_or, atom_of, pointer_in}
use Rattle.porch_lowering.specs.Expression.{by_variable, place_type, read_code, writes_last, assign_variable, assign_place, copy_struct, assign_by_shape, code, place_code}
use Rattle.porch_lowered.proofs.SameLeaf.{seen_twice}
use Rattle.porch_lowered.proofs.Codes.{Context, commands, Evaluates}
use Rattle.porch_lowered.proofs.Holding.{IsSetting}
use Rattle.porch_lowered.proofs.Held.{InPlace}
use Rattle.porch_lowered.proofs.Branches.{AreHomes}
use Rattle.porch_lowered.proofs.OneOperand.{IsVariable}
use Rattle.porch_lowered.proofs.Located.{IsPointerFor, IsLocated, place_means}
use Rattle.porch_lowered.proofs.Cases.{held_scalar}
use Rattle.porch_lowered.proofs.PlaceCases.{read_through}
use Rattle.porch_lowered.proofs.Assigning.{assigned_there}
use Rattle.porch_lowered.proofs.Assigned.{stores}
use Rattle.porch_lowered.proofs.Lowered.{IsThereUnless, Goes, means, IsLowered}

-- no constant may stand where a pointer is asked for
none_may : (z : Option ℤ) → constant_operand no_constant z ≡ None
none_may None = refl
none_may (Some z) = refl

-- a value that is used twice
used_twice : (x : Value) (s : Progress) → seen s.store x ≡ x
    → and_then (with_result (if_there x (λ v. Ok v)) s (λ v s. Went v s)) (λ v s. use_value v s (λ v s. Went v s)) ≡ with_result (if_there x (λ v. Ok v)) s (λ v s. Went v s)
used_twice (number z) s is = refl
used_twice null s is = refl
used_twice (pointer home leaf) s is = ap (λ x. with_determinate x s (λ v s. Went v s)) is
used_twice (past home leaf until) s is = ap (λ x. with_determinate x s (λ v s. Went v s)) is
used_twice indeterminate s is = refl

module _ (c : Context) (set : IsSetting c) (homes : AreHomes (commands c)) (p : Program) (same : c.flat.types ≡ p.types) (enter : Calls) where
  used_in_place : (ty : ℕ) (o : Option Operand) (value : Progress → Outcome) → InPlace c ty o value → InPlace c ty o (λ s. and_then (value s) (λ v s. use_value v s (λ v s. Went v s)))
  used_in_place ty None value stands = tt
  used_in_place ty (Some o) value stands =
      λ made s ts used ready.
      (let x = stands made s ts used ready in (
        x.0,
        x.1,
        x.2,
        ap (λ out. and_then out (λ v s. use_value v s (λ v s. Went v s))) x.3 ∙ used_twice (seen s.store x.0) s (seen_twice s.store x.0),
      ))

  -- the pointer itself may stand in place
  pub pointee_in_place : (e : Expression) → IsLowered c p enter e
      → InPlace c (type_held p e) (pointer_in (tree.pointee e)) (λ s. place_means c set p enter (tree.pointee e) s)
  pointee_in_place e lowered =
      used_in_place (type_held p e) (operand_or None (variable_read e)) (λ s. means c p enter e s)
      (subst (λ o. InPlace c (type_held p e) (operand_or o (variable_read e)) (λ s. means c p enter e s)) (none_may (constant_of e)) (lowered.in_place no_constant))

  variable_there : (v : Option ℕ) → IsVariable (operand_or None v)
  variable_there None = tt
  variable_there (Some v) = tt

  -- what is known of a place that is no variable of the call: its pointer
  pub record IsPointed (place : Place) (ty : ℕ) : Type 0 where
    pub shape : slice_get c.flat.types (place_type p c.start place ty) ≡ Some (Pointer ty)
    pub for : IsPointerFor c set p enter place ty (place_type p c.start place ty)
    pub located : IsLocated c set p enter place ty
    pub in_place : InPlace c (place_type p c.start place ty) (pointer_in place) (λ s. place_means c set p enter place s)
    pub variable : IsVariable (pointer_in place)

  pub pointee_pointed : (e : Expression) (ty : ℕ) → IsLowered c p enter e → slice_get c.flat.types (type_held p e) ≡ Some (Pointer ty)
      → IsLocated c set p enter (tree.pointee e) ty → IsPointed (tree.pointee e) ty
  pointee_pointed e ty lowered shape located =
      record { shape = shape; for = (refl, shape); located = located; in_place = pointee_in_place e lowered; variable = variable_there (variable_read e) }

  pub global_pointed : (g ty : ℕ) → slice_get c.flat.types (pointer_to p ty) ≡ Some (Pointer ty) → IsLocated c set p enter (tree.global g) ty → IsPointed (tree.global g) ty
  global_pointed g ty shape located = record { shape = shape; for = shape; located = located; in_place = tt; variable = tt }

  pub member_pointed : (leaf : ℕ) (place : Place) (ty : ℕ) → slice_get c.flat.types (pointer_to p ty) ≡ Some (Pointer ty) → IsLocated c set p enter (tree.member leaf place) ty
      → IsPointed (tree.member leaf place) ty
  member_pointed leaf place ty shape located = record { shape = shape; for = shape; located = located; in_place = tt; variable = tt }

  module _ (ty : ℕ) (place : Place) (none : variable_of place ≡ None) (scalar : IsScalar (slice_get c.flat.types ty)) (pointed : IsPointed place ty) where
    read_evaluates : Evaluates c (Goes c true) (IsThereUnless false) ty (λ s. means c p enter (tree.read ty place) s)
        (read_code p c.start ty (pointer_in place) (place_type p c.start place ty) (place_code p c.start place None))
    read_evaluates = read_through c set homes p same enter ty place scalar pointed.shape pointed.for pointed.located pointed.in_place pointed.variable

    abbrev read_by : Option ℕ → Coder
    read_by v =
        by_variable p c.start v (λ v to used label. plain (command.Move (unwrap_or to v) (Var v) ∷ []) used label)
        (read_code p c.start ty (pointer_in place) (place_type p c.start place ty) (place_code p c.start place None))

    -- what is read there
    pub read_lowered : IsLowered c p enter (tree.read ty place)
    read_lowered =
        record {
          evaluates =
              subst (λ t. Evaluates c (Goes c true) (IsThereUnless false) t (λ s. means c p enter (tree.read ty place) s) (code p c.start (tree.read ty place)))
              (sym (held_scalar c set homes p same enter ty scalar))
              (subst (λ v. Evaluates c (Goes c true) (IsThereUnless false) ty (λ s. means c p enter (tree.read ty place) s) (read_by v)) (sym none) read_evaluates);
          in_place = λ accepts.
              subst (λ v. InPlace c (type_held p (tree.read ty place)) (operand_or None v) (λ s. means c p enter (tree.read ty place) s)) (sym none) tt;
        }

    -- what an assignment does, by its type and the variable that is assigned to
    abbrev AssignedBy : Expression → Option Ty → Option ℕ → Type 0
    AssignedBy e shape v =
        Evaluates c (Goes c true) (IsThereUnless false) ty
        (λ s. and_then (place_means c set p enter place s) (λ at s. and_then (means c p enter e s) (λ v s. store_value p.types shape ty at v s)))
        (assign_by_shape p c.start shape v (copy_struct p c.start (pointer_to p ty) (place_code p c.start place None) (code p c.start e))
        (assign_variable p c.start ty (unwrap_or v 0) (writes_last p e) (code p c.start e))
        (assign_place p c.start ty (pointer_in place) (place_type p c.start place ty) (place_code p c.start place None) (atom_of (λ z. true) e) (code p c.start e)))

    -- what is assigned there
    pub assignment_lowered : (e : Expression) → IsLowered c p enter e → type_held p e ≡ ty → IsLowered c p enter (tree.assign ty place e)
    assignment_lowered e lowered is =
        record {
          evaluates =
              subst (λ t. Evaluates c (Goes c true) (IsThereUnless false) t (λ s. means c p enter (tree.assign ty place e) s) (code p c.start (tree.assign ty place e)))
              (sym (held_scalar c set homes p same enter ty scalar))
              (by (slice_get p.types ty) refl (subst (λ types. IsScalar (slice_get types ty)) same scalar));
          in_place = λ accepts. tt;
        }
      where
        there : Evaluates c (Goes c true) (IsThereUnless false) ty
            (λ s. and_then (place_means c set p enter place s) (λ at s. and_then (means c p enter e s) (λ v s. stores c set at v s)))
            (assign_place p c.start ty (pointer_in place) (place_type p c.start place ty) (place_code p c.start place None) (atom_of (λ z. true) e) (code p c.start e))
        there =
            assigned_there c set p same enter ty (place_type p c.start place ty) place e pointed.shape scalar pointed.for pointed.located lowered is pointed.in_place pointed.variable

        by : (shape : Option Ty) → slice_get p.types ty ≡ shape → IsScalar shape
            → Evaluates c (Goes c true) (IsThereUnless false) ty (λ s. means c p enter (tree.assign ty place e) s) (code p c.start (tree.assign ty place e))
        by (Some (Whole kind)) known h =
            subst (λ shape. AssignedBy e shape (variable_of place)) (sym known) (subst (λ v. AssignedBy e (Some (Whole kind)) v) (sym none) there)
        by (Some (Pointer target)) known h =
            subst (λ shape. AssignedBy e shape (variable_of place)) (sym known) (subst (λ v. AssignedBy e (Some (Pointer target)) v) (sym none) there)
        by (Some (Array of count)) known h = absurd h
        by (Some (Struct members)) known h = absurd h
        by None known h = absurd h
