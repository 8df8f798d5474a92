-- The cases fit together: the code of `v = v && !0 ? v + 2 : 7` follows it, for an int v of the call.
use Rattle.std.proofs.Common.{◌≡◌, ℕ, pos, refl, sym, subst, Some}
use Rattle.std.specs.Prelude.{slice_get}
use Rattle.porch_types.specs.declared.shapes.Kind.TheVariants.{Int}
use Rattle.porch_types.specs.declared.shapes.Ty.TheVariants.{Pointer}
use Rattle.porch_types.specs.LeafTypes.{IsScalar}
use Rattle.porch_values.specs.declared.acts.Op.TheVariants.{Add}
use Rattle.porch_typed.specs.declared.typed.Operator.TheVariants as operator
use Rattle.porch_typed.specs.Mirror.{Expression, Program, constant, read, row, all_of, isnt, choice, assign, variable, with_expression, no_expressions, with_step, no_steps}
use Rattle.porch_typed.specs.Typed.{Applies, arithmetic}
use Rattle.porch_mean.specs.Outcome.{Calls}
use Rattle.porch_lowering.specs.Values.{INT, type_held}
use Rattle.porch_lowered.proofs.Codes.{Context, commands}
use Rattle.porch_lowered.proofs.Holding.{IsSetting}
use Rattle.porch_lowered.proofs.Branches.{AreHomes}
use Rattle.porch_lowered.proofs.Logic.{held_kind, all_of_lowered}
use Rattle.porch_lowered.proofs.Lowered.{IsLowered}
use Rattle.porch_lowered.proofs.Cases.{constant_lowered, variable_lowered, row_lowered, isnt_lowered}
use Rattle.porch_lowered.proofs.MoreCases.{choice_lowered}
use Rattle.porch_lowered.proofs.Assigned.{assigned_lowered}

abbrev v : Expression
v = read INT (variable 0)

-- v && !0
abbrev both : Expression
both = all_of v (with_expression (isnt (constant Int (pos 0))) no_expressions)

-- v + 2
abbrev sum : Expression
sum = row v (with_step (operator.Arithmetic Add Int) (constant Int (pos 2)) no_steps)

module _ (c : Context) (set : IsSetting c) (homes : AreHomes (commands c)) (p : Program) (same : c.flat.types ≡ p.types) (enter : Calls)
    (pointer_ty : ℕ) (declared : slice_get c.variables 0 ≡ Some INT) (shape : slice_get c.flat.types pointer_ty ≡ Some (Pointer INT)) where
  int_scalar : IsScalar (slice_get c.flat.types INT)
  int_scalar = subst (λ shape. IsScalar shape) (sym (set.kinds Int)) tt

  -- what is held as an int is tested, and operated on
  scalar_of : (e : Expression) → type_held p e ≡ INT → IsScalar (slice_get c.flat.types (type_held p e))
  scalar_of e is = subst (λ ty. IsScalar (slice_get c.flat.types ty)) (sym is) int_scalar

  held_int : type_held p v ≡ INT
  held_int = held_kind c set homes p enter same Int

  v_lowered : IsLowered c p enter v
  v_lowered = variable_lowered c set homes p same enter INT 0 declared int_scalar

  both_lowered : IsLowered c p enter both
  both_lowered =
      all_of_lowered c set homes p enter same v (with_expression (isnt (constant Int (pos 0))) no_expressions) v_lowered (scalar_of v held_int)
      (isnt_lowered c set homes p same enter (constant Int (pos 0)) (constant_lowered c set homes p same enter Int (pos 0) refl) (scalar_of (constant Int (pos 0)) held_int), tt)
      (scalar_of (isnt (constant Int (pos 0))) held_int, tt)

  adds : Applies c.flat.types (operator.Arithmetic Add Int) (type_held p v) (type_held p (constant Int (pos 2))) INT
  adds =
      subst (λ ty. Applies c.flat.types (operator.Arithmetic Add Int) ty ty INT) (sym held_int)
      (arithmetic Add Int INT INT refl refl (Int, set.kinds Int) (Int, set.kinds Int))

  sum_lowered : IsLowered c p enter sum
  sum_lowered =
      row_lowered c set homes p same enter v (with_step (operator.Arithmetic Add Int) (constant Int (pos 2)) no_steps) INT held_int v_lowered (λ e. cc)
      (constant_lowered c set homes p same enter Int (pos 2) refl, tt) (adds, refl)

  pub assignment_lowered : IsLowered c p enter (assign INT (variable 0) (choice (Some INT) both sum (constant Int (pos 7))))
  assignment_lowered =
      assigned_lowered c set p same enter INT pointer_ty 0 (choice (Some INT) both sum (constant Int (pos 7))) declared shape int_scalar
      (choice_lowered c set homes p same enter INT both sum (constant Int (pos 7)) both_lowered (scalar_of both held_int) sum_lowered
      (constant_lowered c set homes p same enter Int (pos 7) refl) refl refl)
      held_int
