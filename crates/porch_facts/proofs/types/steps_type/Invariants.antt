use Rattle.std.proofs.Common.{◌≡◌, map, drop}
use Rattle.porch_typed.specs.Views.{steps_of}
use Rattle.porch_lowering.specs.Values.{steps_type}
use Rattle.porch_facts.specs.inside.Rows.{step_of}
use Rattle.porch_facts.proofs.types.steps_type.Given as goal

abbrev pub invariant-loop-operator : goal.invariant-loop-operator
invariant-loop-operator l =
    steps_type (steps_of (map step_of (drop l.operator-index l.steps))) l.ty
    ≡ steps_type (steps_of (map step_of l.steps)) l.fn.first
