-- What the names that are left bind is what all bind.
use Rattle.std.proofs.Common.{◌≡◌, drop}
use Rattle.porch_scopes.specs.inside.Again.{binds_names}
use Rattle.porch_scopes.proofs.stack.declare_names.Given as goal

abbrev pub invariant-loop-binding : goal.invariant-loop-binding
invariant-loop-binding l = binds_names (drop l.binding-index l.names) l.stack ≡ binds_names l.names l.initial.stack
