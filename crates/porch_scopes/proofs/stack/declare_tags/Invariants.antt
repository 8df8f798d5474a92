-- What the tags that are left bind is what all bind.
use Rattle.std.proofs.Common.{◌≡◌, drop}
use Rattle.porch_scopes.specs.inside.Again.{binds_tags}
use Rattle.porch_scopes.proofs.stack.declare_tags.Given as goal

abbrev pub invariant-loop-binding : goal.invariant-loop-binding
invariant-loop-binding l = binds_tags (drop l.binding-index l.tags) l.stack ≡ binds_tags l.tags l.initial.stack
