use Rattle.std.proofs.Common.{◌≡◌, drop}
use Rattle.porch_flat.specs.inside.CallGraph.{noted}
use Rattle.porch_flat.proofs.whole.calls.Callers.note.Given as goal

abbrev pub invariant-loop-command : goal.invariant-loop-command
invariant-loop-command l = noted l.f (drop l.command-index l.commands) l.self ≡ noted l.f l.commands l.fn.self
