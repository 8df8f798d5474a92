use Rattle.porch_abstract.specs.Held.{Fits as FitsObjects, Continues}
use Rattle.porch_machine.specs.Steps.{Fits as FitsBytes}
use Rattle.porch_tests.proofs.side_by_side.walk_both.Given as goal

abbrev pub invariant-loop : goal.invariant-loop
invariant-loop l = record {
  objects : FitsObjects l.program l.objects;
  continues : Continues l.objects.state;
  bytes : FitsBytes l.program l.bytes;
}
