use Rattle.porch_store.specs.Stores.{IsFilling}
use Rattle.porch_store_tests.proofs.commit.append_often.Given as goal

abbrev pub invariant-loop-i : goal.invariant-loop-i
invariant-loop-i l = IsFilling l.store
