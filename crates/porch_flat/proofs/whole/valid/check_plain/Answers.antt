use Rattle.porch_flat.specs.declared.whole.Sort.TheVariants as sort
use Rattle.porch_flat.proofs.Faults.{taken_result}
use Rattle.porch_flat.proofs.whole.valid.check_plain.Goals as goal

pub returns-clause-taken : goal.returns-clause-taken
returns-clause-taken c = taken_result sort.Plain c.args.flat.now c.find_fault.result c.find_fault.ensures
