use Rattle.std.proofs.Common.{ap, ◌∙◌, arith}
use Rattle.porch_check.specs.Sealing.{with_pointer}
use Rattle.porch_pointees.specs.Views.{as_sealed}
use Rattle.porch_pointees.proofs.Found.{first_found, one_more, all_there}
use Rattle.porch_pointees.proofs.pointers.put_pointers.Goals as goal

pub loop-to-preserved : goal.loop-to-preserved
loop-to-preserved c = λ own long are.
    one_more own (as_sealed c.loop-to.sealed) (as_sealed c.put_pointer.new.sealed) _ c.args.count c.loop-to.to (omega arith)
    (c.in_ok-put_pointer.ensures
    ∙ ap (λ f. with_pointer f c.loop-to.to (as_sealed c.loop-to.sealed))
    (first_found own c.args.pointees.now c.args.count c.loop-to.to c.first_pointer-first.result long are (omega arith) c.first_pointer-first.ensures))
    (c.loop-to.invariant own long are)

pub returns : goal.returns
returns c = λ own long are.
    all_there own (as_sealed c.loop-to.sealed) _ c.args.count c.loop-to.to (omega arith) (c.loop-to.invariant own long are)
