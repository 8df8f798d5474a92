use Rattle.std.proofs.Common.{arith}
use Rattle.std.proofs.lemmas.Grind.{common_steps}
use Rattle.porch_depth.proofs.Sweeps.{swept_on}
use Rattle.porch_depth.proofs.sweep.sweep_on.Goals as goal

pub returns-else-reading-gt0-clause-swept : goal.returns-else-reading-gt0-clause-swept
returns-else-reading-gt0-clause-swept c = λ rs h. swept_on rs c.args.reading c.args.place c.args.sweep.now _ h
    (grind (arith, common_steps, c.saturating_sub-sweep.ensures, c.index.ensures, c.if-reading-gt0.false)) (λ x l. grind (arith, c.if-reading-gt0.false))

pub returns-else-back-place-clause-swept : goal.returns-else-back-place-clause-swept
returns-else-back-place-clause-swept c = λ rs h. swept_on rs c.args.reading c.args.place c.args.sweep.now _ h
    (grind (arith, common_steps, c.saturating_sub-sweep.ensures, c.index.ensures, c.if-reading-gt0.true, c.in_ok-sweep.ensures)) (λ x l. grind (arith, c.if-back-place.false, l))

pub returns-in_ok-more-clause-swept : goal.returns-in_ok-more-clause-swept
returns-in_ok-more-clause-swept c = λ rs h. swept_on rs c.args.reading c.args.place c.args.sweep.now _ h
    (grind (arith, common_steps, c.saturating_sub-sweep.ensures, c.index.ensures, c.if-reading-gt0.true, c.in_ok-sweep.ensures)) (λ x l. grind (arith, common_steps, c.requires, c.in_ok-more.ensures, c.index-then-back-place.ensures, c.if-reading-gt0.true, c.if-back-place.true, l))
