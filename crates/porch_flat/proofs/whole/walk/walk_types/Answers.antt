use Rattle.std.proofs.Common.{arith, rules, ◌≤◌}
use Rattle.std.proofs.lemmas.Grind.{common_steps}
use Rattle.porch_flat.specs.whole.Search.{first_rule}
use Rattle.porch_flat.proofs.Walked.{next_type}
use Rattle.porch_flat.proofs.whole.walk.walk_types.Goals as goal

pub returns-in-Some : goal.returns-in-Some
returns-in-Some c =
    let few : 8 ≤ c.loop-number.number = omega arith in
    let next = next_type (first_rule c.args.sort c.args.flat.now) c.loop-number.number c.args.flat.now.types c.get.result.now few c.get.ensures in
    search (rules, next)

pub loop-number-preserved : goal.loop-number-preserved
loop-number-preserved c =
    let few : 8 ≤ c.loop-number.number = omega arith in
    let next = next_type (first_rule c.args.sort c.args.flat.now) c.loop-number.number c.args.flat.now.types c.get.result.now few c.get.ensures in
    grind (arith, common_steps, next)
