use Rattle.std.proofs.Common.{arith, rules, sym}
use Rattle.porch_flat.proofs.Rules.{valid_result}
use Rattle.porch_flat.proofs.checks.is_valid.Goals as goal

pub returns-in-Some : goal.returns-in-Some
returns-in-Some c =
    let main = c.in-Some.main.now in
    valid_result c.args.flat.now main c.is_main.result (c.are_kinds.ensures.0 (search rules)) (c.is_empty.ensures.0 (search rules)) (sym c.in-Some.ensures.value) (omega arith) c.is_main.ensures
