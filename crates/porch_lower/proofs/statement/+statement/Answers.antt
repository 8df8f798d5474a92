use denote.Param.Weighed.{at_most}
use Rattle.std.proofs.Common.{◌<◌, ◌^◌, ◌++◌, length, arith, rules, length-append}
use Rattle.porch_lower.specs.Code.{actions_code}
use Rattle.porch_lower.proofs.Counts.{block, actions_here}
use Rattle.porch_lower.proofs.Blocks.{statement_done, statement_short}
use Rattle.porch_lower.proofs.statement.+statement.Goals as goal

pub statements-statement-requires : goal.statements-statement-requires
statements-statement-requires t c =
    let here : c.loop-one.one-index < length c.args.statements.now = omega arith in
    let all = actions_here c.args.statements.now c.loop-one.one-index c.one-item.result here c.one-item.is in
    let whole = c.args.commands.now ++ actions_code c.args.from (length c.args.commands.now) (block c.args.statements.now) in
    let short : length whole < 2 ^ 30 = simp length-append c.requires.short in (
      search (rules, at_most),
      (
        omega (arith, all, c.loop-one.invariant.few),
        statement_short (2 ^ 30) whole c.loop-one.commands c.args.from c.loop-one.one-index c.args.statements.now c.one-item.result c.loop-one.invariant.code here c.one-item.is short,
      ),
    )

pub statements-loop-one-preserved : goal.statements-loop-one-preserved
statements-loop-one-preserved t c =
    let here : c.loop-one.one-index < length c.args.statements.now = omega arith in
    let all = actions_here c.args.statements.now c.loop-one.one-index c.one-item.result here c.one-item.is in
    record {
      code = statement_done (c.args.commands.now ++ actions_code c.args.from (length c.args.commands.now) (block c.args.statements.now)) c.loop-one.commands c.statement.new.commands c.args.from c.loop-one.one-index c.args.statements.now c.one-item.result c.loop-one.invariant.code here c.one-item.is c.in_ok-statement.ensures;
      few = omega (arith, all, c.loop-one.invariant.few);
    }
