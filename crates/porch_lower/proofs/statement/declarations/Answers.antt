use Rattle.std.proofs.Common.{◌<◌, ◌++◌, length, arith}
use Rattle.porch_lower.specs.Code.{declarations_code}
use Rattle.porch_lower.proofs.Counts.{declared, declarations_here}
use Rattle.porch_lower.proofs.Blocks.{declaration_done}
use Rattle.porch_lower.proofs.statement.declarations.Goals as goal

pub loop-variable-preserved : goal.loop-variable-preserved
loop-variable-preserved c =
    let here : c.loop-variable.variable < length c.args.declarations.now = omega arith in
    let all = declarations_here c.args.declarations.now c.loop-variable.variable c.index-declarations-variable.result here c.index-declarations-variable.is in
    record {
      code = declaration_done (c.args.commands.now ++ declarations_code c.args.from 0 (declared c.args.declarations.now)) c.loop-variable.commands c.declaration.new.commands c.args.from c.loop-variable.variable c.args.declarations.now c.index-declarations-variable.result c.loop-variable.invariant.code here c.index-declarations-variable.is c.in_ok-declaration.ensures;
      few = omega (arith, all, c.loop-variable.invariant.few);
    }
