use Rattle.std.proofs.Common.{◌≡◌, ◌*◌, ◌%◌, ◌^◌, ◌≤◌, arith}
use mir.Syntax.{w128}
use Rattle.std.proofs.lemmas.Int.{to_z_pos}
use Rattle.porch_values.proofs.Bounds.{power_small}
use Rattle.porch_values.proofs.results.power.Goals as goal

pub returns : goal.returns
returns c =
    let small : 2 ^ c.args.count ≤ 2 ^ 63 = power_small c.args.count c.requires in
    let same : 1 * 2 ^ c.args.count % 340282366920938463463374607431768211456 ≡ 2 ^ c.args.count = omega arith in
    rw same (to_z_pos w128 (2 ^ c.args.count) (omega arith))
