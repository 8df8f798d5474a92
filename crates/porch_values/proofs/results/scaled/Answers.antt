use Rattle.std.proofs.Common.{arith, ◌^◌, ◌≤◌, ◌-◌, FitsSigned, to_z-of_z, ◌*ℤ◌, pos, unsigned_abs, lit<}
use mir.Syntax.{w128}
use Rattle.std.proofs.lemmas.Int.{ints, fits_signed_mul}
use Rattle.porch_values.proofs.Bounds.{power_small}
use Rattle.porch_values.proofs.results.scaled.Goals as goal

pub returns : goal.returns
returns c =
    let l = c.requires.left.low in
    let h = c.requires.left.high in
    let left : unsigned_abs c.args.a ≤ 2 ^ 64 - 1 = omega (arith, ints) in
    let right : unsigned_abs (pos (2 ^ c.args.count)) ≤ 2 ^ 63 = power_small c.args.count c.requires.count in
    let f : FitsSigned w128 (c.args.a *ℤ pos (2 ^ c.args.count)) = fits_signed_mul w128 c.args.a (pos (2 ^ c.args.count)) (2 ^ 64 - 1) (2 ^ 63) left right (lit< tt) in
    rw c.power-power.ensures (grind (arith, to_z-of_z, f))

pub overflow_mul-result : goal.overflow_mul-result
overflow_mul-result c =
    let l = c.requires.left.low in
    let h = c.requires.left.high in
    let left : unsigned_abs c.args.a ≤ 2 ^ 64 - 1 = omega (arith, ints) in
    let right : unsigned_abs (pos (2 ^ c.args.count)) ≤ 2 ^ 63 = power_small c.args.count c.requires.count in
    let f : FitsSigned w128 (c.args.a *ℤ pos (2 ^ c.args.count)) = fits_signed_mul w128 c.args.a (pos (2 ^ c.args.count)) (2 ^ 64 - 1) (2 ^ 63) left right (lit< tt) in
    rw c.power-power.ensures (grind (arith, to_z-of_z, f))
