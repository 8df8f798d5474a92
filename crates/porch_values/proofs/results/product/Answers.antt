use Rattle.std.proofs.Common.{arith, ◌^◌, ◌≤◌, FitsSigned, to_z-of_z, ◌*ℤ◌, unsigned_abs, lit<}
use mir.Syntax.{w128}
use Rattle.std.proofs.lemmas.Int.{ints, fits_signed_mul}
use Rattle.porch_values.proofs.results.product.Goals as goal

pub returns : goal.returns
returns c =
    let l = c.requires.left in
    let r = c.requires.right in
    let left : unsigned_abs c.args.a ≤ 2 ^ 63 = omega (arith, ints) in
    let right : unsigned_abs c.args.b ≤ 2 ^ 63 = omega (arith, ints) in
    let f : FitsSigned w128 (c.args.a *ℤ c.args.b) = fits_signed_mul w128 c.args.a c.args.b (2 ^ 63) (2 ^ 63) left right (lit< tt) in
    grind (arith, to_z-of_z, f)
