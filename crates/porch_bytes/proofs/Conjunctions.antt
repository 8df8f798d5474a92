-- What holds where two tests hold.
use Rattle.std.proofs.Common.{◌≡◌, refl, Bool, true, false}
use Rattle.std.specs.Prelude.{◌&&◌}

pub first : (x y : Bool) → (x && y) ≡ true → x ≡ true
first true y h = refl
first false y h = h

pub second : (x y : Bool) → (x && y) ≡ true → y ≡ true
second true y h = h
second false y h = absurd (let g = h in cc)
