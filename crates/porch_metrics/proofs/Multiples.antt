-- A place rounded up is the lowest multiple of an alignment at or after it.
use Rattle.std.proofs.Common.{◌≡◌, ℕ, ◌+◌, ◌-◌, ◌*◌, ◌/◌, ◌%◌, ◌<◌, ◌≤◌, arith}
use Rattle.std.proofs.lemmas.Nat.{div-add-mod'}
use Rattle.std.proofs.Math.Nat.{mul-mod_left, mul-le-mul_right, div-mul-le_self, lt-div-mul-add}
use Rattle.porch_metrics.specs.Extents.{round_up}

pub round_multiple : (place align : ℕ) → round_up place align % align ≡ 0
round_multiple place align = mul-mod_left ((place + (align - 1)) / align) align

pub round_after : (place align : ℕ) → 0 < align → place ≤ round_up place align
round_after place align some =
    let high : place + (align - 1) < (place + (align - 1)) / align * align + align = lt-div-mul-add some in
    omega (arith, high)

-- a multiple is at least the other where it isn't one alignment below it
no_later : (a q r : ℕ) → r * a < q * a + a → r ≤ q
no_later a q r less = grind arith

pub round_least : (place align other : ℕ) → 0 < align → place ≤ other → other % align ≡ 0 → round_up place align ≤ other
round_least place align other some below multiple =
    let low : (place + (align - 1)) / align * align ≤ place + (align - 1) = div-mul-le_self (place + (align - 1)) align in
    let is : other / align * align + other % align ≡ other = div-add-mod' other align in
    let few : (place + (align - 1)) / align ≤ other / align = no_later align (other / align) ((place + (align - 1)) / align) (omega (arith, low, is, multiple)) in
    omega (arith, mul-le-mul_right align few, is, multiple)
