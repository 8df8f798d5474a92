-- Late uses, one more token back.
use Rattle.std.proofs.Common.{◌≡◌, ◌<◌, ◌+◌, ◌-◌, ℕ, suc, Bool, true, false, nat_eq, nat_lt, if◌then◌else◌, List, [], ◌∷◌, get_or, refl, sym, ap, ◌∙◌, arith}
use Rattle.porch_walk.specs.declared.level.Reading.{Reading}
use Rattle.porch_depth.specs.declared.sweep.Sweep.{Sweep}
use Rattle.porch_walk.specs.Levels.{covering}
use Rattle.porch_depth.specs.inside.Reads.{ending, IsSwept}

abbrev pub one_if : Bool → ℕ
one_if true = 1
one_if false = 0

more_if : (b : Bool) (n : ℕ) → (if b then suc n else n) ≡ one_if b + n
more_if true n = omega arith
more_if false n = omega arith

split_at : (n k : ℕ) → one_if (nat_lt (suc n) k) + one_if (nat_eq k (suc n)) ≡ one_if (nat_lt n k)
split_at n k = grind arith

-- what covers the token before is what doesn't end here
pub cover_split : (n : ℕ) (rs : List Reading) → covering (suc n) rs + ending n rs ≡ covering n rs
cover_split n [] = refl
cover_split n (r ∷ rs) =
    let a = more_if (nat_lt (suc n) r.back) (covering (suc (suc n)) rs) in
    let b = more_if (nat_eq r.back (suc n)) (ending (suc n) rs) in
    let d = more_if (nat_lt n r.back) (covering (suc n) rs) in
    let e = cover_split (suc n) rs in
    let f = split_at n r.back in
    omega (arith, a, b, d, e, f)

pub swept_on : (rs : List Reading) (r : Reading) (place : ℕ) (old new : Sweep) → IsSwept rs (place + 1) old
    → new.covering ≡ one_if (nat_lt 0 r.back) + (old.covering - get_or old.endings.items place 0)
    → ((x : ℕ) → x < place → get_or new.endings.items x 0 ≡ one_if (nat_eq r.back (suc (place - suc x))) + get_or old.endings.items x 0)
    → IsSwept (r ∷ rs) place new
swept_on rs r place old new h c e = record {
  covering =
      let d = h.endings place (omega arith) in
      let k : place + 1 - suc place ≡ 0 = omega arith in
      let d : get_or old.endings.items place 0 ≡ ending 0 rs = d ∙ ap (λ n. ending n rs) k in
      let f = cover_split 0 rs in
      let g = more_if (nat_lt 0 r.back) (covering 1 rs) in
      omega (arith, c, d, f, g, h.covering);
  endings = λ x l.
      let d = h.endings x (omega (arith, l)) in
      let k : place + 1 - suc x ≡ suc (place - suc x) = omega (arith, l) in
      let d : get_or old.endings.items x 0 ≡ ending (suc (place - suc x)) rs = d ∙ ap (λ n. ending n rs) k in
      let g = more_if (nat_eq r.back (suc (place - suc x))) (ending (suc (place - suc x)) rs) in
      e x l ∙ ap (λ n. one_if (nat_eq r.back (suc (place - suc x))) + n) d ∙ sym g;
}
