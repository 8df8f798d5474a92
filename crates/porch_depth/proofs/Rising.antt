-- What tokens show of the uses of each only rises.
use Rattle.std.proofs.Common.{◌≡◌, ◌≤◌, ◌+◌, ℕ, suc, Bool, true, false, nat_lt, if◌then◌else◌, List, [], ◌∷◌, ◌++◌, Option, Some, None, refl, sym, subst, ap, arith}
use Rattle.porch_tree.specs.Pieces.{Spelled}
use Rattle.porch_walk.specs.Walk.{Stage, step, start}
use Rattle.porch_walk.specs.Walks.{knows}
use Rattle.porch_walk.specs.declared.level.Level.{Level}
use Rattle.porch_walk.specs.declared.level.Reading.{Reading}
use Rattle.porch_walk.specs.Levels.{read, readings, readings_from, covering, shown, uses_shown}
use Rattle.porch_depth.specs.Levels.{AreAtLeast}

record Longer (later earlier : List Reading) : Type 0 where
  more : List Reading
  parts : later ≡ earlier ++ more

longer_by : (s : Stage) (ls : List Level) (i : ℕ) (t : Spelled) (ts us : List Spelled) (o : Option Stage)
    → ((next : Stage) (kept : List Level) → Longer (readings next kept (i + 1) us) (readings next kept (i + 1) ts))
    → Longer (readings_from o (λ next. (read (knows s t) i t.word s.pending ls).reading ∷ readings next (read (knows s t) i t.word s.pending ls).levels (i + 1) us))
    (readings_from o (λ next. (read (knows s t) i t.word s.pending ls).reading ∷ readings next (read (knows s t) i t.word s.pending ls).levels (i + 1) ts))
longer_by s ls i t ts us None f = record { more = []; parts = refl }
longer_by s ls i t ts us (Some next) f =
    let k = f next (read (knows s t) i t.word s.pending ls).levels in
    record { more = k.more; parts = ap (λ rs. (read (knows s t) i t.word s.pending ls).reading ∷ rs) k.parts }

longer : (ts rest : List Spelled) (s : Stage) (ls : List Level) (i : ℕ) → Longer (readings s ls i (ts ++ rest)) (readings s ls i ts)
longer [] rest s ls i = record { more = readings s ls i rest; parts = refl }
longer (t ∷ ts) rest s ls i = longer_by s ls i t ts (ts ++ rest) (step s t.word t.bytes) (λ next kept. longer ts rest next kept (i + 1))

covers_more : (rs more : List Reading) (n : ℕ) → covering n rs ≤ covering n (rs ++ more)
covers_more [] more n = search arith
covers_more (r ∷ rs) more n = by (nat_lt n r.back) (covers_more rs more (suc n))
  where
    by : (b : Bool) → covering (suc n) rs ≤ covering (suc n) (rs ++ more)
        → (if b then suc (covering (suc n) rs) else covering (suc n) rs) ≤ (if b then suc (covering (suc n) (rs ++ more)) else covering (suc n) (rs ++ more))
    by true h = omega (arith, h)
    by false h = h

shows_more : (rs more : List Reading) → AreAtLeast (shown (rs ++ more)) (shown rs)
shows_more [] more = tt
shows_more (r ∷ rs) more = (let h = covers_more rs more 0 in omega (arith, h), shows_more rs more)

pub rises : (ts rest : List Spelled) → AreAtLeast (uses_shown (ts ++ rest)) (uses_shown ts)
rises ts rest =
    let k = longer ts rest start [] 0 in
    subst (λ rs. AreAtLeast (shown rs) (uses_shown ts)) (sym k.parts) (shows_more (readings start [] 0 ts) k.more)
