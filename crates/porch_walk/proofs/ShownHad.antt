-- One of the units that go on from where a text is read to has just the uses that are shown.
use Rattle.std.proofs.Common.{◌≡◌, ◌<◌, ℕ, zero, suc, ◌+◌, Bool, true, false, nat_lt, if◌then◌else◌, List, [], ◌∷◌, ◌++◌, map, length, take, drop, get_or, slice_get, Option, Some, None, refl, sym, subst, ap, ◌∙◌, arith}
use Rattle.std.proofs.Math.Seq.{take-length}
use Rattle.porch_tree.specs.declared.word.Word.{Word}
use Rattle.porch_tree.specs.declared.word.Word.TheVariants as word
use Rattle.porch_tree.specs.Pieces.{Spelled, Piece, unit_pieces}
use Rattle.porch_tree.specs.Grammar.{uses_at, HasBytes}
use Rattle.porch_walk.specs.declared.level.Level.{Level}
use Rattle.porch_walk.specs.declared.level.Reading.{Reading}
use Rattle.porch_walk.specs.Walk.{Stage, step, start, run_from, run, Wrong, wrong}
use Rattle.porch_walk.specs.Walks.{knows}
use Rattle.porch_walk.specs.Levels.{read, readings, readings_from, covering, shown, uses_shown}
use Rattle.porch_walk.specs.Reach.{reach_of}
use Rattle.porch_walk.specs.Had.{IsHad}
use Rattle.porch_walk.proofs.Passes.{at}
use Rattle.porch_walk.proofs.Completes.{completion}
use Rattle.porch_walk.proofs.Kept.{run_good}
use Rattle.porch_walk.proofs.First.{no_stage, same_stage, from_zero, ending, tokens_of, read_beginning, PreClean, right, halted}
use Rattle.porch_walk.proofs.Reach.{clean_all}
use Rattle.porch_walk.proofs.Owing.{Seen, seen, Owes, nothing, owing, even}
use Rattle.porch_walk.proofs.ShownEnds.{with_uses, alike_uses, ends_right}
use Rattle.porch_walk.proofs.ShownUses.{AreAlike, ArePaid, are_shown, unit_uses}

own_bytes : (w : Word) (bs : List ℕ) → HasBytes w bs bs
own_bytes (word.Key k) bs = tt
own_bytes (word.Mark m) bs = tt
own_bytes w bs = refl

tokens_alike : (ps : List Piece) → AreAlike (tokens_of ps) ps
tokens_alike [] = tt
tokens_alike (p ∷ ps) = (record { word = refl; bytes = own_bytes p.word p.bytes }, tokens_alike ps)

-- readings of tokens and more tokens
record Parted (s n : Stage) (ls : List Level) (i : ℕ) (ts rest : List Spelled) : Type 0 where
  levels : List Level
  place : ℕ
  parts : readings s ls i (ts ++ rest) ≡ readings s ls i ts ++ readings n levels place rest
  count : length (readings s ls i ts) ≡ length ts
  reached : place ≡ i + length ts

parted_on : (s n : Stage) (ls : List Level) (i : ℕ) (t : Spelled) (ts rest : List Spelled) (o : Option Stage) → step s t.word t.bytes ≡ o
    → ((m : Stage) (ms : List Level) → run m ts ≡ Some n → Parted m n ms (i + 1) ts rest) → run_from o (λ m. run m ts) ≡ Some n → Parted s n ls i (t ∷ ts) rest
parted_on s n ls i t ts rest None h f e = absurd (no_stage n e)
parted_on s n ls i t ts rest (Some m) h f e =
    let r = read (knows s t) i t.word s.pending ls in
    let k = f m r.levels e in
    let one : (us : List Spelled) → readings s ls i (t ∷ us) ≡ r.reading ∷ readings m r.levels (i + 1) us = λ us. ap (λ o. readings_from o (λ next. r.reading ∷ readings next r.levels (i + 1) us)) h in
    record {
      levels = k.levels;
      place = k.place;
      parts = one (ts ++ rest) ∙ ap (λ rs. r.reading ∷ rs) (k.parts) ∙ ap (λ rs. rs ++ readings n k.levels k.place rest) (sym (one ts));
      count = ap length (one ts) ∙ ap suc (k.count);
      reached = let z = k.reached in omega (arith, z);
    }

parted : (ts rest : List Spelled) (s n : Stage) (ls : List Level) (i : ℕ) → run s ts ≡ Some n → Parted s n ls i ts rest
parted [] rest s n ls i e = record {
  levels = ls;
  place = i;
  parts = ap (λ m. readings m ls i rest) (same_stage s n e);
  count = refl;
  reached = omega arith;
}
parted (t ∷ ts) rest s n ls i e = parted_on s n ls i t ts rest (step s t.word t.bytes) refl (λ m ms. parted ts rest m n ms (i + 1)) e

-- tokens of which nothing is asked any more
abbrev zeros : ℕ → List Seen
zeros zero = []
zeros (suc n) = seen 0 0 ∷ zeros n

zeros_owe : (n : ℕ) → Owes 0 [] (zeros n)
zeros_owe zero = nothing
zeros_owe (suc n) = owing even (zeros_owe n)

zeros_length : (n : ℕ) → length (zeros n) ≡ n
zeros_length zero = refl
zeros_length (suc n) = ap suc (zeros_length n)

uncovered : (k a : ℕ) (rs : List Reading) → ArePaid a (zeros k) rs → (m : ℕ) → m < k → covering (a + m) rs ≡ 0
uncovered zero a rs h m l = absurd (omega (arith, l))
uncovered (suc k) a rs h zero l = let z : a + 0 ≡ a = omega arith in ap (λ n. covering n rs) z ∙ nothing_more (covering a rs) h.0
  where
    nothing_more : (c : ℕ) → 0 + c ≡ 0 → c ≡ 0
    nothing_more c e = omega (arith, e)
uncovered (suc k) a rs h (suc m) l =
    let z : a + suc m ≡ suc a + m = omega arith in
    ap (λ n. covering n rs) z ∙ uncovered k (suc a) rs h.1 m (omega (arith, l))

-- what is shown of tokens that no later one covers
cover_same : (rs more : List Reading) (n : ℕ) → covering (n + length rs) more ≡ 0 → covering n (rs ++ more) ≡ covering n rs
cover_same [] more n h = let z : n ≡ n + 0 = omega arith in ap (λ k. covering k more) z ∙ h
cover_same (r ∷ rs) more n h =
    let z : suc n + length rs ≡ n + suc (length rs) = omega arith in
    ap (λ c. if nat_lt n r.back then suc c else c) (cover_same rs more (suc n) (ap (λ k. covering k more) z ∙ h))

shown_same : (rs more : List Reading) → ((m : ℕ) → m < length rs → covering m more ≡ 0) → (i : ℕ) → i < length rs → get_or (shown (rs ++ more)) i 0 ≡ get_or (shown rs) i 0
shown_same [] more h i l = absurd (omega (arith, l))
shown_same (r ∷ rs) more h zero l =
    let z : 0 + length rs ≡ length rs = omega arith in
    ap (λ c. r.uses + c) (cover_same rs more 0 (ap (λ k. covering k more) z ∙ h (length rs) (omega arith)))
shown_same (r ∷ rs) more h (suc i) l = shown_same rs more (λ m k. h m (omega (arith, k))) i (omega (arith, l))

uses_are : (ps : List Piece) (i : ℕ) → uses_at (slice_get ps i) ≡ get_or (map (λ (p : Piece). p.uses) ps) i 0
uses_are [] i = refl
uses_are (p ∷ ps) zero = refl
uses_are (p ∷ ps) (suc i) = uses_are ps i

had : (ts rest : List Spelled) (n : Stage) → run start ts ≡ Some n → PreClean start ts rest → IsHad ts
had ts rest n e c =
    let u = read_beginning ts rest n e c in
    let k = parted ts (ending n) start n [] 0 e in
    let os = zeros (length ts) in
    let z : k.place ≡ length os = k.reached ∙ from_zero (length ts) ∙ sym (zeros_length (length ts)) in
    let r = ends_right n.pending n.types n.fresh n.inside (k.levels) os (run_good ts start n tt e) (zeros_owe (length ts)) in
    let more = readings n (k.levels) (k.place) (ending n) in
    let a = are_shown (ending n) (with_uses r.uses (completion n.inside n.pending)) n (k.levels) os (alike_uses r.uses (ending n) (completion n.inside n.pending) (tokens_alike (completion n.inside n.pending))) r.right in
    let paid : ArePaid 0 os more = subst (λ j. ArePaid 0 os (readings n (k.levels) j (ending n))) (sym z) (a.paid) in
    let rs = readings start [] 0 ts in
    record {
      unit = u.part;
      begins = record { rest = ending n; unit = u.unit };
      uses = λ i l.
          uses_are (unit_pieces u.part) i ∙ ap (λ us. get_or us i 0) (sym (unit_uses (ts ++ ending n) u.part u.unit)) ∙ ap (λ qs. get_or (shown qs) i 0) (k.parts)
          ∙ shown_same rs more (λ m h. let y : 0 + m ≡ m = omega arith in ap (λ j. covering j more) (sym y) ∙ uncovered (length ts) 0 more paid m (subst (λ j. m < j) (k.count) h)) i (subst (λ j. i < j) (sym (k.count)) l);
    }

had_by : (ts : List Spelled) (o : Option Wrong) → wrong 0 start ts ≡ o → IsHad (take (reach_of ts o) ts)
had_by ts None e =
    let r = right ts 0 start e in
    had (take (length ts) ts) (drop (length ts) ts) (r.last) (ap (run start) (take-length ts) ∙ r.run) (clean_all ts start (r.clean))
had_by ts (Some w) e =
    let r = halted ts 0 w start e in
    let p : w.token ≡ r.passed = r.place ∙ from_zero (r.passed) in
    subst (λ k. IsHad (take k ts)) (sym p) (had (take (r.passed) ts) (drop (r.passed) ts) (r.halted.stage) (r.halted.before) (r.halted.clean))

-- up to where a text is read
pub had_there : (ts : List Spelled) → IsHad (take (reach_of ts (wrong 0 start ts)) ts)
had_there ts = had_by ts (wrong 0 start ts) refl
