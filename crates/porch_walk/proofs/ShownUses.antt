-- Over the tokens of a unit the walk shows of each the uses that its piece lies in.
use Rattle.std.proofs.Common.{◌≡◌, ◌≤◌, ℕ, zero, suc, ◌+◌, Bool, true, false, nat_lt, if◌then◌else◌, List, [], ◌∷◌, map, length, Option, Some, None, refl, sym, subst, ap, ◌∙◌, arith}
use Rattle.porch_tree.specs.declared.word.Word.{Word}
use Rattle.porch_tree.specs.Mirror.{TranslationUnit}
use Rattle.porch_tree.specs.Pieces.{Spelled, Piece, unit_pieces}
use Rattle.porch_tree.specs.Grammar.{HasBytes, AreMatched, IsDeepUnit}
use Rattle.porch_walk.specs.declared.level.Level.{Level}
use Rattle.porch_walk.specs.declared.level.Reading.{Reading}
use Rattle.porch_walk.specs.Walk.{Stage, step, start, name_bytes, names_type}
use Rattle.porch_walk.specs.Walks.{knows}
use Rattle.porch_walk.specs.Levels.{Read, read, readings, readings_from, covering, shown, uses_shown}
use Rattle.porch_walk.proofs.First.{step_same, heard_same}
use Rattle.porch_walk.proofs.Owing.{Seen, seen, deepen, Short, Owes, nothing, owing, reading_at, seen_by, right_from, IsRight}
use Rattle.porch_walk.proofs.ShownUnits.{unit_shows}

-- Tokens and pieces of the same words and bytes, wherever these stand.
pub record IsAlike (t : Spelled) (p : Piece) : Type 0 where
  pub word : t.word ≡ p.word
  pub bytes : HasBytes p.word t.bytes p.bytes

abbrev pub AreAlike : List Spelled → List Piece → Type 0
AreAlike [] [] = Unit {0}
AreAlike (t ∷ ts) (p ∷ ps) = IsAlike t p × AreAlike ts ps
AreAlike ts ps = ⊥

matched_alike : (ts : List Spelled) (ps : List Piece) → AreMatched ts ps → AreAlike ts ps
matched_alike [] [] h = tt
matched_alike [] (p ∷ ps) h = absurd h
matched_alike (t ∷ ts) [] h = absurd h
matched_alike (t ∷ ts) (p ∷ ps) h = (record { word = h.0.word; bytes = h.0.bytes }, matched_alike ts ps h.1)

-- Each of these tokens, the first of which was read so many tokens ago, is covered by what comes.
abbrev pub ArePaid : ℕ → List Seen → List Reading → Type 0
ArePaid n [] rs = Unit {0}
ArePaid n (o ∷ os) rs = (o.shown + covering n rs ≡ o.uses) × ArePaid (suc n) os rs

paid_at_end : {os : List Seen} (n : ℕ) → Owes 0 [] os → ArePaid n os []
paid_at_end n nothing = tt
paid_at_end n (owing e g) = (e.sum, paid_at_end (suc n) g)

covering_is : (n : ℕ) (r : Reading) (rs : List Reading) (b : Bool) → nat_lt n r.back ≡ b → covering n (r ∷ rs) ≡ (if b then suc (covering (suc n) rs) else covering (suc n) rs)
covering_is n r rs b e = ap (λ (c : Bool). if c then suc (covering (suc n) rs) else covering (suc n) rs) e

not_reached : (n : ℕ) (os : List Seen) (r : Reading) (rs : List Reading) → r.back ≤ n → ArePaid (suc n) os rs → ArePaid n os (r ∷ rs)
not_reached n [] r rs l h = tt
not_reached n (o ∷ os) r rs l h =
    let e : nat_lt n r.back ≡ false = search (arith, l) in
    (ap (λ c. o.shown + c) (covering_is n r rs false e) ∙ h.0, not_reached (suc n) os r rs (omega (arith, l)) h.1)

reached : (m n : ℕ) (os : List Seen) (r : Reading) (rs : List Reading) → r.back ≡ n + m → ArePaid (suc n) (deepen m os) rs → ArePaid n os (r ∷ rs)
reached zero n os r rs e h = not_reached n os r rs (omega (arith, e)) h
reached (suc m) n [] r rs e h = tt
reached (suc m) n (o ∷ os) r rs e h =
    let l : nat_lt n r.back ≡ true = search (arith, e) in
    (ap (λ c. o.shown + c) (covering_is n r rs true l) ∙ moved_one o.shown (covering (suc n) rs) ∙ h.0, reached m (suc n) os r rs (omega (arith, e)) h.1)
  where
    moved_one : (a c : ℕ) → a + suc c ≡ suc a + c
    moved_one a c = omega arith

deepened_length : (m : ℕ) (os : List Seen) → length (deepen m os) ≡ length os
deepened_length zero os = refl
deepened_length (suc m) [] = refl
deepened_length (suc m) (o ∷ os) = ap suc (deepened_length m os)

from_zero : (n : ℕ) → n ≡ 0 + n
from_zero n = omega arith

one_more : (n : ℕ) → n + 1 ≡ suc n
one_more n = omega arith

-- what is shown of the tokens to come, and of those that were read
pub record AreShown (s : Stage) (ls : List Level) (os : List Seen) (ts : List Spelled) (ps : List Piece) : Type 0 where
  pub uses : shown (readings s ls (length os) ts) ≡ map (λ (p : Piece). p.uses) ps
  pub paid : ArePaid 0 os (readings s ls (length os) ts)

read_same : (s : Stage) (ls : List Level) (os : List Seen) (t : Spelled) (p : Piece) → IsAlike t p → read (knows s t) (length os) t.word s.pending ls ≡ reading_at s ls os p
read_same s ls os t p m =
    ap (λ (w : Word). read (names_type s.types (name_bytes w t.bytes)) (length os) w s.pending ls) m.word
    ∙ ap (λ bs. read (names_type s.types bs) (length os) p.word s.pending ls) (heard_same p.word t.bytes p.bytes m.bytes)

shown_next : (s next : Stage) (ls : List Level) (os : List Seen) (t : Spelled) (p : Piece) (ts : List Spelled) (ps : List Piece) → IsAlike t p → step s p.word p.bytes ≡ Some next
    → AreShown next (reading_at s ls os p).levels (seen_by (reading_at s ls os p).reading p.uses os) ts ps → AreShown s ls os (t ∷ ts) (p ∷ ps)
shown_next s next ls os t p ts ps m e h =
    let r = reading_at s ls os p in
    let n : length os + 1 ≡ length (seen_by r.reading p.uses os) = one_more (length os) ∙ sym (ap suc (deepened_length (r.reading.back) os)) in
    let rs = readings next r.levels (length (seen_by r.reading p.uses os)) ts in
    let q : readings s ls (length os) (t ∷ ts) ≡ r.reading ∷ rs =
    ap (λ o. readings_from o (λ v. (read (knows s t) (length os) t.word s.pending ls).reading ∷ readings v (read (knows s t) (length os) t.word s.pending ls).levels (length os + 1) ts)) (step_same s t.word p.word t.bytes p.bytes m.word m.bytes ∙ e)
    ∙ ap (λ (v : Read). v.reading ∷ readings next v.levels (length os + 1) ts) (read_same s ls os t p m)
    ∙ ap (λ k. r.reading ∷ readings next r.levels k ts) n in
    record {
      uses = ap shown q ∙ ap (λ u. u ∷ shown rs) (h.paid.0) ∙ ap (λ us. p.uses ∷ us) (h.uses);
      paid = subst (λ v. ArePaid 0 os v) (sym q) (reached (r.reading.back) 0 os r.reading rs (from_zero (r.reading.back)) (h.paid.1));
    }

shown_from : (s : Stage) (ls : List Level) (os : List Seen) (t : Spelled) (p : Piece) (ts : List Spelled) (ps : List Piece) (o : Option Stage) → IsAlike t p → step s p.word p.bytes ≡ o
    → ((next : Stage) (ms : List Level) (ns : List Seen) → IsRight next ms ns ps → AreShown next ms ns ts ps)
    → right_from o (λ next. IsRight next (reading_at s ls os p).levels (seen_by (reading_at s ls os p).reading p.uses os) ps) → AreShown s ls os (t ∷ ts) (p ∷ ps)
shown_from s ls os t p ts ps None m e f h = absurd h
shown_from s ls os t p ts ps (Some next) m e f h = shown_next s next ls os t p ts ps m e (f next _ _ h)

pub are_shown : (ts : List Spelled) (ps : List Piece) (s : Stage) (ls : List Level) (os : List Seen) → AreAlike ts ps → IsRight s ls os ps → AreShown s ls os ts ps
are_shown [] [] s ls os m h = record { uses = refl; paid = paid_at_end 0 h }
are_shown [] (p ∷ ps) s ls os m h = absurd m
are_shown (t ∷ ts) [] s ls os m h = absurd m
are_shown (t ∷ ts) (p ∷ ps) s ls os m h = shown_from s ls os t p ts ps (step s p.word p.bytes) m.0 refl (λ next ms ns. are_shown ts ps next ms ns m.1) h

pub unit_uses : (ts : List Spelled) (u : TranslationUnit) → IsDeepUnit ts u → uses_shown ts ≡ map (λ (p : Piece). p.uses) (unit_pieces u)
unit_uses ts u d = (are_shown ts (unit_pieces u) start [] [] (matched_alike ts (unit_pieces u) d.spelled) (unit_shows u [] [] [] d.formed d.names nothing)).uses
