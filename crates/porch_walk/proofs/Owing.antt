-- Tokens that were read: the uses that are shown of them so far, and those that they lie in. Over the pieces of
-- a unit nothing is owed at the end.
use Rattle.std.proofs.Common.{◌≡◌, ◌≤◌, ℕ, zero, suc, ◌+◌, ◌-◌, Bool, true, false, nat_lt, if◌then◌else◌, List, [], ◌∷◌, ◌++◌, map, length, Option, Some, None, refl, sym, ap, subst, ◌∙◌, arith}
use Rattle.porch_tree.specs.declared.word.Word.{Word}
use Rattle.porch_tree.specs.Pieces.{Spelled, Piece}
use Rattle.porch_walk.specs.declared.symbol.Symbol.{Symbol}
use Rattle.porch_walk.specs.declared.level.Level.{Level}
use Rattle.porch_walk.specs.declared.level.Reading.{Reading}
use Rattle.porch_walk.specs.Walk.{Stage, step, heard, name_bytes, names_type, behind}
use Rattle.porch_walk.specs.Plans.{Plan, plan}
use Rattle.porch_walk.specs.Levels.{level, Read, read, read_or}
use Rattle.porch_walk.proofs.Passes.{at}

-- A token that was read.
pub record Seen : Type 0 where
  pub shown : ℕ
  pub uses : ℕ

abbrev pub seen : ℕ → ℕ → Seen
seen a b = record { shown = a; uses = b }

-- So many tokens that were read last turn out to lie one use deeper.
abbrev pub deepen : ℕ → List Seen → List Seen
deepen zero os = os
deepen (suc n) [] = []
deepen (suc n) (o ∷ os) = seen (suc o.shown) o.uses ∷ deepen n os

-- Of this many uses all but `k` are shown.
pub record Short (k shown uses : ℕ) : Type 0 where
  pub sum : shown + k ≡ uses

-- More tokens were read, of each of which `k` uses aren't shown yet.
pub data Owes (k : ℕ) (old : List Seen) : List Seen → Type 0 where
  nothing : Owes k old old
  owing : {a b : ℕ} {new : List Seen} → Short k a b → Owes k old new → Owes k old (seen a b ∷ new)

pub both : {k : ℕ} {os ns ms : List Seen} → Owes k os ns → Owes k ns ms → Owes k os ms
both g nothing = g
both g (owing e h) = owing e (both g h)

pub one : {k a b : ℕ} {os : List Seen} → Short k a b → Owes k os (seen a b ∷ os)
one e = owing e nothing

pub even : {a : ℕ} → Short 0 a a
even = record { sum = omega arith }

-- so many uses deeper
pub by0 : {k a d : ℕ} → Short k a d → Short k (a + 0) d
by0 e = record { sum = omega (arith, e.sum) }

pub by1 : {k a d : ℕ} → Short k a d → Short k (a + 1) (suc d)
by1 e = record { sum = omega (arith, e.sum) }

pub by2 : {k a d : ℕ} → Short k a d → Short k (a + 2) (suc (suc d))
by2 e = record { sum = omega (arith, e.sum) }

-- a use that isn't shown yet, and that is shown late
pub owed1 : {k a d : ℕ} → Short k a d → Short (suc k) a (suc d)
owed1 e = record { sum = omega (arith, e.sum) }

pub late1 : {k a d : ℕ} → Short (suc k) a d → Short k (a + 1) d
late1 e = record { sum = omega (arith, e.sum) }

pub late2 : {k a d : ℕ} → Short (suc k) a d → Short k (a + 2) (suc d)
late2 e = record { sum = omega (arith, e.sum) }

-- a use that is shown late

grown : {k : ℕ} {os new : List Seen} → Owes k os new → length os ≤ length new
grown nothing = search arith
grown (owing e g) = let h = grown g in omega (arith, h)

pub repaid : {k : ℕ} {os new : List Seen} → Owes (suc k) os new → Owes k os (deepen (length new - length os) new)
repaid {k} {os} nothing = let z : length os - length os ≡ 0 = omega arith in subst (λ n. Owes k os (deepen n os)) (sym z) nothing
repaid {k} {os} (owing {a} {b} {new} e g) =
    let h = grown g in
    let z : length (seen a b ∷ new) - length os ≡ suc (length new - length os) = omega (arith, h) in
    subst (λ n. Owes k os (deepen n (seen a b ∷ new))) (sym z) (owing (record { sum = omega (arith, e.sum) }) (repaid g))

-- A walk over pieces that shows of each token, at the end, in how many uses it lies.

abbrev pub reading_at : Stage → List Level → List Seen → Piece → Read
reading_at s ls os p = read (names_type s.types (name_bytes p.word p.bytes)) (length os) p.word s.pending ls

abbrev pub seen_by : Reading → ℕ → List Seen → List Seen
seen_by r n os = seen r.uses n ∷ deepen r.back os

abbrev pub right_from : Option Stage → (Stage → Type 0) → Type 0
right_from None go = ⊥
right_from (Some s) go = go s

abbrev pub IsRight : Stage → List Level → List Seen → List Piece → Type 0
IsRight s ls os [] = Owes 0 [] os
IsRight s ls os (p ∷ ps) =
    right_from (step s p.word p.bytes)
    (λ next. IsRight next (reading_at s ls os p).levels (seen_by (reading_at s ls os p).reading p.uses os) ps)

-- a token that two stages take in the same way
pub taken_as : (s r : Stage) (ls ms : List Level) (os : List Seen) (p : Piece) (ps : List Piece) → step s p.word p.bytes ≡ step r p.word p.bytes
    → reading_at s ls os p ≡ reading_at r ms os p → IsRight r ms os (p ∷ ps) → IsRight s ls os (p ∷ ps)
taken_as s r ls ms os p ps e g h =
    subst (λ o. right_from o (λ next. IsRight next (reading_at s ls os p).levels (seen_by (reading_at s ls os p).reading p.uses os) ps)) (sym e)
    (subst (λ (v : Read). right_from (step r p.word p.bytes) (λ next. IsRight next v.levels (seen_by v.reading p.uses os) ps)) (sym g) h)

-- and one that differ in what was read
pub taken_like : (s r : Stage) (ls ms : List Level) (os ns : List Seen) (p : Piece) (ps : List Piece) → step s p.word p.bytes ≡ step r p.word p.bytes
    → (reading_at s ls os p).levels ≡ (reading_at r ms ns p).levels → seen_by (reading_at s ls os p).reading p.uses os ≡ seen_by (reading_at r ms ns p).reading p.uses ns
    → IsRight r ms ns (p ∷ ps) → IsRight s ls os (p ∷ ps)
taken_like s r ls ms os ns p ps e g k h =
    subst (λ o. right_from o (λ next. IsRight next (reading_at s ls os p).levels (seen_by (reading_at s ls os p).reading p.uses os) ps)) (sym e)
    (subst (λ qs. right_from (step r p.word p.bytes) (λ next. IsRight next qs (seen_by (reading_at s ls os p).reading p.uses os) ps)) (sym g)
    (subst (λ qs. right_from (step r p.word p.bytes) (λ next. IsRight next (reading_at r ms ns p).levels qs ps)) (sym k) h))

module _ (types : List (List ℕ)) (i : Bool) where
  abbrev pub Rt : List ℕ → List Symbol → List Level → List Seen → List Piece → Type 0
  Rt f ss ls os ps = IsRight (at types i f ss) ls os ps

  abbrev pub knows_piece : Piece → Bool
  knows_piece p = names_type types (name_bytes p.word p.bytes)

  -- a part that is left out
  pub left_out : (f : List ℕ) (s : Symbol) (ss : List Symbol) (l : Level) (ls : List Level) (os : List Seen) (p : Piece) (ps : List Piece)
      → behind types f i (s ∷ ss) (heard p.word p.bytes) ≡ behind types f i ss (heard p.word p.bytes) → plan p.word (knows_piece p) s ≡ None
      → Rt f ss ls os (p ∷ ps) → Rt f (s ∷ ss) (l ∷ ls) os (p ∷ ps)
  left_out f s ss l ls os p ps e g h =
      taken_as (at types i f (s ∷ ss)) (at types i f ss) (l ∷ ls) ls os p ps e
      (ap (λ o. read_or l (length os) o ls (read (knows_piece p) (length os) p.word ss ls)) g) h
