-- A token lies too deep by the grammar just where it is shown to, and so the first fault is the grammar's.
use Rattle.std.proofs.Common.{◌≡◌, ◌<◌, ◌≤◌, ℕ, zero, suc, ◌+◌, Bool, true, false, nat_lt, if◌then◌else◌, IsTrue, List, [], ◌∷◌, ◌++◌, map, length, take, drop, get_or, slice_get, All, Option, Some, None, refl, sym, subst, ap, ◌∙◌, arith}
use Rattle.std.proofs.Math.Seq.{take-length}
use Rattle.std.proofs.lemmas.Bool.{ltb-false}
use Rattle.porch_tree.specs.Mirror.{TranslationUnit}
use Rattle.porch_tree.specs.Pieces.{Spelled, Piece, unit_pieces}
use Rattle.porch_tree.specs.Grammar.{MOST_USES, Fault, nesting, is_outside, IsDeepUnit, Begins, Stops, at_token, at_end, inside_at, uses_at, IsTooDeep, Halts, at_outside, at_stop, at_unit, IsReach, too_deep, wrong}
use Rattle.porch_walk.specs.Walk.{start, Wrong}
use Rattle.porch_walk.specs.Walk as walk
use Rattle.porch_walk.specs.Levels.{uses_shown}
use Rattle.porch_walk.specs.Reach.{IsReachOf, reach_of}
use Rattle.porch_walk.specs.Had.{IsHad}
use Rattle.porch_depth.specs.Levels.{deep_from, first_deep, nesting_or, first_fault, AreAtLeast}
use Rattle.porch_depth.specs.Told.{IsFound}
use Rattle.porch_depth.proofs.Rising.{rises}
use Rattle.porch_depth.proofs.Before.{deep_before, deep_at, not_before, nowhere}

-- what the walk's laws say of the uses that are shown
pub record Laws : Type 0 where
  pub units : (ts : List Spelled) (u : TranslationUnit) → IsDeepUnit ts u → uses_shown ts ≡ map (λ (p : Piece). p.uses) (unit_pieces u)
  pub had : (ts : List Spelled) → IsHad (take (reach_of ts (walk.wrong 0 start ts)) ts)

at_least : (ms ns : List ℕ) (i : ℕ) → AreAtLeast ms ns → get_or ns i 0 ≤ get_or ms i 0
at_least ms [] i h = search arith
at_least [] (n ∷ ns) i h = absurd h
at_least (m ∷ ms) (n ∷ ns) zero h = h.0
at_least (m ∷ ms) (n ∷ ns) (suc i) h = at_least ms ns i h.1

uses_are : (ps : List Piece) (i : ℕ) → uses_at (slice_get ps i) ≡ get_or (map (λ (p : Piece). p.uses) ps) i 0
uses_are [] i = refl
uses_are (p ∷ ps) zero = refl
uses_are (p ∷ ps) (suc i) = uses_are ps i

-- a text is read no further than to its end

never : (b : Bool) → b ≡ false → IsTrue b → ⊥
never b e h = cc

outside_within : (b : Bool) (ts : List Spelled) (k : ℕ) → IsTrue (is_outside b (map (λ t. t.word) (drop k ts))) → k ≤ length ts
outside_within b ts zero h = search arith
outside_within b [] (suc k) h = absurd (never false refl h)
outside_within b (t ∷ ts) (suc k) h = let l = outside_within b ts k h in omega (arith, l)

stops_within : (ts : List Spelled) (k : ℕ) → Stops ts k → k ≤ length ts
stops_within ts k (at_token l b f) = omega (arith, l)
stops_within ts k (at_end e b f) = omega (arith, e)

halts_within : (ts : List Spelled) (k : ℕ) (f : Option Fault) → Halts ts k f → k ≤ length ts
halts_within ts k f (at_outside o) = outside_within (inside_at (slice_get (unit_pieces o.unit) k)) ts k o.outside
halts_within ts k f (at_stop s n) = stops_within ts k s
halts_within ts k f (at_unit e u d) = omega (arith, e)

taken_length : (k : ℕ) (ts : List Spelled) → k ≤ length ts → length (take k ts) ≡ k
taken_length zero ts l = refl
taken_length (suc k) [] l = absurd (omega (arith, l))
taken_length (suc k) (t ∷ ts) l = ap suc (taken_length k ts (omega (arith, l)))

-- The tokens before a place show that the token lies in too many uses.
record IsShown (ts : List Spelled) (place i : ℕ) : Type 0 where
  before : i < place
  deep : MOST_USES < get_or (uses_shown (take place ts)) i 0

module _ (laws : Laws) (ts : List Spelled) where
  too_deep_is : (place i : ℕ) → IsShown ts place i → IsTooDeep ts place i
  too_deep_is place i d = record {
    before = d.before;
    deep = λ u b.
        let a = at_least (uses_shown (take place ts ++ b.rest)) (uses_shown (take place ts)) i (rises (take place ts) b.rest) in
        let e = uses_are (unit_pieces u) i ∙ ap (λ ns. get_or ns i 0) (sym (laws.units (take place ts ++ b.rest) u b.unit)) in
        let m = d.deep in
        more MOST_USES _ _ _ m a e;
  }
    where
      more : (n x y z : ℕ) → n < x → x ≤ y → z ≡ y → n < z
      more n x y z a b c = omega (arith, a, b, c)

  shown_is : (place i : ℕ) → IsHad (take place ts) → place ≤ length ts → IsTooDeep ts place i → IsShown ts place i
  shown_is place i h l d = record {
    before = d.before;
    deep = subst (λ n. MOST_USES < n) (h.uses i (subst (λ k. i < k) (sym (taken_length place ts l)) d.before)) (d.deep h.unit h.begins);
  }

  shallow_with : (p : Piece) (ps : List Piece) → p.uses ≤ MOST_USES → All (λ q. q.uses ≤ MOST_USES) ps → (k : ℕ) (d : Piece) → k < length (p ∷ ps) → (get_or (p ∷ ps) k d).uses ≤ MOST_USES
  shallow_with p ps a h zero d l = a
  shallow_with p ps a h (suc k) d l = h k d (omega (arith, l))

  all_shallow : (ps : List Piece) (i : ℕ) → deep_from i (map (λ (p : Piece). p.uses) ps) ≡ None → All (λ p. p.uses ≤ MOST_USES) ps
  all_shallow [] i e = λ k d l. absurd (omega (arith, l))
  all_shallow (p ∷ ps) i e = by (all_shallow ps (i + 1)) (nat_lt MOST_USES p.uses) refl e
    where
      by : (deep_from (i + 1) (map (λ (q : Piece). q.uses) ps) ≡ None → All (λ q. q.uses ≤ MOST_USES) ps) → (b : Bool) → nat_lt MOST_USES p.uses ≡ b → (if b then Some i else deep_from (i + 1) (map (λ (q : Piece). q.uses) ps)) ≡ None → All (λ q. q.uses ≤ MOST_USES) (p ∷ ps)
      by f true q e = cc
      by f false q e = shallow_with p ps (ltb-false MOST_USES p.uses q) (f e)

  faultless : first_deep (take (length ts) ts) ≡ None → IsReach ts (length ts) None → Halts ts (length ts) None → IsFound ts None
  faultless e h (at_unit q u d) = record {
    unit = u;
    has = record { unit = d; shallow = all_shallow (unit_pieces u) 0 (ap (deep_from 0) (sym (laws.units ts u d)) ∙ ap first_deep (sym (take-length ts)) ∙ e) };
    reach = h;
  }

  deep_named : (place i : ℕ) (found : Option Fault) → IsReach ts place found → IsHad (take place ts) → first_deep (take place ts) ≡ Some i → IsFound ts (walk.wrong_at i nesting)
  deep_named place i found r h e =
      let z : i ≡ 0 + i = omega arith in
      let k : first_deep (take place ts) ≡ Some (0 + i) = e ∙ ap Some z in
      let l = halts_within ts place found r.halts in
      too_deep place i found r (too_deep_is place i (record { before = deep_before place i ts e; deep = deep_at (uses_shown (take place ts)) 0 i k }))
      (λ j m d. not_before (uses_shown (take place ts)) 0 i j k m ((shown_is place j h l d).deep))

  none_deep : (place : ℕ) (found : Option Fault) → IsReach ts place found → IsHad (take place ts) → first_deep (take place ts) ≡ None → (j : ℕ) → IsTooDeep ts place j → ⊥
  none_deep place found r h e j d = nowhere (uses_shown (take place ts)) 0 j e ((shown_is place j h (halts_within ts place found r.halts) d).deep)

  found_by : (w : Option Wrong) (o : Option ℕ) → IsReachOf ts w → IsHad (take (reach_of ts w) ts) → first_deep (take (reach_of ts w) ts) ≡ o → IsFound ts (nesting_or o w)
  found_by None None h a e = faultless e h h.halts
  found_by None (Some i) h a e = deep_named (length ts) i None h a e
  found_by (Some w) None h a e = wrong w.token w.fault h (none_deep w.token (Some w.fault) h a e)
  found_by (Some w) (Some i) h a e = deep_named w.token i (Some w.fault) h a e

  found : IsReachOf ts (walk.wrong 0 start ts) → IsFound ts (first_fault ts)
  found h = found_by (walk.wrong 0 start ts) (first_deep (take (reach_of ts (walk.wrong 0 start ts)) ts)) h (laws.had ts) refl

  -- what an answer says that is the definition's
  pub found_as : (w o : Option Wrong) → w ≡ walk.wrong 0 start ts → IsReachOf ts w → o ≡ first_fault ts → IsFound ts o
  found_as w o e h k = subst (λ q. IsFound ts q) (sym k) (found (subst (λ q. IsReachOf ts q) e h))
