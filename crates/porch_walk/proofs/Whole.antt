-- The tokens of a unit are read to their end.
use Rattle.std.proofs.Common.{◌≡◌, ℕ, zero, suc, ◌+◌, ◌<◌, ◌≤◌, inl, inr, false, List, [], ◌∷◌, ◌++◌, map, length, take, drop, slice_get, Option, Some, None, refl, sym, ap, subst, ◌∙◌, arith}
use Rattle.std.proofs.lemmas.Bool.{cases_order}
use Rattle.std.proofs.lemmas.List.{take-append-drop}
use Rattle.porch_tree.specs.Mirror.{TranslationUnit}
use Rattle.porch_tree.specs.Pieces.{Spelled, Piece, unit_pieces}
use Rattle.porch_tree.specs.Grammar.{AreMatched, AreWithin, is_outside, IsDeepUnit, Stops, at_token, at_end, inside_at, IsOutside, Fault, Halts, at_outside, at_stop, at_unit, IsReach}
use Rattle.porch_walk.specs.Walk.{Stage, step, start, run_from, run, Wrong, wrong}
use Rattle.porch_walk.specs.Reach.{IsReachOf}
use Rattle.porch_walk.proofs.Expressions.{never}
use Rattle.porch_walk.proofs.First.{no_stage, unit_accepted}
use Rattle.porch_walk.proofs.Flags.{units_agree}
use Rattle.porch_walk.proofs.Reach.{flag_of, ended_outside, not_outside, reach}

within_at : (ps : List Piece) (k : ℕ) → AreWithin ps → is_outside (inside_at (slice_get ps k)) (map (λ p. p.word) (drop k ps)) ≡ false
within_at [] zero h = refl
within_at [] (suc k) h = refl
within_at (p ∷ ps) zero h = h.0
within_at (p ∷ ps) (suc k) h = within_at ps k h.1

words_at : (k : ℕ) (ts : List Spelled) (ps : List Piece) → AreMatched ts ps → map (λ t. t.word) (drop k ts) ≡ map (λ p. p.word) (drop k ps)
words_at zero [] [] h = refl
words_at zero [] (p ∷ ps) h = absurd h
words_at zero (t ∷ ts) [] h = absurd h
words_at zero (t ∷ ts) (p ∷ ps) h = ap (λ w. w ∷ map (λ q. q.word) ts) h.0.word ∙ ap (λ ws. p.word ∷ ws) (words_at zero ts ps h.1)
words_at (suc k) [] [] h = refl
words_at (suc k) [] (p ∷ ps) h = absurd h
words_at (suc k) (t ∷ ts) [] h = absurd h
words_at (suc k) (t ∷ ts) (p ∷ ps) h = words_at k ts ps h.1

-- A walk over all tokens goes over the first ones.
front_next : (o : Option Stage) (ts : List Spelled) (k : ℕ) (last : Stage) → run_from o (λ m. run m ts) ≡ Some last
    → ((m : Stage) → run m ts ≡ Some last → (n : Stage) × (run m (take k ts) ≡ Some n)) → (n : Stage) × (run_from o (λ m. run m (take k ts)) ≡ Some n)
front_next None ts k last e f = absurd (no_stage last e)
front_next (Some m) ts k last e f = f m e

front_at : (k : ℕ) (ts : List Spelled) (s last : Stage) → run s ts ≡ Some last → (n : Stage) × (run s (take k ts) ≡ Some n)
front_at zero ts s last e = (s, refl)
front_at (suc k) [] s last e = (s, refl)
front_at (suc k) (t ∷ ts) s last e = front_next (step s t.word t.bytes) ts k last e (λ m d. front_at k ts m last d)

none_left : (ts : List Spelled) (k : ℕ) → length ts < k → drop k ts ≡ []
none_left [] zero h = refl
none_left [] (suc k) h = refl
none_left (t ∷ ts) zero h = absurd (omega (arith, h))
none_left (t ∷ ts) (suc k) h = none_left ts k (omega (arith, h))

outside_nothing : (ts : List Spelled) (k : ℕ) → length ts < k → IsOutside ts k → ⊥
outside_nothing ts k h o =
    never (sym o.outside ∙ ap (λ us. is_outside (inside_at (slice_get (unit_pieces o.unit) k)) (map (λ t. t.word) us)) (none_left ts k h))

-- none of its tokens is outside the language
inside_at_most : (ts : List Spelled) (u : TranslationUnit) (k : ℕ) → IsDeepUnit ts u → k ≤ length ts → IsOutside ts k → ⊥
inside_at_most ts u k h l o =
    let a = unit_accepted ts u h in
    let n = front_at k ts start a.last a.run in
    let d : IsDeepUnit (take k ts ++ drop k ts) u = subst (λ us. IsDeepUnit us u) (sym (take-append-drop k ts)) h in
    let q : inside_at (slice_get (unit_pieces u) k) ≡ n.0.inside =
    flag_of k ts (drop k ts) start n.0 (unit_pieces u) l n.1 (ended_outside (take k ts) (drop k ts) n.0 u n.1 d) d.spelled (units_agree u [] [] h.formed h.names) in
    not_outside ts k n.0 l n.1
    (ap (λ b. is_outside b (map (λ t. t.word) (drop k ts))) (sym q)
    ∙ ap (is_outside (inside_at (slice_get (unit_pieces u) k))) (words_at k ts (unit_pieces u) h.spelled) ∙ within_at (unit_pieces u) k h.within) o

under_it : (k n : ℕ) → k < n → k ≤ n
under_it k n h = omega (arith, h)

same_most : (k n : ℕ) → k ≡ n → k ≤ n
same_most k n h = omega (arith, h)

unit_inside : (ts : List Spelled) (u : TranslationUnit) (k : ℕ) → IsDeepUnit ts u → IsOutside ts k → ⊥
unit_inside ts u k h o =
    elim (cases_order k (length ts)) [
      | inl e ↦ inside_at_most ts u k h (same_most k (length ts) e) o
      | inr (inl e) ↦ inside_at_most ts u k h (under_it k (length ts) e) o
      | inr (inr e) ↦ outside_nothing ts k e o
    ]

-- with each of its tokens it goes on
unit_goes_on : (ts : List Spelled) (u : TranslationUnit) (k : ℕ) → IsDeepUnit ts u → Stops ts k → ⊥
unit_goes_on ts u k h (at_token l b n) =
    n (record { unit = u; begins = record { rest = drop (k + 1) ts; unit = subst (λ us. IsDeepUnit us u) (sym (take-append-drop (k + 1) ts)) h } })
unit_goes_on ts u k h (at_end e b n) = n u h

nothing_halts : (ts : List Spelled) (u : TranslationUnit) (k : ℕ) (f : Option Fault) → IsDeepUnit ts u → Halts ts k f → f ≡ None
nothing_halts ts u k f h (at_outside o) = absurd (unit_inside ts u k h o)
nothing_halts ts u k f h (at_stop s n) = absurd (unit_goes_on ts u k h s)
nothing_halts ts u k f h (at_unit e v d) = refl

no_fault : (f : Fault) → ◌≡◌ {A = Option Fault} (Some f) None → ⊥
no_fault f h = cc

read_whole : (ts : List Spelled) (u : TranslationUnit) (o : Option Wrong) → IsDeepUnit ts u → IsReachOf ts o → IsReach ts (length ts) None
read_whole ts u None h r = r
read_whole ts u (Some w) h r = absurd (no_fault w.fault (nothing_halts ts u w.token (Some w.fault) h r.halts))

pub unit_whole : (ts : List Spelled) (u : TranslationUnit) → IsDeepUnit ts u → IsReach ts (length ts) None
unit_whole ts u h = read_whole ts u (wrong 0 start ts) h (reach ts)
