-- The place that the walk names is the first.
use Rattle.std.proofs.Common.{◌≡◌, ℕ, zero, suc, ◌+◌, ◌<◌, ◌≤◌, ◌⊎◌, inl, inr, Bool, false, List, [], ◌∷◌, ◌++◌, map, length, take, drop, slice_get, Option, Some, None, refl, sym, ap, subst, ◌∙◌, arith}
use Rattle.std.proofs.Math.Seq.{take-length}
use Rattle.std.proofs.lemmas.List.{take-append-drop}
use Rattle.porch_tree.specs.Pieces.{Spelled, Piece, unit_pieces}
use Rattle.porch_tree.specs.Grammar.{AreMatched, is_outside, IsDeepUnit, Stops, at_token, at_end, inside_at, IsOutside, Fault, Halts, at_outside, at_stop, at_unit, IsReach}
use Rattle.porch_walk.specs.Walk.{Stage, step, start, run_from, run, is_over, Wrong, wrong, ToldOf, Told}
use Rattle.porch_walk.specs.Reach.{IsReachOf}
use Rattle.porch_walk.proofs.Expressions.{never}
use Rattle.porch_walk.proofs.Flags.{Agree, agree_on, units_agree}
use Rattle.porch_walk.proofs.First.{no_stage, same_stage, step_same, append_none, over_outside, clean_on, Clean, PreClean, beginning, unit_accepted, Halted, halted, Right, right, from_zero, told}

no_room : (k : ℕ) → suc k ≤ 0 → ⊥
no_room k h = omega (arith, h)

less_one : (k n : ℕ) → suc k ≤ suc n → k ≤ n
less_one k n h = search arith

-- where a unit that begins with the tokens up to a place goes on, its piece lies in the walk's block

flag_next : (o : Option Stage) (ts : List Spelled) (n : Stage) (ps : List Piece) (P : Type 0) → run_from o (λ m. run m ts) ≡ Some n → agree_on o (λ m. Agree m ps) → ((m : Stage) → run m ts ≡ Some n → Agree m ps → P) → P
flag_next None ts n ps P e a f = absurd (no_stage n e)
flag_next (Some m) ts n ps P e a f = f m e a

flag_start : (us : List Spelled) (s : Stage) (ps : List Piece) → (us ≡ [] → s.inside ≡ false) → AreMatched us ps → Agree s ps → inside_at (slice_get ps 0) ≡ s.inside
flag_start [] s [] f h a = sym (f refl)
flag_start [] s (p ∷ ps) f h a = absurd h
flag_start (x ∷ us) s [] f h a = absurd h
flag_start (x ∷ us) s (p ∷ ps) f h a = sym a.0

pub flag_of : (k : ℕ) (ts us : List Spelled) (s n : Stage) (ps : List Piece) → k ≤ length ts → run s (take k ts) ≡ Some n → (us ≡ [] → n.inside ≡ false) → AreMatched (take k ts ++ us) ps → Agree s ps → inside_at (slice_get ps k) ≡ n.inside
flag_of zero ts us s n ps l e f h a = subst (λ m. inside_at (slice_get ps 0) ≡ m.inside) (same_stage s n e) (flag_start us s ps (λ q. ap (λ m. m.inside) (same_stage s n e) ∙ f q) h a)
flag_of (suc k) [] us s n ps l e f h a = absurd (no_room k l)
flag_of (suc k) (t ∷ ts) us s n [] l e f h a = absurd h
flag_of (suc k) (t ∷ ts) us s n (p ∷ ps) l e f h a =
    flag_next (step s p.word p.bytes) (take k ts) n ps (inside_at (slice_get ps k) ≡ n.inside)
    (ap (λ o. run_from o (λ m. run m (take k ts))) (sym (step_same s t.word p.word t.bytes p.bytes h.0.word h.0.bytes)) ∙ e) a.1
    (λ m d b. flag_of k ts us m n ps (less_one k (length ts) l) d f h.1 b)

pub ended_outside : (ts us : List Spelled) (n : Stage) (u : List _) → run start ts ≡ Some n → IsDeepUnit (ts ++ us) u → us ≡ [] → n.inside ≡ false
ended_outside ts us n u e d q =
    let a = unit_accepted (ts ++ us) u d in
    let l : a.last ≡ n = same_stage (a.last) n (sym (a.run) ∙ ap (λ vs. run start (ts ++ vs)) q ∙ ap (run start) (append_none ts) ∙ e) in
    over_outside n.pending n.inside (ap is_over (sym l) ∙ a.ended)

pub not_outside : (ts : List Spelled) (k : ℕ) (n : Stage) → k ≤ length ts → run start (take k ts) ≡ Some n → is_outside n.inside (map (λ q. q.word) (drop k ts)) ≡ false → IsOutside ts k → ⊥
not_outside ts k n l e c o =
    let d = o.begins.unit in
    let q : inside_at (slice_get (unit_pieces (o.unit)) k) ≡ n.inside =
    flag_of k ts (o.begins.rest) start n (unit_pieces (o.unit)) l e (ended_outside (take k ts) (o.begins.rest) n (o.unit) e d) d.spelled (units_agree (o.unit) [] [] d.formed d.names) in
    never (sym (o.outside) ∙ ap (λ b. is_outside b (map (λ t. t.word) (drop k ts))) q ∙ c)

-- the walk up to a place before

record Until (s : Stage) (ts : List Spelled) (j : ℕ) : Type 0 where
  stage : Stage
  run : run s (take j ts) ≡ Some stage
  clean : PreClean s (take j ts) (drop j ts)

all_words : (b : Bool) (t : Spelled) (ts : List Spelled) (k : ℕ) → is_outside b (t.word ∷ map (λ q. q.word) (take k ts ++ drop k ts)) ≡ is_outside b (t.word ∷ map (λ q. q.word) ts)
all_words b t ts k = ap (λ qs. is_outside b (t.word ∷ map (λ q. q.word) qs)) (take-append-drop k ts)

until_on : (o : Option Stage) (s : Stage) (t : Spelled) (ts : List Spelled) (j k : ℕ) (n : Stage) → step s t.word t.bytes ≡ o → is_outside s.inside (t.word ∷ map (λ q. q.word) ts) ≡ false
    → run_from o (λ m. run m (take k ts)) ≡ Some n → clean_on o (λ m. PreClean m (take k ts) (drop k ts)) → ((m : Stage) → run m (take k ts) ≡ Some n → PreClean m (take k ts) (drop k ts) → Until m ts j) → Until s (t ∷ ts) (suc j)
until_on None s t ts j k n h c e p f = absurd (no_stage n e)
until_on (Some m) s t ts j k n h c e p f =
    let u = f m e p in
    record {
      stage = u.stage;
      run = ap (λ q. run_from q (λ v. run v (take j ts))) h ∙ u.run;
      clean = (all_words s.inside t ts j ∙ c, subst (λ q. clean_on q (λ v. PreClean v (take j ts) (drop j ts))) (sym h) (u.clean));
    }

until : (j k : ℕ) (ts : List Spelled) (s n : Stage) → j ≤ k → run s (take k ts) ≡ Some n → PreClean s (take k ts) (drop k ts) → Until s ts j
until zero k ts s n l e p = record { stage = s; run = refl; clean = tt }
until (suc j) zero ts s n l e p = absurd (no_room j l)
until (suc j) (suc k) [] s n l e p = record { stage = s; run = refl; clean = tt }
until (suc j) (suc k) (t ∷ ts) s n l e p =
    until_on (step s t.word t.bytes) s t ts j k n refl (sym (all_words s.inside t ts k) ∙ p.0) e p.1 (λ m d q. until j k ts m n (less_one j k l) d q)

no_less : (k : ℕ) → k < 0 → ⊥
no_less k h = omega (arith, h)

clean_next : (o : Option Stage) (ts vs : List Spelled) (rs : List Spelled) (n : Stage) (P : Type 0) → run_from o (λ m. run m ts) ≡ Some n → clean_on o (λ m. PreClean m vs rs) → ((m : Stage) → run m ts ≡ Some n → PreClean m vs rs → P) → P
clean_next None ts vs rs n P e p f = absurd (no_stage n e)
clean_next (Some m) ts vs rs n P e p f = f m e p

one_under : (j k : ℕ) → suc j < suc k → j < k
one_under j k h = search arith

clean_at : (j k : ℕ) (ts : List Spelled) (s n : Stage) → j < k → PreClean s (take k ts) (drop k ts) → run s (take j ts) ≡ Some n → is_outside n.inside (map (λ q. q.word) (drop j ts)) ≡ false
clean_at j zero ts s n l p e = absurd (no_less j l)
clean_at zero (suc k) [] s n l p e = refl
clean_at zero (suc k) (t ∷ ts) s n l p e = ap (λ m. is_outside m.inside (t.word ∷ map (λ q. q.word) ts)) (sym (same_stage s n e)) ∙ sym (all_words s.inside t ts k) ∙ p.0
clean_at (suc j) (suc k) [] s n l p e = refl
clean_at (suc j) (suc k) (t ∷ ts) s n l p e =
    clean_next (step s t.word t.bytes) (take j ts) (take k ts) (drop k ts) n (is_outside n.inside (map (λ q. q.word) (drop j ts)) ≡ false) e p.1
    (λ m d q. clean_at j k ts m n (one_under j k l) q d)

-- nothing is wrong before the place

at_most : (j k : ℕ) → j < k → j ≤ k
at_most j k h = search arith

reaches_on : (j k : ℕ) → j < k → j + 1 ≤ k
reaches_on j k h = omega (arith, h)

under_all : (j k n : ℕ) → j < k → k ≤ n → j ≤ n
under_all j k n h l = omega (arith, h, l)

not_all : (j k n : ℕ) → j < k → k ≤ n → j ≡ n → ⊥
not_all j k n h l e = omega (arith, h, l, e)

not_stopped : (ts : List Spelled) (k : ℕ) (n : Stage) → k ≤ length ts → run start (take k ts) ≡ Some n → PreClean start (take k ts) (drop k ts) → (j : ℕ) → j < k → Stops ts j → ⊥
not_stopped ts k n l e p j h (at_token g b f) =
    let u = until (j + 1) k ts start n (reaches_on j k h) e p in
    f (beginning (take (j + 1) ts) (drop (j + 1) ts) (u.stage) (u.run) (u.clean))
not_stopped ts k n l e p j h (at_end g b f) = not_all j k (length ts) h l g

not_before : (ts : List Spelled) (k : ℕ) (n : Stage) → k ≤ length ts → run start (take k ts) ≡ Some n → PreClean start (take k ts) (drop k ts) → (j : ℕ) → j < k → IsOutside ts j ⊎ Stops ts j → ⊥
not_before ts k n l e p j h (inl o) =
    let u = until j k ts start n (at_most j k h) e p in
    not_outside ts j (u.stage) (under_all j k (length ts) h l) (u.run) (clean_at j k ts start (u.stage) h p (u.run)) o
not_before ts k n l e p j h (inr o) = not_stopped ts k n l e p j h o

-- what is found there

no_more : (k n : ℕ) → k ≡ n → k ≤ n
no_more k n h = omega (arith, h)

outside_none : (b : Bool) (ts : List Spelled) → is_outside b (map (λ q. q.word) (drop (length ts) ts)) ≡ false
outside_none b [] = refl
outside_none b (t ∷ ts) = outside_none b ts

halts_at : (ts : List Spelled) (k : ℕ) (f : Fault) → ToldOf ts k f → Halted start ts k f → Halts ts k (Some f)
halts_at ts k f d h = elim (h.how) [
  | inl a ↦ subst (λ g. Halts ts k (Some g)) (sym a.0) (at_outside (subst (ToldOf ts k) a.0 d))
  | inr (inl a) ↦ subst (λ g. Halts ts k (Some g)) (sym a.0)
      (at_stop (subst (ToldOf ts k) a.0 d) (not_outside ts k (h.stage) (at_most k (length ts) a.1) (h.before) a.3))
  | inr (inr a) ↦ subst (λ g. Halts ts k (Some g)) (sym a.0)
      (at_stop (subst (ToldOf ts k) a.0 d)
      (not_outside ts k (h.stage) (no_more k (length ts) a.1) (h.before)
      (ap (λ j. is_outside h.stage.inside (map (λ q. q.word) (drop j ts))) a.1 ∙ outside_none h.stage.inside ts)))
]

within_all : (ts : List Spelled) (k : ℕ) (f : Fault) → Halted start ts k f → k ≤ length ts
within_all ts k f h = elim (h.how) [
  | inl a ↦ at_most k (length ts) a.1
  | inr (inl a) ↦ at_most k (length ts) a.1
  | inr (inr a) ↦ no_more k (length ts) a.1
]

reach_at : (ts : List Spelled) (k : ℕ) (f : Fault) → ToldOf ts k f → Halted start ts k f → IsReach ts k (Some f)
reach_at ts k f d h = record {
  halts = halts_at ts k f d h;
  first = not_before ts k (h.stage) (within_all ts k f h) (h.before) (h.clean);
}

clean_all_on : (o : Option Stage) (ts : List Spelled) → ((m : Stage) → Clean m ts → PreClean m (take (length ts) ts) (drop (length ts) ts)) → clean_on o (λ m. Clean m ts) → clean_on o (λ m. PreClean m (take (length ts) ts) (drop (length ts) ts))
clean_all_on None ts f c = tt
clean_all_on (Some m) ts f c = f m c

pub clean_all : (ts : List Spelled) (s : Stage) → Clean s ts → PreClean s (take (length ts) ts) (drop (length ts) ts)
clean_all [] s c = tt
clean_all (t ∷ ts) s c = (all_words s.inside t ts (length ts) ∙ c.0, clean_all_on (step s t.word t.bytes) ts (λ m. clean_all ts m) c.1)

itself_most : (n : ℕ) → n ≤ n
itself_most n = search arith

reach_end : (ts : List Spelled) → Told ts None → Right start ts → IsReach ts (length ts) None
reach_end ts d r = record {
  halts = at_unit refl d.0 d.1;
  first = not_before ts (length ts) (r.last) (itself_most (length ts)) (ap (run start) (take-length ts) ∙ r.run) (clean_all ts start (r.clean));
}

reach_of : (ts : List Spelled) (o : Option Wrong) → wrong 0 start ts ≡ o → Told ts o → IsReachOf ts o
reach_of ts None e d = reach_end ts d (right ts 0 start e)
reach_of ts (Some w) e d =
    let r = halted ts 0 w start e in
    let p : w.token ≡ r.passed = r.place ∙ from_zero (r.passed) in
    subst (λ k. IsReach ts k (Some w.fault)) (sym p) (reach_at ts (r.passed) w.fault (subst (λ k. ToldOf ts k w.fault) p d) (r.halted))

pub reach : (ts : List Spelled) → IsReachOf ts (wrong 0 start ts)
reach ts = reach_of ts (wrong 0 start ts) refl (told ts)
