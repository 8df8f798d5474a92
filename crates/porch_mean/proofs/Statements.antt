-- Statements run alike, where calls in them do, in n turns and in as many or more.
use Rattle.std.proofs.Common.{◌+◌, ◌≤◌, ◌<◌, ℕ, zero, suc, ℤ, Bool, true, false, List, ◌≡◌, refl, arith, le_refl}
use Rattle.std.proofs.lemmas.Bool.{leb-true, leb-false}
use Rattle.std.specs.Prelude.{nat_le, slice_index, Option, Some, None}
use Rattle.porch_objects.specs.Store.{Value, pointer, indeterminate, of_call, forgotten}
use Rattle.porch_objects.specs.Meaning.{Environment, Progress, with_store, with_turn}
use Rattle.porch_typed.specs.Mirror.{Expression, Initial, Statement, Statements, SwitchEntry, SwitchEntries, Program}
use Rattle.porch_typed.specs.Mirror as tree
use Rattle.porch_mean.specs.Outcome.{broke, went_round, gave, Outcome, Went, Left, Undefined, Stopped, Calls, done, either, unless_paused, count_turn}
use Rattle.porch_mean.specs.Expression.{value}
use Rattle.porch_mean.specs.Statement.{behind_body, behind_switch, is_case, is_default, with_test, evaluate, rounds, initialise, give, act, acts, entry, entries_on, from_case, from_default}
use Rattle.porch_mean.specs.Laws.{IsLater, progress_of}
use Rattle.porch_mean.proofs.Follows.{Law, Fine, Follows, same, cut, met, now, later, stored, turned, from, second_is_later, second_is_fine, Onward, second_onward, bind, through_either, through_value, through_number, through_truth}
use Rattle.porch_mean.proofs.Parts.{assigns}
use Rattle.porch_mean.proofs.Expressions.{Agreement, itself, value_alike}

-- Two numbers of turns that are allowed, and what a law says of turns that are counted up to them.
pub record Counts (law : Law) (n n' : ℕ) : Type 0 where
  pub few : n ≤ n'
  pub longer : n < n' → law.may_stop
  pub ends : (t : ℕ) → law.good t → n ≤ t → law.over t
  pub turn : (t : ℕ) → law.good t → t < n' → law.good (t + 1)

-- the second number beside itself
second_counts : (law : Law) (n n' : ℕ) → Counts law n n' → Counts law n' n'
second_counts law n n' c =
    record {
      few = le_refl n';
      longer = λ l. absurd (omega (arith, l));
      ends = λ t g l. c.ends t g (omega (arith, c.few, l));
      turn = c.turn;
    }

module _ (law : Law) where
  body_onward : (again again' : Progress → Outcome) (s t : Progress) (o : Outcome) → IsLater s t → IsLater t (progress_of o) → Fine law o
      → ((u : Progress) → IsLater s u → law.good u.turns → Follows law u (again u) (again' u)) → Onward law t (behind_body o again')
  body_onward again again' s t (Went v u) l m f k = second_onward law u t (again u) (again' u) m (k u (later s t u l m) f)
  body_onward again again' s t (Left broke u) l m f k = (m, f)
  body_onward again again' s t (Left went_round u) l m f k = second_onward law u t (again u) (again' u) m (k u (later s t u l m) f)
  body_onward again again' s t (Left (gave v) u) l m f k = (m, f)
  body_onward again again' s t (Undefined a u) l m f k = (m, f)
  body_onward again again' s t (Stopped u) l m f k = (m, f)

  behind_bodies : (again again' : Progress → Outcome) (s : Progress) (o o' : Outcome) → Follows law s o o'
      → ((u : Progress) → IsLater s u → law.good u.turns → Follows law u (again u) (again' u))
      → Follows law s (behind_body o again) (behind_body o' again')
  behind_bodies again again' s _ _ (same (Went v t) l f) k = from law s t _ _ l (k t l f)
  behind_bodies again again' s _ _ (same (Left broke t) l f) k = same (done t) l f
  behind_bodies again again' s _ _ (same (Left went_round t) l f) k = from law s t _ _ l (k t l f)
  behind_bodies again again' s _ _ (same (Left (gave v) t) l f) k = same (Left (gave v) t) l f
  behind_bodies again again' s _ _ (same (Undefined a t) l f) k = same (Undefined a t) l f
  behind_bodies again again' s _ _ (same (Stopped t) l f) k = same (Stopped t) l f
  behind_bodies again again' s _ _ (cut t o c l e m f) k =
      let on : Onward law t (behind_body o again') = body_onward again again' s t o l m f k in cut t (behind_body o again') c l e on.0 on.1
  behind_bodies again again' s _ _ (met a t o c l e m f) k =
      let on : Onward law t (behind_body o again') = body_onward again again' s t o l m f k in met a t (behind_body o again') c l e on.0 on.1

  switch_onward : (t : Progress) (o : Outcome) → IsLater t (progress_of o) → Fine law o → Onward law t (behind_switch o)
  switch_onward t (Went v u) m f = (m, f)
  switch_onward t (Left broke u) m f = (m, f)
  switch_onward t (Left went_round u) m f = (m, f)
  switch_onward t (Left (gave v) u) m f = (m, f)
  switch_onward t (Undefined a u) m f = (m, f)
  switch_onward t (Stopped u) m f = (m, f)

  behind_switches : (s : Progress) (o o' : Outcome) → Follows law s o o' → Follows law s (behind_switch o) (behind_switch o')
  behind_switches s _ _ (same o l f) =
      let on : Onward law s (behind_switch o) = switch_onward s o l f in same (behind_switch o) on.0 on.1
  behind_switches s _ _ (cut t o c l e m f) =
      let on : Onward law t (behind_switch o) = switch_onward t o m f in cut t (behind_switch o) c l e on.0 on.1
  behind_switches s _ _ (met a t o c l e m f) =
      let on : Onward law t (behind_switch o) = switch_onward t o m f in met a t (behind_switch o) c l e on.0 on.1

  -- a turn is tested against two numbers
  stops : (b b' : Bool) (s : Progress) (go go' : Progress → Outcome) → (b ≡ false → b' ≡ true → ⊥) → (b ≡ true → b' ≡ false → law.may_stop)
      → (b ≡ true → law.over s.turns) → (b' ≡ false → Follows law s (go s) (go' s))
      → Follows law s (either b (λ s. Stopped s) go s) (either b' (λ s. Stopped s) go' s)
  stops true true s go go' less longer ends k = same (Stopped s) (now s) (ends refl)
  stops true false s go go' less longer ends k =
      cut s (go' s) (longer refl refl) (now s) (ends refl) (second_is_later law s (go s) (go' s) (k refl)) (second_is_fine law s (go s) (go' s) (k refl))
  stops false true s go go' less longer ends k = absurd (less refl refl)
  stops false false s go go' less longer ends k = k refl

  pub pauses_alike : (n n' : ℕ) → Counts law n n' → (s : Progress) (go go' : Progress → Outcome) → law.good s.turns
      → (s.turns < n' → Follows law s (go s) (go' s)) → Follows law s (unless_paused n s go) (unless_paused n' s go')
  pauses_alike n n' c s go go' h k =
      stops (nat_le n s.turns) (nat_le n' s.turns) s go go'
      (λ a b. absurd (omega (arith, c.few, leb-false n s.turns a, leb-true n' s.turns b)))
      (λ a b. c.longer (omega (arith, leb-true n s.turns a, leb-false n' s.turns b)))
      (λ a. c.ends s.turns h (leb-true n s.turns a)) (λ b. k (leb-false n' s.turns b))

  module _ (p : Program) (under under' : Environment) (agree : Agreement law p under under') (n n' : ℕ) (count : Counts law n n') (enter enter' : Calls) (call : ℕ) (variables : List ℕ)
      (calls : (function : ℕ) (vs : List Value) (s : Progress) → law.good s.turns → Follows law s (enter function vs s) (enter' function vs s)) where
    values : (e : Expression) (s : Progress) → law.good s.turns
        → Follows law s (value p under enter call e s) (value p under' enter' call e s)
    values e s h = value_alike law p under under' agree enter enter' call calls e s h

    turns_alike : (s : Progress) (go go' : Progress → Outcome) → law.good s.turns
        → ((u : Progress) → IsLater s u → law.good u.turns → s.turns + 1 ≡ u.turns → Follows law u (go u) (go' u))
        → Follows law s (count_turn n s go) (count_turn n' s go')
    turns_alike s go go' h k =
        pauses_alike n n' count s (λ s. go (with_turn s)) (λ s. go' (with_turn s)) h (λ l.
        from law s (with_turn s) _ _ (turned s) (k (with_turn s) (turned s) (count.turn s.turns h l) refl))

    tests_alike : (c : Option Expression) (s : Progress) (go go' : Bool → Progress → Outcome) → law.good s.turns
        → ((b : Bool) (u : Progress) → IsLater s u → law.good u.turns → Follows law u (go b u) (go' b u))
        → Follows law s (with_test p under n enter call variables c s go) (with_test p under' n' enter' call variables c s go')
    tests_alike None s go go' h k = k true s (now s) h
    tests_alike (Some e) s go go' h k = bind law _ _ s _ _ (values e s h) (λ v u l g. through_truth law v u _ _ g (λ b. k b u l g))

    evaluates : (e : Option Expression) (s : Progress) → law.good s.turns
        → Follows law s (evaluate p under n enter call variables e s) (evaluate p under' n' enter' call variables e s)
    evaluates None s h = same (done s) (now s) h
    evaluates (Some e) s h = bind law _ _ s _ _ (values e s h) (λ v u l g. same (done u) (now u) g)

    initialises : (v : ℕ) (i : Initial) (s : Progress) → law.good s.turns
        → Follows law s (initialise p under n enter call variables v i s) (initialise p under' n' enter' call variables v i s)
    initialises v tree.nothing s h = same (done s) (now s) h
    initialises v (tree.value e) s h =
        bind law _ _ s _ _ (values e s h) (λ x t l g.
        bind law _ _ t _ _ (assigns law p.types (slice_index variables v) (pointer (of_call call v) 0) x t g) (λ y u m g. same (done u) (now u) g))
    initialises v (tree.filled fills) s h = same (initialise p under n enter call variables v (tree.filled fills) s) (stored s _) h

    gives_back : (e : Option Expression) (s : Progress) → law.good s.turns
        → Follows law s (give p under n enter call variables e s) (give p under' n' enter' call variables e s)
    gives_back None s h = same (Left (gave indeterminate) s) (now s) h
    gives_back (Some e) s h =
        bind law _ _ s _ _ (values e s h) (λ v u l g. through_value law v u _ _ g (λ v. same (Left (gave v) u) (now u) g))

    -- as many starts of a body, and at least as many as there are turns left
    rounds_alike : (k : ℕ) (c next : Option Expression) (body body' : Progress → Outcome)
        → ((u : Progress) → law.good u.turns → Follows law u (body u) (body' u)) → (s : Progress) → law.good s.turns → n + 1 ≤ k + s.turns
        → Follows law s (rounds p under n enter call variables k c next body s) (rounds p under' n' enter' call variables k c next body' s)
    rounds_alike zero c next body body' f s h m = same (Stopped s) (now s) (count.ends s.turns h (omega (arith, m)))
    rounds_alike (suc k) c next body body' f s h m =
        tests_alike c s _ _ h (λ holds t l g.
        through_either law holds t _ _ _ _
        (turns_alike t _ _ g (λ x r g e.
        behind_bodies _ _ x _ _ (f x g) (λ u q g.
        bind law _ _ u _ _ (evaluates next u g) (λ v w z g.
        rounds_alike k c next body body' f w g (omega (arith, m, l.turns, e, q.turns, z.turns))))))
        (same (done t) (now t) g))

  module _ (p : Program) (under under' : Environment) (agree : Agreement law p under under') (n n' : ℕ) (count : Counts law n n') (enter enter' : Calls) (call : ℕ) (variables : List ℕ)
      (calls : (function : ℕ) (vs : List Value) (s : Progress) → law.good s.turns → Follows law s (enter function vs s) (enter' function vs s)) where
    -- the second of two loops, beside itself
    second_rounds : (k : ℕ) (c next : Option Expression) (body body' : Progress → Outcome)
        → ((u : Progress) → law.good u.turns → Follows law u (body u) (body' u)) → (s : Progress) → law.good s.turns → n' + 1 ≤ k + s.turns
        → Follows law s (rounds p under' n' enter' call variables k c next body' s) (rounds p under' n' enter' call variables k c next body' s)
    second_rounds k c next body body' f s h m =
        rounds_alike p under' under' (itself law p under') n' n' (second_counts law n n' count) enter' enter' call variables
        (λ g vs u q. same (enter' g vs u) (second_is_later law u _ _ (calls g vs u q)) (second_is_fine law u _ _ (calls g vs u q)))
        k c next body' body' (λ u q. same (body' u) (second_is_later law u _ _ (f u q)) (second_is_fine law u _ _ (f u q))) s h m

    -- as many starts or more
    rounds_longer : (k k' : ℕ) → k ≤ k' → (k < k' → law.may_stop) → (c next : Option Expression) (body body' : Progress → Outcome)
        → ((u : Progress) → law.good u.turns → Follows law u (body u) (body' u)) → (s : Progress) → law.good s.turns
        → n + 1 ≤ k + s.turns → n' + 1 ≤ k' + s.turns
        → Follows law s (rounds p under n enter call variables k c next body s) (rounds p under' n' enter' call variables k' c next body' s)
    rounds_longer zero zero less more c next body body' f s h m m' = same (Stopped s) (now s) (count.ends s.turns h (omega (arith, m)))
    rounds_longer zero (suc k') less more c next body body' f s h m m' =
        let second : Follows law s (rounds p under' n' enter' call variables (suc k') c next body' s) (rounds p under' n' enter' call variables (suc k') c next body' s) =
        second_rounds (suc k') c next body body' f s h m' in
        cut s (rounds p under' n' enter' call variables (suc k') c next body' s) (more (omega arith)) (now s) (count.ends s.turns h (omega (arith, m)))
        (second_is_later law s _ _ second) (second_is_fine law s _ _ second)
    rounds_longer (suc k) zero less more c next body body' f s h m m' = absurd (omega (arith, less))
    rounds_longer (suc k) (suc k') less more c next body body' f s h m m' =
        tests_alike p under under' agree n n' count enter enter' call variables calls c s _ _ h (λ holds t l g.
        through_either law holds t _ _ _ _
        (turns_alike p under under' agree n n' count enter enter' call variables calls t _ _ g (λ x r g e.
        behind_bodies _ _ x _ _ (f x g) (λ u q g.
        bind law _ _ u _ _ (evaluates p under under' agree n n' count enter enter' call variables calls next u g) (λ v w z g.
        rounds_longer k k' (omega (arith, less)) (λ y. more (omega (arith, y))) c next body body' f w g
        (omega (arith, m, l.turns, e, q.turns, z.turns)) (omega (arith, m', l.turns, e, q.turns, z.turns))))))
        (same (done t) (now t) g))

    loops_alike : (c next : Option Expression) (body body' : Progress → Outcome)
        → ((u : Progress) → law.good u.turns → Follows law u (body u) (body' u)) → (s : Progress) → law.good s.turns
        → Follows law s (rounds p under n enter call variables (suc n) c next body s) (rounds p under' n' enter' call variables (suc n') c next body' s)
    loops_alike c next body body' f s h =
        rounds_longer (suc n) (suc n') (omega (arith, count.few)) (λ y. count.longer (omega (arith, y))) c next body body' f s h
        (omega arith) (omega arith)

    mutual
      pub act_alike : (a : Statement) (s : Progress) → law.good s.turns
          → Follows law s (act p under n enter call variables a s) (act p under' n' enter' call variables a s)
      act_alike (tree.block ss) s h = acts_alike ss s h
      act_alike (tree.declare v i) s h =
          from law s (with_store s (forgotten s.store (of_call call v))) _ _ (stored s (forgotten s.store (of_call call v)))
          (initialises p under under' agree n n' count enter enter' call variables calls v i (with_store s (forgotten s.store (of_call call v))) h)
      act_alike (tree.evaluate e) s h = evaluates p under under' agree n n' count enter enter' call variables calls (Some e) s h
      act_alike (tree.choose e a b) s h =
          tests_alike p under under' agree n n' count enter enter' call variables calls (Some e) s _ _ h (λ holds u l g.
          through_either law holds u _ _ _ _ (act_alike a u g) (act_alike b u g))
      act_alike (tree.repeat_while e body) s h = loops_alike (Some e) None _ _ (λ u q. act_alike body u q) s h
      act_alike (tree.repeat_until body e) s h =
          turns_alike p under under' agree n n' count enter enter' call variables calls s _ _ h (λ x r g z.
          behind_bodies _ _ x _ _ (act_alike body x g) (λ u l g.
          loops_alike (Some e) None _ _ (λ u q. act_alike body u q) u g))
      act_alike (tree.repeat_for start c next body) s h =
          bind law _ _ s _ _ (evaluates p under under' agree n n' count enter enter' call variables calls start s h) (λ v u l g.
          loops_alike c next _ _ (λ u q. act_alike body u q) u g)
      act_alike (tree.switch kind e entries) s h =
          bind law _ _ s _ _ (value_alike law p under under' agree enter enter' call calls e s h) (λ v u l g.
          through_number law v u _ _ g (λ z.
          behind_switches u _ _
          (case_alike entries z u _ _ g (default_alike entries u g))))
      act_alike tree.leave_loop s h = same (Left broke s) (now s) h
      act_alike tree.go_round s h = same (Left went_round s) (now s) h
      act_alike (tree.give e) s h = gives_back p under under' agree n n' count enter enter' call variables calls e s h

      pub acts_alike : (ss : Statements) (s : Progress) → law.good s.turns
          → Follows law s (acts p under n enter call variables ss s) (acts p under' n' enter' call variables ss s)
      acts_alike tree.no_statements s h = same (done s) (now s) h
      acts_alike (tree.with_statement a ss) s h =
          bind law _ _ s _ _ (act_alike a s h) (λ v u l g.
          acts_alike ss u g)

      entry_alike : (x : SwitchEntry) (s : Progress) → law.good s.turns
          → Follows law s (entry p under n enter call variables x s) (entry p under' n' enter' call variables x s)
      entry_alike (tree.case z) s h = same (done s) (now s) h
      entry_alike tree.default s h = same (done s) (now s) h
      entry_alike (tree.statement a) s h = act_alike a s h

      entries_alike : (xs : SwitchEntries) (s : Progress) → law.good s.turns
          → Follows law s (entries_on p under n enter call variables xs s) (entries_on p under' n' enter' call variables xs s)
      entries_alike tree.no_entries s h = same (done s) (now s) h
      entries_alike (tree.with_entry x xs) s h =
          bind law _ _ s _ _ (entry_alike x s h) (λ v u l g.
          entries_alike xs u g)

      case_alike : (xs : SwitchEntries) (z : ℤ) (s : Progress) (go go' : Progress → Outcome) → law.good s.turns
          → Follows law s (go s) (go' s)
          → Follows law s (from_case p under n enter call variables xs z s go) (from_case p under' n' enter' call variables xs z s go')
      case_alike tree.no_entries z s go go' h k = k
      case_alike (tree.with_entry x xs) z s go go' h k =
          through_either law (is_case x z) s _ _ _ _ (entries_alike xs s h) (case_alike xs z s go go' h k)

      default_alike : (xs : SwitchEntries) (s : Progress) → law.good s.turns
          → Follows law s (from_default p under n enter call variables xs s) (from_default p under' n' enter' call variables xs s)
      default_alike tree.no_entries s h = same (done s) (now s) h
      default_alike (tree.with_entry x xs) s h =
          through_either law (is_default x) s _ _ _ _ (entries_alike xs s h) (default_alike xs s h)
