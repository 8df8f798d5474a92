-- Calls run alike: for each depth that is more than the turns that are left, and for more turns as far as they are paused.
use Rattle.std.proofs.Common.{◌≤◌, ◌<◌, ℕ, zero, suc, ◌+◌, Bool, List, [], ◌≡◌, refl, sym, arith, le_refl}
use Rattle.std.proofs.lemmas.Bool.{le-leb}
use Rattle.std.proofs.lemmas.List.{append-nil}
use Rattle.std.specs.Prelude.{⊤, nat_eq, slice_get, Option, Some, None}
use Rattle.porch_values.specs.declared.acts.Act.TheVariants.{Indeterminate}
use Rattle.porch_objects.specs.Store.{Value, number, null, pointer, past, indeterminate, entered, left}
use Rattle.porch_objects.specs.Meaning.{Environment, Progress, Meaning, Ending, Ended, Met, Paused, with_store, with_turn}
use Rattle.porch_typed.specs.Mirror.{Function, Program}
use Rattle.porch_mean.specs.Outcome.{broke, went_round, gave, Outcome, Went, Left, Undefined, Stopped, Calls, use_all, unless_paused}
use Rattle.porch_mean.specs.Initial.{variables_with}
use Rattle.porch_mean.specs.Mean.{behind_call, run_body, enter_to, begin, meaning_at, meaning_of}
use Rattle.porch_mean.specs.Laws.{IsLater, progress_of, CallsOnlyAdd, CountsUpTo, TurnsAreCounted, DepthDoesNotMatter, GoesOn, MoreTurnsGoOn}
use Rattle.porch_mean.proofs.Follows.{Law, Fine, Follows, same, cut, met, now, later, stored, turned, from, second_is_later, second_is_fine, Onward, weaken, through_all}
use Rattle.porch_mean.proofs.Expressions.{Agreement, itself}
use Rattle.porch_mean.proofs.Statements.{Counts, pauses_alike, acts_alike}

module _ (law : Law) where
  call_onward : (m : Bool) (t : Progress) (o : Outcome) → IsLater t (progress_of o) → Fine law o → Onward law t (behind_call m o)
  call_onward m t (Went v u) l f = (later t u _ l (stored u (left u.store)), f)
  call_onward m t (Left broke u) l f = (later t u _ l (stored u (left u.store)), f)
  call_onward m t (Left went_round u) l f = (later t u _ l (stored u (left u.store)), f)
  call_onward m t (Left (gave v) u) l f = (later t u _ l (stored u (left u.store)), f)
  call_onward m t (Undefined a u) l f = (l, f)
  call_onward m t (Stopped u) l f = (l, f)

  calls_end : (m : Bool) (s : Progress) (o o' : Outcome) → Follows law s o o' → Follows law s (behind_call m o) (behind_call m o')
  calls_end m s _ _ (same o l f) = let on : Onward law s (behind_call m o) = call_onward m s o l f in same (behind_call m o) on.0 on.1
  calls_end m s _ _ (cut t o c l e k f) = let on : Onward law t (behind_call m o) = call_onward m t o k f in cut t (behind_call m o) c l e on.0 on.1
  calls_end m s _ _ (met a t o c l e k f) =
      let on : Onward law t (behind_call m o) = call_onward m t o k f in met a t (behind_call m o) c l e on.0 on.1

  module _ (p : Program) (under under' : Environment) (agree : Agreement law p under under') (n n' : ℕ) (count : Counts law n n') (enter enter' : Calls)
      (calls : (function : ℕ) (vs : List Value) (s : Progress) → law.good s.turns → Follows law s (enter function vs s) (enter' function vs s)) where
    pub bodies : (f : Option Function) (function : ℕ) (vs : List Value) (s : Progress) → law.good s.turns
        → Follows law s (run_body p under n enter f function vs s) (run_body p under' n' enter' f function vs s)
    bodies None function vs s h = same (Undefined Indeterminate s) (now s) h
    bodies (Some f) function vs s h =
        let t : Progress = with_store s (entered s.store (variables_with p.types f.variables vs)) in
        from law s t _ _ (stored s (entered s.store (variables_with p.types f.variables vs)))
        (calls_end (nat_eq function p.main) t _ _
        (acts_alike law p under under' agree n n' count enter enter' s.store.called f.variables calls f.body t h))

-- A call, where those in it run alike by another law, from which this one follows.
module _ (law inner : Law) (p : Program) (under under' : Environment) (agree : Agreement inner p under under') (n n' : ℕ) (count : Counts law n n') (inside : Counts inner n n')
    (into : (t : ℕ) → law.good t → t < n' → inner.good (t + 1)) (good : (t : ℕ) → inner.good t → law.good t)
    (over : (t : ℕ) → inner.over t → law.over t) (may : inner.may_stop → law.may_stop) (may_act : inner.may_act → law.may_act) (enter enter' : Calls)
    (calls : (function : ℕ) (vs : List Value) (s : Progress) → inner.good s.turns → Follows inner s (enter function vs s) (enter' function vs s)) where
  enters : (function : ℕ) (vs : List Value) (s : Progress) → law.good s.turns
      → Follows law s
      (unless_paused n s (λ s. use_all vs s (λ vs s. run_body p under n enter (slice_get p.functions function) function vs (with_turn s))))
      (unless_paused n' s (λ s. use_all vs s (λ vs s. run_body p under' n' enter' (slice_get p.functions function) function vs (with_turn s))))
  enters function vs s h =
      pauses_alike law n n' count s _ _ h (λ l. through_all law vs s _ _ h (λ xs.
      from law s (with_turn s) _ _ (turned s)
      (weaken inner law good over may may_act (with_turn s) _ _
      (bodies inner p under under' agree n n' inside enter enter' calls (slice_get p.functions function) function xs (with_turn s) (into s.turns h l)))))

-- the same law inside
module _ (law : Law) (p : Program) (under under' : Environment) (agree : Agreement law p under under') (n n' : ℕ) (count : Counts law n n') where
  pub further : (depth depth' : ℕ)
      → ((function : ℕ) (vs : List Value) (s : Progress) → law.good s.turns
      → Follows law s (enter_to depth p under n function vs s) (enter_to depth' p under' n' function vs s))
      → (function : ℕ) (vs : List Value) (s : Progress) → law.good s.turns
      → Follows law s (enter_to (suc depth) p under n function vs s) (enter_to (suc depth') p under' n' function vs s)
  unfolding enter_to
  further depth depth' calls function vs s h =
      enters law law p under under' agree n n' count count count.turn (λ t g. g) (λ t g. g) (λ c. c) (λ c. c) (enter_to depth p under n) (enter_to depth' p under' n')
      calls function vs s h

-- a run beside itself, of which nothing else is said
abbrev free : Law
free = record { good = λ _. ⊤; over = λ _. ⊤; may_stop = ⊥; may_act = ⊥ }

free_counts : (n : ℕ) → Counts free n n
free_counts n = record { few = le_refl n; longer = λ l. absurd (omega (arith, l)); ends = λ t g l. tt; turn = λ t g l. tt }

call_with_itself : (p : Program) (under : Environment) (n depth function : ℕ) (vs : List Value) (s : Progress)
    → Follows free s (enter_to depth p under n function vs s) (enter_to depth p under n function vs s)
unfolding enter_to
call_with_itself p under n zero function vs s = same (Stopped s) (now s) tt
call_with_itself p under n (suc depth) function vs s =
    further free p under under (itself free p under) n n (free_counts n) depth depth (λ f xs u h. call_with_itself p under n depth f xs u) function vs s tt

pub calls_add : CallsOnlyAdd
calls_add p under n depth function vs s =
    second_is_later free s (enter_to depth p under n function vs s) (enter_to depth p under n function vs s)
    (call_with_itself p under n depth function vs s)

-- a run beside itself: turns are counted up to n, and calls may be nested deeper than there are turns left
abbrev counted : (n depth : ℕ) → Law
counted n depth = record { good = λ t. (t ≤ n) × (n + 1 ≤ depth + t); over = λ t. t ≡ n; may_stop = ⊥; may_act = ⊥ }

counted_counts : (n depth : ℕ) → Counts (counted n depth) n n
counted_counts n depth =
    record {
      few = le_refl n;
      longer = λ l. absurd (omega (arith, l));
      ends = λ t g l. omega (arith, g.0, l);
      turn = λ t g l. (omega (arith, l), omega (arith, g.1));
    }

call_is_counted : (p : Program) (under : Environment) (n depth function : ℕ) (vs : List Value) (s : Progress)
    → (s.turns ≤ n) × (n + 1 ≤ depth + s.turns)
    → Follows (counted n depth) s (enter_to depth p under n function vs s) (enter_to depth p under n function vs s)
unfolding enter_to
call_is_counted p under n zero function vs s h = same (Stopped s) (now s) (omega (arith, h.0, h.1))
call_is_counted p under n (suc depth) function vs s h =
    enters (counted n (suc depth)) (counted n depth) p under under (itself (counted n depth) p under) n n (counted_counts n (suc depth)) (counted_counts n depth)
    (λ t g l. (omega (arith, l), omega (arith, g.1))) (λ t g. (g.0, omega (arith, g.1))) (λ t e. e) (λ c. c) (λ c. c) (enter_to depth p under n)
    (enter_to depth p under n) (λ f xs u g. call_is_counted p under n depth f xs u g) function vs s h

counted_so : (n : ℕ) (t : Progress) (e : Ending) → t.turns ≤ n → (e ≡ Paused → t.turns ≡ n) → CountsUpTo n (meaning_at t e)
counted_so n t e h k = record { most = h; paused = k }

up_to : (n depth : ℕ) (o : Outcome) → Fine (counted n depth) o → CountsUpTo n (meaning_of o)
up_to n depth (Went (number z) t) f = counted_so n t (Ended z) f.0 (λ e. cc)
up_to n depth (Went null t) f = counted_so n t (Met Indeterminate) f.0 (λ e. cc)
up_to n depth (Went (pointer home leaf) t) f = counted_so n t (Met Indeterminate) f.0 (λ e. cc)
up_to n depth (Went (past home leaf until) t) f = counted_so n t (Met Indeterminate) f.0 (λ e. cc)
up_to n depth (Went indeterminate t) f = counted_so n t (Met Indeterminate) f.0 (λ e. cc)
up_to n depth (Left how t) f = counted_so n t (Met Indeterminate) f.0 (λ e. cc)
up_to n depth (Undefined a t) f = counted_so n t (Met a) f.0 (λ e. cc)
up_to n depth (Stopped t) f = counted_so n t Paused (omega (arith, f)) (λ e. f)

pub turns_are_counted : TurnsAreCounted
turns_are_counted p under n =
    up_to n (suc n) (enter_to (suc n) p under n p.main [] (begin p))
    (second_is_fine (counted n (suc n)) (begin p) (enter_to (suc n) p under n p.main [] (begin p)) _
    (call_is_counted p under n (suc n) p.main [] (begin p) (omega arith, omega arith)))

-- two depths, each more than the turns that are left
abbrev deep : (n depth other : ℕ) → Law
deep n depth other = record { good = λ t. (n + 1 ≤ depth + t) × (n + 1 ≤ other + t); over = λ _. ⊤; may_stop = ⊥; may_act = ⊥ }

deep_counts : (n depth other : ℕ) → Counts (deep n depth other) n n
deep_counts n depth other =
    record {
      few = le_refl n;
      longer = λ l. absurd (omega (arith, l));
      ends = λ t g l. tt;
      turn = λ t g l. (omega (arith, g.0), omega (arith, g.1));
    }

two_depths : (p : Program) (under : Environment) (n depth other function : ℕ) (vs : List Value) (s : Progress)
    → (n + 1 ≤ depth + s.turns) × (n + 1 ≤ other + s.turns)
    → Follows (deep n depth other) s (enter_to depth p under n function vs s) (enter_to other p under n function vs s)
unfolding enter_to
two_depths p under n zero zero function vs s h = same (Stopped s) (now s) tt
two_depths p under n zero (suc other) function vs s h = rw (le-leb n s.turns (omega (arith, h.0))) (same (Stopped s) (now s) tt)
two_depths p under n (suc depth) zero function vs s h = rw (le-leb n s.turns (omega (arith, h.1))) (same (Stopped s) (now s) tt)
two_depths p under n (suc depth) (suc other) function vs s h =
    enters (deep n (suc depth) (suc other)) (deep n depth other) p under under (itself (deep n depth other) p under) n n (deep_counts n (suc depth) (suc other)) (deep_counts n depth other)
    (λ t g l. (omega (arith, g.0), omega (arith, g.1))) (λ t g. (omega (arith, g.0), omega (arith, g.1))) (λ t e. e) (λ c. c) (λ c. c)
    (enter_to depth p under n) (enter_to other p under n) (λ f xs u g. two_depths p under n depth other f xs u g) function vs s h

is_same : (law : Law) (s : Progress) (o o' : Outcome) → (law.may_stop → ⊥) → (law.may_act → ⊥) → Follows law s o o' → o ≡ o'
is_same law s _ _ never nor (same o l f) = refl
is_same law s _ _ never nor (cut t o c l e m f) = absurd (never c)
is_same law s _ _ never nor (met a t o c l e m f) = absurd (nor c)

pub depths_agree : DepthDoesNotMatter
depths_agree p under n depth other function vs s a b =
    is_same (deep n depth other) s _ _ (λ c. c) (λ c. c) (two_depths p under n depth other function vs s (a, b))

-- more turns, and calls nested as deep or deeper
abbrev more_turns : Law
more_turns = record { good = λ _. ⊤; over = λ _. ⊤; may_stop = ⊤; may_act = ⊥ }

more_counts : (n n' : ℕ) → n ≤ n' → Counts more_turns n n'
more_counts n n' few = record { few = few; longer = λ l. tt; ends = λ t g l. tt; turn = λ t g l. tt }

all_fine : (o : Outcome) → Fine more_turns o
all_fine (Went v s) = tt
all_fine (Left how s) = tt
all_fine (Undefined a s) = tt
all_fine (Stopped s) = tt

module _ (p : Program) (under : Environment) (n n' : ℕ) (few : n ≤ n') where
  goes_further : (depth other function : ℕ) (vs : List Value) (s : Progress) → depth ≤ other
      → Follows more_turns s (enter_to depth p under n function vs s) (enter_to other p under n' function vs s)
  unfolding enter_to
  goes_further zero zero function vs s h = same (Stopped s) (now s) tt
  goes_further zero (suc other) function vs s h =
      cut s (enter_to (suc other) p under n' function vs s) tt (now s) tt (calls_add p under n' (suc other) function vs s)
      (all_fine (enter_to (suc other) p under n' function vs s))
  goes_further (suc depth) zero function vs s h = absurd (omega (arith, h))
  goes_further (suc depth) (suc other) function vs s h =
      further more_turns p under under (itself more_turns p under) n n' (more_counts n n' few) depth other (λ f xs u g. goes_further depth other f xs u (omega (arith, h)))
      function vs s tt

goes_on_itself : (m : Meaning) → GoesOn m m
goes_on_itself m =
    record { same = λ _. refl; output = ([], sym (append-nil m.output)); marks = ([], sym (append-nil m.marks)); turns = le_refl m.turns }

paused_before : (t u : Progress) (e : Ending) → IsLater t u → GoesOn (meaning_at t Paused) (meaning_at u e)
paused_before t u e l = record { same = λ ne. absurd (ne refl); output = l.output; marks = l.marks; turns = l.turns }

paused_first : (t : Progress) (o : Outcome) → IsLater t (progress_of o) → GoesOn (meaning_at t Paused) (meaning_of o)
paused_first t (Went (number z) u) l = paused_before t u (Ended z) l
paused_first t (Went null u) l = paused_before t u (Met Indeterminate) l
paused_first t (Went (pointer home leaf) u) l = paused_before t u (Met Indeterminate) l
paused_first t (Went (past home leaf until) u) l = paused_before t u (Met Indeterminate) l
paused_first t (Went indeterminate u) l = paused_before t u (Met Indeterminate) l
paused_first t (Left how u) l = paused_before t u (Met Indeterminate) l
paused_first t (Undefined a u) l = paused_before t u (Met a) l
paused_first t (Stopped u) l = paused_before t u Paused l

goes_on : (s : Progress) (o o' : Outcome) → Follows more_turns s o o' → GoesOn (meaning_of o) (meaning_of o')
goes_on s _ _ (same o l f) = goes_on_itself (meaning_of o)
goes_on s _ _ (cut t o c l e m f) = paused_first t o m
goes_on s _ _ (met a t o c l e m f) = absurd c

pub more_turns_go_on : MoreTurnsGoOn
more_turns_go_on p under n more =
    goes_on (begin p) _ _ (goes_further p under n (n + more) (omega arith) (suc n) (suc (n + more)) p.main [] (begin p) (omega arith))
