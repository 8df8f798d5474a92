-- Two evaluations that begin alike: what follows of both is the same, or the first one is stopped and the second goes on.
use Rattle.std.proofs.Common.{ℕ, ℤ, Bool, true, false, List, [], ◌∷◌, ◌++◌, refl, sym, ap, ◌∙◌, arith, le_refl}
use Rattle.std.proofs.lemmas.List.{append_assoc, append-nil}
use Rattle.std.specs.Prelude.{pos, not, Result, Ok, Err}
use Rattle.std.specs.Ordering.{int_eq}
use Rattle.porch_values.specs.declared.acts.Act.{Act}
use Rattle.porch_values.specs.declared.acts.Act.TheVariants.{Indeterminate}
use Rattle.porch_objects.specs.Store.{Value, number, null, pointer, past, indeterminate, Store, seen}
use Rattle.porch_objects.specs.Meaning.{Mark, Progress, with_store, with_shown, with_turn}
use Rattle.porch_mean.specs.Outcome.{Outcome, Went, Left, Undefined, Stopped, and_then, with_result, either, use_value, use_number, use_truth, use_all, with_determinate, with_number, with_truth}
use Rattle.porch_mean.specs.Expression.{with_mark}
use Rattle.porch_mean.specs.Laws.{IsLater, progress_of}

pub now : (s : Progress) → IsLater s s
now s = record { output = ([], sym (append-nil s.output)); marks = ([], sym (append-nil s.marks)); turns = le_refl s.turns }

pub later : (s t u : Progress) → IsLater s t → IsLater t u → IsLater s u
later s t u a b =
    record {
      output = (a.output.0 ++ b.output.0, b.output.1 ∙ ap (λ (l : List ℕ). l ++ b.output.0) a.output.1 ∙ append_assoc s.output a.output.0 b.output.0);
      marks = (a.marks.0 ++ b.marks.0, b.marks.1 ∙ ap (λ (l : List Mark). l ++ b.marks.0) a.marks.1 ∙ append_assoc s.marks a.marks.0 b.marks.0);
      turns = omega (arith, a.turns, b.turns);
    }

pub stored : (s : Progress) (store : Store) → IsLater s (with_store s store)
stored s store = record { output = ([], sym (append-nil s.output)); marks = ([], sym (append-nil s.marks)); turns = le_refl s.turns }

pub shown : (s : Progress) (bytes : List ℕ) → IsLater s (with_shown s bytes)
shown s bytes = record { output = (bytes, refl); marks = ([], sym (append-nil s.marks)); turns = le_refl s.turns }

pub marked : (s : Progress) (mark : Mark) → IsLater s (with_mark s mark)
marked s mark = record { output = ([], sym (append-nil s.output)); marks = (mark ∷ [], refl); turns = le_refl s.turns }

pub turned : (s : Progress) → IsLater s (with_turn s)
turned s = record { output = ([], sym (append-nil s.output)); marks = ([], sym (append-nil s.marks)); turns = omega arith }

-- What two evaluations have in common: the numbers of turns from which they go on, those at which one may be stopped, and
-- whether the first may be stopped, or meet an act, before the second.
pub record Law : Type 1 where
  pub good : ℕ → Type 0
  pub over : ℕ → Type 0
  pub may_stop : Type 0
  pub may_act : Type 0

abbrev pub Fine : Law → Outcome → Type 0
Fine law (Went v s) = law.good s.turns
Fine law (Left how s) = law.good s.turns
Fine law (Undefined a s) = law.good s.turns
Fine law (Stopped s) = law.over s.turns

pub data Follows (law : Law) (s : Progress) : Outcome → Outcome → Type 0 where
  same : (o : Outcome) → IsLater s (progress_of o) → Fine law o → Follows law s o o
  cut : (t : Progress) (o : Outcome) → law.may_stop → IsLater s t → law.over t.turns → IsLater t (progress_of o) → Fine law o
      → Follows law s (Stopped t) o
  met : (a : Act) (t : Progress) (o : Outcome) → law.may_act → IsLater s t → law.good t.turns → IsLater t (progress_of o) → Fine law o
      → Follows law s (Undefined a t) o

-- two results: the same, or the first is an act
pub data Agrees (law : Law) {A : Type 0} : Result A Act → Result A Act → Type 0 where
  same_result : (r : Result A Act) → Agrees law r r
  first_acts : (a : Act) (r : Result A Act) → law.may_act → Agrees law (Err a) r

module _ (law : Law) where
  pub from : (s t : Progress) (o o' : Outcome) → IsLater s t → Follows law t o o' → Follows law s o o'
  from s t _ _ l (same o m f) = same o (later s t (progress_of o) l m) f
  from s t _ _ l (cut u o c m e k f) = cut u o c (later s t u l m) e k f
  from s t _ _ l (met a u o c m e k f) = met a u o c (later s t u l m) e k f

  pub second_is_later : (s : Progress) (o o' : Outcome) → Follows law s o o' → IsLater s (progress_of o')
  second_is_later s _ _ (same o l f) = l
  second_is_later s _ _ (cut t o c l e m f) = later s t (progress_of o) l m
  second_is_later s _ _ (met a t o c l e m f) = later s t (progress_of o) l m

  pub second_is_fine : (s : Progress) (o o' : Outcome) → Follows law s o o' → Fine law o'
  second_is_fine s _ _ (same o l f) = f
  second_is_fine s _ _ (cut t o c l e m f) = f
  second_is_fine s _ _ (met a t o c l e m f) = f

  -- what the second comes to, where the first has ended at t
  abbrev pub Onward : Progress → Outcome → Type 0
  Onward t o = IsLater t (progress_of o) × Fine law o

  pub second_onward : (s t : Progress) (o o' : Outcome) → IsLater t s → Follows law s o o' → Onward t o'
  second_onward s t o o' l f = (later t s (progress_of o') l (second_is_later s o o' f), second_is_fine s o o' f)

  bind_onward : (go go' : Value → Progress → Outcome) (s t : Progress) (o : Outcome) → IsLater s t → IsLater t (progress_of o) → Fine law o
      → ((v : Value) (u : Progress) → IsLater s u → law.good u.turns → Follows law u (go v u) (go' v u)) → Onward t (and_then o go')
  bind_onward go go' s t (Went v u) l m f k = second_onward u t (go v u) (go' v u) m (k v u (later s t u l m) f)
  bind_onward go go' s t (Left how u) l m f k = (m, f)
  bind_onward go go' s t (Undefined a u) l m f k = (m, f)
  bind_onward go go' s t (Stopped u) l m f k = (m, f)

  pub bind : (go go' : Value → Progress → Outcome) (s : Progress) (o o' : Outcome) → Follows law s o o'
      → ((v : Value) (u : Progress) → IsLater s u → law.good u.turns → Follows law u (go v u) (go' v u))
      → Follows law s (and_then o go) (and_then o' go')
  bind go go' s _ _ (same (Went v t) l f) k = from s t (go v t) (go' v t) l (k v t l f)
  bind go go' s _ _ (same (Left how t) l f) k = same (Left how t) l f
  bind go go' s _ _ (same (Undefined a t) l f) k = same (Undefined a t) l f
  bind go go' s _ _ (same (Stopped t) l f) k = same (Stopped t) l f
  bind go go' s _ _ (cut t o c l e m f) k =
      let on : Onward t (and_then o go') = bind_onward go go' s t o l m f k in cut t (and_then o go') c l e on.0 on.1
  bind go go' s _ _ (met a t o c l e m f) k =
      let on : Onward t (and_then o go') = bind_onward go go' s t o l m f k in met a t (and_then o go') c l e on.0 on.1

  -- each way to go on

  pub through_result : {A : Type 0} (r : Result A Act) (s : Progress) (go go' : A → Progress → Outcome) → law.good s.turns
      → ((x : A) → Follows law s (go x s) (go' x s)) → Follows law s (with_result r s go) (with_result r s go')
  through_result (Ok x) s go go' h k = k x
  through_result (Err a) s go go' h k = same (Undefined a s) (now s) h

  pub through_results : {A : Type 0} (r r' : Result A Act) (s : Progress) (go go' : A → Progress → Outcome) → Agrees law r r'
      → law.good s.turns → ((x : A) → Follows law s (go x s) (go' x s)) → Follows law s (with_result r s go) (with_result r' s go')
  through_results _ _ s go go' (same_result r) h k = through_result r s go go' h k
  through_results _ _ s go go' (first_acts a (Ok x) c) h k =
      met a s (go' x s) c (now s) h (second_is_later s (go x s) (go' x s) (k x)) (second_is_fine s (go x s) (go' x s) (k x))
  through_results _ _ s go go' (first_acts a (Err b) c) h k = met a s (Undefined b s) c (now s) h (now s) h

  pub through_either : (b : Bool) (s : Progress) (a a' c c' : Progress → Outcome)
      → Follows law s (a s) (a' s) → Follows law s (c s) (c' s) → Follows law s (either b a c s) (either b a' c' s)
  through_either true s a a' c c' f g = f
  through_either false s a a' c c' f g = g

  determinate : (v : Value) (s : Progress) (go go' : Value → Progress → Outcome) → law.good s.turns
      → ((x : Value) → Follows law s (go x s) (go' x s)) → Follows law s (with_determinate v s go) (with_determinate v s go')
  determinate (number z) s go go' h k = k (number z)
  determinate null s go go' h k = k null
  determinate (pointer home leaf) s go go' h k = k (pointer home leaf)
  determinate (past home leaf until) s go go' h k = k (past home leaf until)
  determinate indeterminate s go go' h k = same (Undefined Indeterminate s) (now s) h

  pub through_value : (v : Value) (s : Progress) (go go' : Value → Progress → Outcome) → law.good s.turns
      → ((x : Value) → Follows law s (go x s) (go' x s)) → Follows law s (use_value v s go) (use_value v s go')
  through_value v s go go' h k = determinate (seen s.store v) s go go' h k

  numbered : (v : Value) (s : Progress) (go go' : ℤ → Progress → Outcome) → law.good s.turns
      → ((z : ℤ) → Follows law s (go z s) (go' z s)) → Follows law s (with_number v s go) (with_number v s go')
  numbered (number z) s go go' h k = k z
  numbered null s go go' h k = same (Undefined Indeterminate s) (now s) h
  numbered (pointer home leaf) s go go' h k = same (Undefined Indeterminate s) (now s) h
  numbered (past home leaf until) s go go' h k = same (Undefined Indeterminate s) (now s) h
  numbered indeterminate s go go' h k = same (Undefined Indeterminate s) (now s) h

  pub through_number : (v : Value) (s : Progress) (go go' : ℤ → Progress → Outcome) → law.good s.turns
      → ((z : ℤ) → Follows law s (go z s) (go' z s)) → Follows law s (use_number v s go) (use_number v s go')
  through_number v s go go' h k = numbered (seen s.store v) s go go' h k

  tested : (v : Value) (s : Progress) (go go' : Bool → Progress → Outcome) → law.good s.turns
      → ((b : Bool) → Follows law s (go b s) (go' b s)) → Follows law s (with_truth v s go) (with_truth v s go')
  tested (number z) s go go' h k = k (not (int_eq z (pos 0)))
  tested null s go go' h k = k false
  tested (pointer home leaf) s go go' h k = k true
  tested (past home leaf until) s go go' h k = k true
  tested indeterminate s go go' h k = same (Undefined Indeterminate s) (now s) h

  pub through_truth : (v : Value) (s : Progress) (go go' : Bool → Progress → Outcome) → law.good s.turns
      → ((b : Bool) → Follows law s (go b s) (go' b s)) → Follows law s (use_truth v s go) (use_truth v s go')
  through_truth v s go go' h k = tested (seen s.store v) s go go' h k

  pub through_all : (vs : List Value) (s : Progress) (go go' : List Value → Progress → Outcome) → law.good s.turns
      → ((xs : List Value) → Follows law s (go xs s) (go' xs s)) → Follows law s (use_all vs s go) (use_all vs s go')
  through_all [] s go go' h k = k []
  through_all (v ∷ vs) s go go' h k = through_value v s _ _ h (λ x. through_all vs s _ _ h (λ xs. k (x ∷ xs)))

-- the same by a law that asks less
module _ (strong law : Law) (good : (t : ℕ) → strong.good t → law.good t) (over : (t : ℕ) → strong.over t → law.over t)
    (may : strong.may_stop → law.may_stop) (may_act : strong.may_act → law.may_act) where
  weaken_fine : (o : Outcome) → Fine strong o → Fine law o
  weaken_fine (Went v t) f = good t.turns f
  weaken_fine (Left how t) f = good t.turns f
  weaken_fine (Undefined a t) f = good t.turns f
  weaken_fine (Stopped t) f = over t.turns f

  pub weaken : (s : Progress) (o o' : Outcome) → Follows strong s o o' → Follows law s o o'
  weaken s _ _ (same o l f) = same o l (weaken_fine o f)
  weaken s _ _ (cut t o c l e m f) = cut t o (may c) l (over t.turns e) m (weaken_fine o f)
  weaken s _ _ (met a t o c l e m f) = met a t o (may_act c) l (good t.turns e) m (weaken_fine o f)
