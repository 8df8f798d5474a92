-- What is marked going backward from the functions that hold a CHECKPOINT is what reaches one.
use Rattle.std.proofs.Common.{◌≡◌, ◌<◌, ◌≤◌, ◌⊎◌, inl, inr, ℕ, zero, suc, ◌+◌, List, [], ◌∷◌, ◌++◌, length, get_or, set, replicate, refl, sym, ap, ◌∙◌, subst, arith, Option, Some, None, Bool, true, false}
use Rattle.std.specs.Prelude.{slice_get, ◌-◌, if◌then◌else◌}
use Rattle.std.specs.List.{list_any, Contains, All}
use Rattle.std.proofs.lemmas.Grind.{common_steps}
use Rattle.std.proofs.lemmas.List.Elements.{All-contains, All-contains_itself, All-nil, All-cons, All-weaker, All-head, All-tail}
use Rattle.std.proofs.lemmas.Bool.{cases_lt}
use Rattle.std.proofs.lemmas.Option.{slice_get_within, slice_get-get_or}
use Rattle.porch_flat.specs.declared.whole.Function.{Function}
use Rattle.porch_flat.specs.declared.whole.Flat.{Flat}
use Rattle.porch_flat.specs.whole.Form.{form_of}
use Rattle.porch_flat.specs.whole.Places.{commands_of}
use Rattle.porch_flat.specs.whole.Rewritten.{reaches_within, reaches}
use Rattle.porch_flat.specs.whole.Calls.{is_checkpoint, calls, holds_checkpoint, IsClosed, IsLeastClosed}
use Rattle.porch_flat.specs.inside.CallGraph.{Callers, callers_in, Reached, marked, all_marked, holds, begun, started, gone_on, gone_through, reached}
use Rattle.porch_flat.proofs.CallGraph.{callers_are, callers_only}
use Rattle.porch_flat.proofs.Reached.{longer_within, within_by_call, within_by_itself, closed_has}

-- marks and their number

abbrev count : List Bool → ℕ
count [] = 0
count (b ∷ bs) = (if b then 1 else 0) + count bs

count_few : (bs : List Bool) → count bs ≤ length bs
count_few [] = omega arith
count_few (true ∷ bs) = let rest = count_few bs in omega (arith, rest)
count_few (false ∷ bs) = let rest = count_few bs in omega (arith, rest)

count_none : (n : ℕ) → count (replicate n false) ≡ 0
count_none zero = refl
count_none (suc n) = let rest = count_none n in omega (arith, rest)

count_more : (bs : List Bool) (f : ℕ) → f < length bs → get_or bs f true ≡ false → count (set bs f true) ≡ count bs + 1
count_more [] f inside is = absurd (omega (arith, inside))
count_more (b ∷ bs) zero inside is = let off : b ≡ false = is in rw off (omega arith)
count_more (b ∷ bs) (suc f) inside is =
    let rest = count_more bs f (omega (arith, inside)) is in omega (arith, rest)

-- where a list is longer by one

push_old : {X : Type 0} (xs : List X) (x y : X) (i : ℕ) → slice_get xs i ≡ Some y → slice_get (xs ++ x ∷ []) i ≡ Some y
push_old [] x y i h = absurd (cc)
push_old (z ∷ xs) x y zero h = h
push_old (z ∷ xs) x y (suc i) h = push_old xs x y i h

push_new : {X : Type 0} (xs : List X) (x : X) → slice_get (xs ++ x ∷ []) (length xs) ≡ Some x
push_new [] x = refl
push_new (z ∷ xs) x = push_new xs x

push_cases : {X : Type 0} (xs : List X) (x y : X) (i : ℕ) → slice_get (xs ++ x ∷ []) i ≡ Some y → (slice_get xs i ≡ Some y) ⊎ ((i ≡ length xs) × (x ≡ y))
push_cases [] x y zero h = inr (refl, cc)
push_cases [] x y (suc i) h = absurd (cc)
push_cases (z ∷ xs) x y zero h = inl h
push_cases (z ∷ xs) x y (suc i) h = elim (push_cases xs x y i h) [ inl a ↦ inl a | inr b ↦ let same = b.0 in inr (omega (arith, same), b.1) ]

-- a mark, and none where there is no such function
abbrev is_marked : Reached → ℕ → Bool
is_marked r f = get_or r.marks f false

inside_when_marked : (bs : List Bool) (f : ℕ) → get_or bs f false ≡ true → f < length bs
inside_when_marked [] f h = absurd (cc)
inside_when_marked (b ∷ bs) zero h = omega arith
inside_when_marked (b ∷ bs) (suc f) h = let rest = inside_when_marked bs f h in omega (arith, rest)

inside_when_not : (bs : List Bool) (f : ℕ) → get_or bs f true ≡ false → f < length bs
inside_when_not [] f h = absurd (cc)
inside_when_not (b ∷ bs) zero h = omega arith
inside_when_not (b ∷ bs) (suc f) h = let rest = inside_when_not bs f h in omega (arith, rest)

either_default : (bs : List Bool) (f : ℕ) → f < length bs → get_or bs f true ≡ true → get_or bs f false ≡ true
either_default [] f inside h = absurd (omega (arith, inside))
either_default (b ∷ bs) zero inside h = h
either_default (b ∷ bs) (suc f) inside h = either_default bs f (omega (arith, inside)) h

mark_cases : (bs : List Bool) (f g : ℕ) → f < length bs → get_or (set bs f true) g false ≡ true → (g ≡ f) ⊎ (get_or bs g false ≡ true)
mark_cases [] f g inside h = absurd (omega (arith, inside))
mark_cases (b ∷ bs) zero zero inside h = inl refl
mark_cases (b ∷ bs) zero (suc g) inside h = inr h
mark_cases (b ∷ bs) (suc f) zero inside h = inr h
mark_cases (b ∷ bs) (suc f) (suc g) inside h =
    elim (mark_cases bs f g (omega (arith, inside)) h) [ inl a ↦ inl (omega (arith, a)) | inr k ↦ inr k ]

mark_stays : (bs : List Bool) (f g : ℕ) → get_or bs g false ≡ true → get_or (set bs f true) g false ≡ true
mark_stays [] f g h = h
mark_stays (b ∷ bs) zero zero h = refl
mark_stays (b ∷ bs) zero (suc g) h = h
mark_stays (b ∷ bs) (suc f) zero h = h
mark_stays (b ∷ bs) (suc f) (suc g) h = mark_stays bs f g h

mark_there : (bs : List Bool) (f : ℕ) → f < length bs → get_or (set bs f true) f false ≡ true
mark_there [] f inside = absurd (omega (arith, inside))
mark_there (b ∷ bs) zero inside = refl
mark_there (b ∷ bs) (suc f) inside = mark_there bs f (omega (arith, inside))

marks_length : (bs : List Bool) (f : ℕ) → length (set bs f true) ≡ length bs
marks_length bs f = grind (arith, common_steps)

-- nothing that was marked is lost
record Kept (r s : Reached) : Type 0 where
  size : length s.marks ≡ length r.marks
  marks : (f : ℕ) → is_marked r f ≡ true → is_marked s f ≡ true
  order : (i f : ℕ) → slice_get r.order i ≡ Some f → slice_get s.order i ≡ Some f

kept_all : (r : Reached) → Kept r r
kept_all r = record { size = refl; marks = λ f h. h; order = λ i f h. h }

kept_then : (r s t : Reached) → Kept r s → Kept s t → Kept r t
kept_then r s t a b = record {
  size = b.size ∙ a.size;
  marks = λ f h. b.marks f (a.marks f h);
  order = λ i f h. b.order i f (a.order i f h);
}

abbrev with_mark : ℕ → Reached → Reached
with_mark f r = record { marks = set r.marks f true; order = r.order ++ f ∷ [] }

marked_by : (f : ℕ) (r : Reached) (b : Bool) → get_or r.marks f true ≡ b → marked f r ≡ (if b then r else with_mark f r)
marked_by f r true is = rw is refl
marked_by f r false is = rw is refl

kept_with : (f : ℕ) (r : Reached) → Kept r (with_mark f r)
kept_with f r = record {
  size = marks_length r.marks f;
  marks = λ g h. mark_stays r.marks f g h;
  order = λ i g h. push_old r.order f g i h;
}

kept_by : (f : ℕ) (r : Reached) (b : Bool) → Kept r (if b then r else with_mark f r)
kept_by f r true = kept_all r
kept_by f r false = kept_with f r

kept_marked : (f : ℕ) (r : Reached) → Kept r (marked f r)
kept_marked f r = subst (λ s. Kept r s) (sym (marked_by f r (get_or r.marks f true) refl)) (kept_by f r (get_or r.marks f true))

there_by : (f : ℕ) (r : Reached) (b : Bool) → get_or r.marks f true ≡ b → f < length r.marks → is_marked (if b then r else with_mark f r) f ≡ true
there_by f r true is inside = either_default r.marks f inside is
there_by f r false is inside = mark_there r.marks f inside

there_marked : (f : ℕ) (r : Reached) → f < length r.marks → is_marked (marked f r) f ≡ true
there_marked f r inside =
    subst (λ s. is_marked s f ≡ true) (sym (marked_by f r (get_or r.marks f true) refl)) (there_by f r (get_or r.marks f true) refl inside)

kept_each : (gs : List ℕ) (r : Reached) → Kept r (all_marked gs r)
kept_each [] r = kept_all r
kept_each (f ∷ gs) r = kept_then r (marked f r) (all_marked gs (marked f r)) (kept_marked f r) (kept_each gs (marked f r))

abbrev IsThere : Reached → Reached → ℕ → Type 0
IsThere r s f = f < length r.marks → is_marked s f ≡ true

there_each : (gs : List ℕ) (r : Reached) → All (IsThere r (all_marked gs r)) gs
there_each [] r = All-nil (IsThere r r)
there_each (f ∷ gs) r =
    let same = (kept_marked f r).size in
    All-cons (IsThere r (all_marked gs (marked f r))) f gs
    (λ inside. (kept_each gs (marked f r)).marks f (there_marked f r inside))
    (All-weaker (IsThere (marked f r) (all_marked gs (marked f r))) (IsThere r (all_marked gs (marked f r))) (λ g h inside. h (omega (arith, inside, same))) gs
    (there_each gs (marked f r)))

-- each function stands in the order once, and the later it stands, the deeper its calls may be
module _ (flat : Flat) where
  record Good (r : Reached) : Type 0 where
    size : length r.marks ≡ length flat.functions
    few : length r.order ≡ count r.marks
    back : (f : ℕ) → is_marked r f ≡ true → (i : ℕ) × (slice_get r.order i ≡ Some f)
    forth : (i f : ℕ) → slice_get r.order i ≡ Some f → is_marked r f ≡ true
    depth : (i f : ℕ) → slice_get r.order i ≡ Some f → reaches_within (i + 1) flat f ≡ true

  push_length : (xs : List ℕ) (f : ℕ) → length (xs ++ f ∷ []) ≡ length xs + 1
  push_length xs f = grind (arith, common_steps)

  good_with : (f : ℕ) (r : Reached) → Good r → get_or r.marks f true ≡ false → reaches_within (length r.order + 1) flat f ≡ true → Good (with_mark f r)
  good_with f r good off deep =
      let inside : f < length r.marks = inside_when_not r.marks f off in
      record {
        size = marks_length r.marks f ∙ good.size;
        few = let more = count_more r.marks f inside off in let few = good.few in let one = push_length r.order f in omega (arith, more, few, one);
        back = λ g h. elim (mark_cases r.marks f g inside h) [
          | inl a ↦ (length r.order, subst (λ k. slice_get (r.order ++ f ∷ []) (length r.order) ≡ Some k) (sym a) (push_new r.order f))
          | inr k ↦ let old = good.back g k in (old.0, push_old r.order f g old.0 old.1)
        ];
        forth = λ i g h. elim (push_cases r.order f g i h) [
          | inl old ↦ mark_stays r.marks f g (good.forth i g old)
          | inr new ↦ subst (λ k. get_or (set r.marks f true) k false ≡ true) new.1 (mark_there r.marks f inside)
        ];
        depth = λ i g h. elim (push_cases r.order f g i h) [
          | inl old ↦ good.depth i g old
          | inr new ↦ subst (λ k. reaches_within (k + 1) flat g ≡ true) (sym new.0) (subst (λ k. reaches_within (length r.order + 1) flat k ≡ true) new.1 deep)
        ];
      }

  good_by : (f : ℕ) (r : Reached) (b : Bool) → get_or r.marks f true ≡ b → Good r → reaches_within (length r.order + 1) flat f ≡ true → Good (if b then r else with_mark f r)
  good_by f r true is good deep = good
  good_by f r false is good deep = good_with f r good is deep

  good_marked : (f : ℕ) (r : Reached) → Good r → reaches_within (length r.order + 1) flat f ≡ true → Good (marked f r)
  good_marked f r good deep = subst Good (sym (marked_by f r (get_or r.marks f true) refl)) (good_by f r (get_or r.marks f true) refl good deep)

  longer_by : (f : ℕ) (r : Reached) (b : Bool) → length r.order ≤ length (if b then r else with_mark f r).order
  longer_by f r true = omega arith
  longer_by f r false = let one = push_length r.order f in omega (arith, one)

  longer_marked : (f : ℕ) (r : Reached) → length r.order ≤ length (marked f r).order
  longer_marked f r = subst (λ s. length r.order ≤ length s.order) (sym (marked_by f r (get_or r.marks f true) refl)) (longer_by f r (get_or r.marks f true))

  good_each : (m : ℕ) (gs : List ℕ) (r : Reached) → All (λ f. reaches_within m flat f ≡ true) gs → m ≤ length r.order + 1 → Good r → Good (all_marked gs r)
  good_each m [] r deep le good = good
  good_each m (f ∷ gs) r deep le good =
      let longer = longer_marked f r in
      good_each m gs (marked f r) (All-tail (λ f. reaches_within m flat f ≡ true) f gs deep) (omega (arith, le, longer))
      (good_marked f r good (longer_within flat m (length r.order + 1) f le (All-head (λ f. reaches_within m flat f ≡ true) f gs deep)))

  -- the functions that hold a CHECKPOINT

  abbrev begun_one : ℕ → Function → Reached → Reached
  begun_one at f r = if holds f then marked at r else r

  kept_one_by : (at : ℕ) (r : Reached) (b : Bool) → Kept r (if b then marked at r else r)
  kept_one_by at r true = kept_marked at r
  kept_one_by at r false = kept_all r

  kept_begun : (at : ℕ) (fs : List Function) (r : Reached) → Kept r (begun at fs r)
  kept_begun at [] r = kept_all r
  kept_begun at (f ∷ fs) r = kept_then r (begun_one at f r) (begun (at + 1) fs (begun_one at f r)) (kept_one_by at r (holds f)) (kept_begun (at + 1) fs (begun_one at f r))

  good_one_by : (at : ℕ) (r : Reached) (b : Bool) → (b ≡ true → reaches_within 1 flat at ≡ true) → Good r → Good (if b then marked at r else r)
  good_one_by at r true deep good = good_marked at r good (longer_within flat 1 (length r.order + 1) at (omega arith) (deep refl))
  good_one_by at r false deep good = good

  -- these functions stand in the program from a place on
  abbrev Stand : ℕ → List Function → Type 0
  Stand at fs = (i : ℕ) (f : Function) → slice_get fs i ≡ Some f → slice_get flat.functions (at + i) ≡ Some f

  first_stands : (at : ℕ) (f : Function) (fs : List Function) → Stand at (f ∷ fs) → slice_get flat.functions at ≡ Some f
  first_stands at f fs stand = let none : at + 0 ≡ at = omega arith in subst (λ k. slice_get flat.functions k ≡ Some f) none (stand 0 f refl)

  rest_stand : (at : ℕ) (f : Function) (fs : List Function) → Stand at (f ∷ fs) → Stand (at + 1) fs
  rest_stand at f fs stand i g h = let same : at + suc i ≡ at + 1 + i = omega arith in subst (λ k. slice_get flat.functions k ≡ Some g) same (stand (suc i) g h)

  holds_there : (at : ℕ) (f : Function) → slice_get flat.functions at ≡ Some f → holds f ≡ true → holds_checkpoint flat at ≡ true
  holds_there at f there h = rw there h

  good_begun : (at : ℕ) (fs : List Function) (r : Reached) → Stand at fs → Good r → Good (begun at fs r)
  good_begun at [] r stand good = good
  good_begun at (f ∷ fs) r stand good =
      good_begun (at + 1) fs (begun_one at f r) (rest_stand at f fs stand)
      (good_one_by at r (holds f) (λ h. within_by_itself flat at (holds_there at f (first_stands at f fs stand) h)) good)

  there_begun : (at : ℕ) (fs : List Function) (r : Reached) (i : ℕ) (f : Function) → slice_get fs i ≡ Some f → holds f ≡ true → at + i < length r.marks
      → is_marked (begun at fs r) (at + i) ≡ true
  there_begun at [] r i f h is inside = absurd (cc)
  there_begun at (g ∷ fs) r zero f h is inside =
      let same : g ≡ f = cc in
      let none : at + 0 ≡ at = omega arith in
      let here : is_marked (begun_one at g r) at ≡ true = rw (same, is) (there_marked at r (omega (arith, inside))) in
      rw none ((kept_begun (at + 1) fs (begun_one at g r)).marks at here)
  there_begun at (g ∷ fs) r (suc i) f h is inside =
      let same : at + suc i ≡ at + 1 + i = omega arith in
      let size = (kept_one_by at r (holds g)).size in
      rw same (there_begun (at + 1) fs (begun_one at g r) i f h is (omega (arith, inside, size)))

  abbrev nothing : Reached
  nothing = record { marks = replicate (length flat.functions) false; order = [] }

  none_marked : (n f : ℕ) → get_or (replicate n false) f false ≡ false
  none_marked zero f = refl
  none_marked (suc n) zero = refl
  none_marked (suc n) (suc f) = none_marked n f

  good_nothing : Good nothing
  good_nothing = record {
    size = grind (arith, common_steps);
    few = sym (count_none (length flat.functions));
    back = λ f h. absurd (let none = none_marked (length flat.functions) f in cc);
    forth = λ i f h. absurd (cc);
    depth = λ i f h. absurd (cc);
  }

  -- the callers of those that were reached

  abbrev cs : Callers
  cs = callers_in flat.functions

  -- the callers of the first so many of those that were reached are marked
  abbrev Done : ℕ → Reached → Type 0
  Done n r = (j f g : ℕ) → j < n → slice_get r.order j ≡ Some g → calls flat f g ≡ true → is_marked r f ≡ true

  caller_inside : (f g : ℕ) (o : Option Function) → slice_get flat.functions f ≡ o → calls flat f g ≡ true → f < length flat.functions
  caller_inside f g None is h = absurd (let none : commands_of (slice_get flat.functions f) ≡ [] = rw is refl in let no : calls flat f g ≡ false = rw none refl in cc)
  caller_inside f g (Some x) is h = slice_get_within flat.functions f x is

  record GoneOn (i : ℕ) (r s : Reached) : Type 0 where
    good : Good s
    kept : Kept r s
    done : Done i r → Done (i + 1) s

  some_same : (a b : ℕ) → Some a ≡ Some b → a ≡ b
  some_same a b h = cc

  last_or_before : (i j : ℕ) → j < i + 1 → (j < i) ⊎ (j ≡ i)
  last_or_before i j less = elim (cases_lt j i) [ inl a ↦ inl a | inr b ↦ inr (omega (arith, b, less)) ]

  on_none : (i : ℕ) (r : Reached) → slice_get r.order i ≡ None → Good r → GoneOn i r r
  on_none i r is good = record {
    good = good;
    kept = kept_all r;
    done = λ done j f g less h call. elim (last_or_before i j less) [
      | inl before ↦ done j f g before h call
      | inr same ↦ absurd (let gone : slice_get r.order j ≡ None = rw same is in cc)
    ];
  }

  callers_deep : (i g : ℕ) (r : Reached) → reaches_within (i + 1) flat g ≡ true → All (λ f. reaches_within (i + 1 + 1) flat f ≡ true) (get_or cs g [])
  callers_deep i g r deep =
      All-weaker (Contains (get_or cs g [])) (λ f. reaches_within (i + 1 + 1) flat f ≡ true)
      (λ f has. within_by_call flat (i + 1) f g (callers_only flat.functions f g has) deep) (get_or cs g []) (All-contains_itself (get_or cs g []))

  old_place : (r s : Reached) → Kept r s → (j g : ℕ) → j < length r.order → slice_get s.order j ≡ Some g → slice_get r.order j ≡ Some g
  old_place r s kept j g inside h =
      let old = slice_get-get_or r.order j 0 inside in
      let same : get_or r.order j 0 ≡ g = some_same (get_or r.order j 0) g (sym (kept.order j (get_or r.order j 0) old) ∙ h) in
      old ∙ ap (λ k. Some k) same

  on_some : (i g : ℕ) (r : Reached) → slice_get r.order i ≡ Some g → Good r → GoneOn i r (all_marked (get_or cs g []) r)
  on_some i g r is good =
      let inside : i < length r.order = slice_get_within r.order i g is in
      let kept : Kept r (all_marked (get_or cs g []) r) = kept_each (get_or cs g []) r in
      let known : g < length flat.functions = (let size = good.size in let less = inside_when_marked r.marks g (good.forth i g is) in omega (arith, size, less)) in
      record {
        good = good_each (i + 1 + 1) (get_or cs g []) r (callers_deep i g r (good.depth i g is)) (omega (arith, inside)) good;
        kept = kept;
        done = λ done j f h less at call. elim (last_or_before i j less) [
          | inl before ↦ kept.marks f (done j f h before (old_place r (all_marked (get_or cs g []) r) kept j h (omega (arith, before, inside)) at) call)
          | inr same ↦
              let here : slice_get (all_marked (get_or cs g []) r).order i ≡ Some h = subst (λ k. slice_get (all_marked (get_or cs g []) r).order k ≡ Some h) same at in
              let this : g ≡ h = some_same g h (sym (kept.order i g is) ∙ here) in
              let calling : calls flat f g ≡ true = subst (λ k. calls flat f k ≡ true) (sym this) call in
              let size = good.size in
              let caller : f < length flat.functions = caller_inside f g (slice_get flat.functions f) refl calling in
              All-contains (IsThere r (all_marked (get_or cs g []) r)) (get_or cs g []) f (there_each (get_or cs g []) r) (callers_are flat.functions f g calling known)
              (omega (arith, size, caller))
        ];
      }

  on_by : (i : ℕ) (r : Reached) (o : Option ℕ) → slice_get r.order i ≡ o → Good r → GoneOn i r (gone_on cs o r)
  on_by i r None is good = on_none i r is good
  on_by i r (Some g) is good = on_some i g r is good

  record GoneThrough (n : ℕ) (r s : Reached) : Type 0 where
    good : Good s
    kept : Kept r s
    done : Done n s

  through : (k i : ℕ) (r : Reached) → Good r → Done i r → GoneThrough (i + k) r (gone_through cs k i r)
  through zero i r good done = let same : i + 0 ≡ i = omega arith in record { good = good; kept = kept_all r; done = rw same done }
  through (suc k) i r good done =
      let on = on_by i r (slice_get r.order i) refl good in
      let rest = through k (i + 1) (gone_on cs (slice_get r.order i) r) on.good (on.done done) in
      let same : i + suc k ≡ i + 1 + k = omega arith in
      record { good = rest.good; kept = kept_then r (gone_on cs (slice_get r.order i) r) (gone_through cs k (i + 1) (gone_on cs (slice_get r.order i) r)) on.kept rest.kept; done = rw same rest.done }

  abbrev all : Reached
  all = reached flat.functions

  stand_all : Stand 0 flat.functions
  stand_all i f h = let none : 0 + i ≡ i = omega arith in rw none h

  good_started : Good (started flat.functions)
  good_started = good_begun 0 flat.functions nothing stand_all good_nothing

  whole : GoneThrough (0 + length flat.functions) (started flat.functions) all
  whole = through (length flat.functions) 0 (started flat.functions) good_started (λ j f g less at call. absurd (omega (arith, less)))

  holding : (f : ℕ) (o : Option Function) → slice_get flat.functions f ≡ o → holds_checkpoint flat f ≡ true → is_marked (started flat.functions) f ≡ true
  holding f None is h = absurd (let none : commands_of (slice_get flat.functions f) ≡ [] = rw is refl in let no : holds_checkpoint flat f ≡ false = rw none refl in cc)
  holding f (Some x) is h =
      let none : 0 + f ≡ f = omega arith in
      let size : length (replicate (length flat.functions) false) ≡ length flat.functions = grind (arith, common_steps) in
      let inside = slice_get_within flat.functions f x is in
      let own : holds x ≡ true = (let same : commands_of (slice_get flat.functions f) ≡ x.commands = rw is refl in subst (λ commands. list_any (λ c. is_checkpoint (form_of c)) commands ≡ true) same h) in
      subst (λ k. is_marked (started flat.functions) k ≡ true) none (there_begun 0 flat.functions nothing f x is own (omega (arith, size, inside)))

  is_closed : IsClosed flat (λ f. is_marked all f)
  is_closed = record {
    checkpoints = λ f h. whole.kept.marks f (holding f (slice_get flat.functions f) refl h);
    callers = λ f g call there.
        let at = whole.good.back g there in
        let few = whole.good.few in
        let most = count_few all.marks in
        let size = whole.good.size in
        let inside = slice_get_within all.order at.0 g at.1 in
        whole.done at.0 f g (omega (arith, few, most, size, inside)) at.1 call;
  }

  marked_reaches : (f : ℕ) → is_marked all f ≡ true → reaches flat f ≡ true
  marked_reaches f there =
      let at = whole.good.back f there in
      let few = whole.good.few in
      let most = count_few all.marks in
      let size = whole.good.size in
      let inside = slice_get_within all.order at.0 f at.1 in
      longer_within flat (at.0 + 1) (length flat.functions) f (omega (arith, few, most, size, inside)) (whole.good.depth at.0 f at.1)

  same_bools : (a b : Bool) → (a ≡ true → b ≡ true) → (b ≡ true → a ≡ true) → a ≡ b
  same_bools true true f g = refl
  same_bools false false f g = refl
  same_bools true false f g = sym (f refl)
  same_bools false true f g = g refl

  pub marks_are_reaches : (f : ℕ) → is_marked all f ≡ reaches flat f
  marks_are_reaches f = same_bools (is_marked all f) (reaches flat f) (marked_reaches f) (λ h. closed_has flat (λ f. is_marked all f) is_closed (length flat.functions) f h)

  pub marks_are_least : IsLeastClosed flat (λ f. is_marked all f)
  marks_are_least = record {
    closed = is_closed;
    least = λ other closed f h. closed_has flat other closed (length flat.functions) f (marked_reaches f h);
  }

  pub marks_are_all : length all.marks ≡ length flat.functions
  marks_are_all = whole.good.size

pub one_step : (cs : Callers) (n i : ℕ) (r : Reached) → i < n → gone_through cs (n - i) i r ≡ gone_through cs (n - (i + 1)) (i + 1) (gone_on cs (slice_get r.order i) r)
one_step cs n i r less = let same : n - i ≡ suc (n - (i + 1)) = omega (arith, less) in rw same refl

pub no_step : (cs : Callers) (n i : ℕ) (r : Reached) → n ≤ i → gone_through cs (n - i) i r ≡ r
no_step cs n i r le = let same : n - i ≡ 0 = omega (arith, le) in rw same refl

pub reaches_is_least : (flat : Flat) → IsLeastClosed flat (reaches flat)
reaches_is_least flat =
    let by_marks = marks_are_least flat in
    let same = marks_are_reaches flat in
    record {
      closed = record {
        checkpoints = λ f h. sym (same f) ∙ by_marks.closed.checkpoints f h;
        callers = λ f g call there. sym (same f) ∙ by_marks.closed.callers f g call (same g ∙ there);
      };
      least = λ other closed f h. by_marks.least other closed f (same f ∙ h);
    }
