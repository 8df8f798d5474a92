-- Going backward from the functions that hold a CHECKPOINT reaches those that reach one, and no others.
use Rattle.std.proofs.Common.{◌≡◌, ◌≢◌, ◌<◌, ◌⊎◌, inl, inr, ℕ, zero, suc, ◌+◌, List, [], ◌∷◌, ◌++◌, length, get_or, set, map, replicate, refl, sym, ap, ◌∙◌, subst, arith, Option, Some, None, Bool, true, false}
use Rattle.std.specs.Prelude.{slice_get, nat_lt, ◌==◌, ◌||◌, if◌then◌else◌}
use Rattle.std.specs.List.{list_any, Contains}
use Rattle.std.proofs.lemmas.Grind.{common_steps}
use Rattle.std.proofs.lemmas.Bool.Decides.{nat_tests}
use Rattle.std.proofs.lemmas.List.{map-set, length-map, get_or-map, get_or-set_same, get_or-set_other}
use Rattle.std.proofs.lemmas.List.Elements.{Contains-append_left, Contains-append_right, Contains-push, Contains-push_cases}
use Rattle.porch_flat.specs.declared.whole.Command.{Command}
use Rattle.porch_flat.specs.declared.whole.Function.{Function}
use Rattle.porch_flat.specs.whole.Form.{form_of}
use Rattle.porch_flat.specs.whole.Places.{is_number, commands_of}
use Rattle.porch_flat.specs.whole.Calls.{callee_of, is_call_of}
use Rattle.porch_flat.specs.inside.CallGraph.{Callers, with_caller, noted_callee, noted, all_noted, callers_in}

pub put_lists : {A : Type 0} (items : A → List ℕ) (lists : List A) (g f : ℕ) (v d : A) → g < length lists → items v ≡ items (get_or lists g d) ++ f ∷ []
    → map items (set lists g v) ≡ with_caller f g (map items lists)
put_lists items lists g f v d inside h =
    let there : nat_lt g (length (map items lists)) ≡ true = grind (arith, nat_tests, length-map, inside) in
    let old : get_or (map items lists) g [] ≡ items (get_or lists g d) = get_or-map items lists g d [] inside in
    rw (there, old) (map-set items lists g v ∙ ap (λ x. set (map items lists) g x) h)

-- what passes a test of a list
pub record Passing {X : Type 0} (p : X → Bool) (xs : List X) : Type 0 where
  pub item : X
  pub place : ℕ
  pub here : slice_get xs place ≡ Some item
  pub passes : p item ≡ true

later_passing : {X : Type 0} (p : X → Bool) (x : X) (xs : List X) → Passing p xs → Passing p (x ∷ xs)
later_passing p x xs h = record { item = h.item; place = suc h.place; here = h.here; passes = h.passes }

passing_by : {X : Type 0} (p : X → Bool) (x : X) (xs : List X) (b : Bool) → p x ≡ b → (list_any p xs ≡ true → Passing p xs) → list_any p (x ∷ xs) ≡ true → Passing p (x ∷ xs)
passing_by p x xs true is go h = record { item = x; place = 0; here = refl; passes = is }
passing_by p x xs false is go h = later_passing p x xs (go (subst (λ b. b || list_any p xs ≡ true) is h))

pub passing : {X : Type 0} (p : X → Bool) (xs : List X) → list_any p xs ≡ true → Passing p xs
passing p [] h = absurd (cc)
passing p (x ∷ xs) h = passing_by p x xs (p x) refl (λ g. passing p xs g) h

either_true : (a b : Bool) → b ≡ true → a || b ≡ true
either_true true b h = refl
either_true false b h = h

pub any_passes : {X : Type 0} (p : X → Bool) (xs : List X) (i : ℕ) (x : X) → slice_get xs i ≡ Some x → p x ≡ true → list_any p xs ≡ true
any_passes p [] i x h g = absurd (cc)
any_passes p (y ∷ xs) zero x h g = let same : y ≡ x = cc in rw (same, g) refl
any_passes p (y ∷ xs) (suc i) x h g = either_true (p y) (list_any p xs) (any_passes p xs i x h g)

-- the callers that are noted

pub noted_length : (f : ℕ) (o : Option ℕ) (cs : Callers) → length (noted_callee f o cs) ≡ length cs
noted_length f None cs = refl
noted_length f (Some g) cs = with_length f g cs (nat_lt g (length cs)) refl
  where
    with_length : (f g : ℕ) (cs : Callers) (b : Bool) → nat_lt g (length cs) ≡ b → length (with_caller f g cs) ≡ length cs
    with_length f g cs true is = rw is (grind (arith, common_steps))
    with_length f g cs false is = rw is refl

abbrev callers_of : Callers → ℕ → List ℕ
callers_of cs g = get_or cs g []

abbrev Has : Callers → (caller called : ℕ) → Type 0
Has cs f g = Contains (callers_of cs g) f

-- a caller that is noted stays
stays_with : (k g f h : ℕ) (cs : Callers) (b : Bool) → nat_lt g (length cs) ≡ b → (c : Bool) → h == g ≡ c → Has cs k h → Has (with_caller f g cs) k h
stays_with k g f h cs false is c same has = rw is has
stays_with k g f h cs true is true same has =
    let equal : h ≡ g = grind (arith, nat_tests, same) in
    let inside : g < length cs = grind (arith, nat_tests, is) in
    let there : callers_of (set cs g (callers_of cs g ++ f ∷ [])) h ≡ callers_of cs h ++ f ∷ [] = grind (arith, common_steps, equal, inside) in
    rw (is, there) (Contains-append_left (callers_of cs h) (f ∷ []) k has)
stays_with k g f h cs true is false same has =
    let apart : h ≢ g = grind (arith, nat_tests, same) in
    rw (is, get_or-set_other cs g h (callers_of cs g ++ f ∷ []) [] apart) has

stays_noted : (k f h : ℕ) (o : Option ℕ) (cs : Callers) → Has cs k h → Has (noted_callee f o cs) k h
stays_noted k f h None cs has = has
stays_noted k f h (Some g) cs has = stays_with k g f h cs (nat_lt g (length cs)) refl (h == g) refl has

put_there : (f g : ℕ) (o : Option ℕ) (cs : Callers) → is_number g o ≡ true → g < length cs → Has (noted_callee f o cs) f g
put_there f g None cs h inside = absurd (cc)
put_there f g (Some h) cs is inside =
    let same : h ≡ g = grind (arith, nat_tests, is) in
    let test : nat_lt g (length cs) ≡ true = grind (arith, nat_tests, inside) in
    let there : callers_of (set cs g (callers_of cs g ++ f ∷ [])) g ≡ callers_of cs g ++ f ∷ [] = get_or-set_same cs g (callers_of cs g ++ f ∷ []) [] inside in
    rw (same, test, there) (Contains-append_right (callers_of cs g) (f ∷ []) f (Contains-push [] f))

cases_or : {A B : Type 0} (x y : Bool) → x || y ≡ true → (x ≡ true → A) → (y ≡ true → B) → A ⊎ B
cases_or true y h f g = inl (f refl)
cases_or false y h f g = inr (g h)

pub noted_all_length : (f : ℕ) (commands : List Command) (cs : Callers) → length (noted f commands cs) ≡ length cs
noted_all_length f [] cs = refl
noted_all_length f (c ∷ commands) cs =
    noted_all_length f commands (noted_callee f (callee_of (form_of c)) cs) ∙ noted_length f (callee_of (form_of c)) cs

stay_noted : (k f h : ℕ) (commands : List Command) (cs : Callers) → Has cs k h → Has (noted f commands cs) k h
stay_noted k f h [] cs has = has
stay_noted k f h (c ∷ commands) cs has =
    stay_noted k f h commands (noted_callee f (callee_of (form_of c)) cs) (stays_noted k f h (callee_of (form_of c)) cs has)

are_noted : (f g : ℕ) (commands : List Command) (cs : Callers) → list_any (λ c. is_call_of g (form_of c)) commands ≡ true → g < length cs → Has (noted f commands cs) f g
are_noted f g [] cs h inside = absurd (cc)
are_noted f g (c ∷ commands) cs h inside =
    let next : Callers = noted_callee f (callee_of (form_of c)) cs in
    let same : length next ≡ length cs = noted_length f (callee_of (form_of c)) cs in
    let found = cases_or (is_call_of g (form_of c)) (list_any (λ c. is_call_of g (form_of c)) commands) h
    (λ here. stay_noted f f g commands next (put_there f g (callee_of (form_of c)) cs here inside))
    (λ later. are_noted f g commands next later (omega (arith, same, inside))) in
    elim found [ inl a ↦ a | inr b ↦ b ]

from_with : (k g f h : ℕ) (cs : Callers) (b : Bool) → nat_lt g (length cs) ≡ b → (c : Bool) → h == g ≡ c → Has (with_caller f g cs) k h → Has cs k h ⊎ ((f ≡ k) × (h ≡ g))
from_with k g f h cs false is c same has = inl (subst (λ b. Has (if b then set cs g (callers_of cs g ++ f ∷ []) else cs) k h) is has)
from_with k g f h cs true is true same has =
    let equal : h ≡ g = grind (arith, nat_tests, same) in
    let inside : g < length cs = grind (arith, nat_tests, is) in
    let there : callers_of (set cs g (callers_of cs g ++ f ∷ [])) h ≡ callers_of cs h ++ f ∷ [] = grind (arith, common_steps, equal, inside) in
    let moved : Has (set cs g (callers_of cs g ++ f ∷ [])) k h = subst (λ b. Has (if b then set cs g (callers_of cs g ++ f ∷ []) else cs) k h) is has in
    elim (Contains-push_cases (callers_of cs h) f k (subst (λ xs. Contains xs k) there moved)) [ inl a ↦ inl a | inr b ↦ inr (b, equal) ]
from_with k g f h cs true is false same has =
    let apart : h ≢ g = grind (arith, nat_tests, same) in
    let moved : Has (set cs g (callers_of cs g ++ f ∷ [])) k h = subst (λ b. Has (if b then set cs g (callers_of cs g ++ f ∷ []) else cs) k h) is has in
    inl (subst (λ xs. Contains xs k) (get_or-set_other cs g h (callers_of cs g ++ f ∷ []) [] apart) moved)

from_callee : (k f h : ℕ) (o : Option ℕ) (cs : Callers) → Has (noted_callee f o cs) k h → Has cs k h ⊎ ((f ≡ k) × (is_number h o ≡ true))
from_callee k f h None cs has = inl has
from_callee k f h (Some g) cs has =
    elim (from_with k g f h cs (nat_lt g (length cs)) refl (h == g) refl has) [
      | inl a ↦ inl a
      | inr b ↦ inr (b.0, let same = b.1 in grind (arith, nat_tests, same))
    ]

from_noted : (k f h : ℕ) (commands : List Command) (cs : Callers) → Has (noted f commands cs) k h → Has cs k h ⊎ ((f ≡ k) × (list_any (λ c. is_call_of h (form_of c)) commands ≡ true))
from_noted k f h [] cs has = inl has
from_noted k f h (c ∷ commands) cs has =
    elim (from_noted k f h commands (noted_callee f (callee_of (form_of c)) cs) has) [
      | inl a ↦ elim (from_callee k f h (callee_of (form_of c)) cs a) [
        | inl old ↦ inl old
        | inr new ↦ inr (new.0, rw new.1 refl)
      ]
      | inr b ↦ inr (b.0, either_true (is_call_of h (form_of c)) (list_any (λ c. is_call_of h (form_of c)) commands) b.1)
    ]

abbrev calls_in : List Function → ℕ → ℕ → Bool
calls_in fs f g = list_any (λ c. is_call_of g (form_of c)) (commands_of (slice_get fs f))

all_length : (at : ℕ) (fs : List Function) (cs : Callers) → length (all_noted at fs cs) ≡ length cs
all_length at [] cs = refl
all_length at (f ∷ fs) cs = all_length (at + 1) fs (noted at f.commands cs) ∙ noted_all_length at f.commands cs

all_stay : (k at h : ℕ) (fs : List Function) (cs : Callers) → Has cs k h → Has (all_noted at fs cs) k h
all_stay k at h [] cs has = has
all_stay k at h (f ∷ fs) cs has = all_stay k (at + 1) h fs (noted at f.commands cs) (stay_noted k at h f.commands cs has)

all_there : (at : ℕ) (fs : List Function) (cs : Callers) (i g : ℕ) → calls_in fs i g ≡ true → g < length cs → Has (all_noted at fs cs) (at + i) g
all_there at [] cs i g h inside = absurd (cc)
all_there at (f ∷ fs) cs zero g h inside =
    let none : at + 0 ≡ at = omega arith in
    subst (λ n. Has (all_noted (at + 1) fs (noted at f.commands cs)) n g) (sym none)
    (all_stay at (at + 1) g fs (noted at f.commands cs) (are_noted at g f.commands cs h inside))
all_there at (f ∷ fs) cs (suc i) g h inside =
    let more : at + 1 + i ≡ at + suc i = omega arith in
    let same = noted_all_length at f.commands cs in
    subst (λ n. Has (all_noted (at + 1) fs (noted at f.commands cs)) n g) more
    (all_there (at + 1) fs (noted at f.commands cs) i g h (omega (arith, same, inside)))

record CallIn (at : ℕ) (fs : List Function) (k h : ℕ) : Type 0 where
  place : ℕ
  is : k ≡ at + place
  call : calls_in fs place h ≡ true

all_from : (at : ℕ) (fs : List Function) (cs : Callers) (k h : ℕ) → Has (all_noted at fs cs) k h → Has cs k h ⊎ CallIn at fs k h
all_from at [] cs k h has = inl has
all_from at (f ∷ fs) cs k h has =
    elim (all_from (at + 1) fs (noted at f.commands cs) k h has) [
      | inl a ↦ elim (from_noted k at h f.commands cs a) [
        | inl old ↦ inl old
        | inr new ↦ inr (record { place = 0; is = let same = new.0 in omega (arith, same); call = new.1 })
      ]
      | inr b ↦ inr (record { place = suc b.place; is = let same = b.is in omega (arith, same); call = b.call })
    ]

none_of : (n g : ℕ) → callers_of (replicate n []) g ≡ []
none_of n g = grind (arith, common_steps)

abbrev nobody : List ℕ
nobody = []

not_empty : (f : ℕ) → Contains nobody f → ⊥
not_empty f h = absurd (let less = h.1 in omega (arith, less))

-- the callers of a function are those that call it
pub callers_are : (fs : List Function) (f g : ℕ) → calls_in fs f g ≡ true → g < length fs → Has (callers_in fs) f g
callers_are fs f g h inside =
    let len : length (replicate (length fs) nobody) ≡ length fs = grind (arith, common_steps) in
    let none : 0 + f ≡ f = omega arith in
    subst (λ n. Has (callers_in fs) n g) none (all_there 0 fs (replicate (length fs) []) f g h (omega (arith, len, inside)))

pub callers_only : (fs : List Function) (f g : ℕ) → Has (callers_in fs) f g → calls_in fs f g ≡ true
callers_only fs f g has =
    elim (all_from 0 fs (replicate (length fs) []) f g has) [
      | inl a ↦ absurd (not_empty f (subst (λ xs. Contains xs f) (none_of (length fs) g) a))
      | inr b ↦ let same : b.place ≡ f = let is = b.is in omega (arith, is) in subst (λ n. calls_in fs n g ≡ true) same b.call
    ]
