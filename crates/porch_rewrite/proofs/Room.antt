-- Room for the labels that are added, as it is looked for, is room.
use Rattle.std.proofs.Common.{◌≡◌, ◌<◌, ◌↔◌, ℕ, zero, suc, List, [], ◌∷◌, refl, sym, subst, arith, Bool, true, false, IsTrue, Option, Some, None}
use Rattle.std.specs.Prelude.{slice_get, nat_lt, ◌&&◌, count_by}
use Rattle.std.specs.List.{list_all}
use Rattle.std.proofs.lemmas.Bool.Decides.{nat_tests}
use Rattle.porch_flat.specs.declared.whole.Command.{Command}
use Rattle.porch_flat.specs.declared.whole.Function.{Function}
use Rattle.porch_flat.specs.declared.whole.Flat.{Flat}
use Rattle.porch_flat.specs.whole.Form.{form_of}
use Rattle.porch_flat.specs.whole.Places.{commands_of}
use Rattle.porch_rewrite.specs.Laws.{label_named, takes_label, HasRoom, HasFew}
use Rattle.porch_rewrite.specs.Rewriting.{FIRST_LABEL}
use Rattle.porch_rewrite.specs.inside.Room.{is_below_first, is_below, leaves_room}

both_first : (a b : Bool) → a && b ≡ true → a ≡ true
both_first true b h = refl
both_first false b h = absurd (cc)

both_second : (a b : Bool) → a && b ≡ true → b ≡ true
both_second true b h = h
both_second false b h = absurd (cc)

both_and : (a b : Bool) → a ≡ true → b ≡ true → a && b ≡ true
both_and true true a b = refl
both_and false b a c = absurd (cc)
both_and true false a b = absurd (cc)

all_at : {X : Type 0} (p : X → Bool) (xs : List X) (i : ℕ) (x : X) → slice_get xs i ≡ Some x → list_all p xs ≡ true → p x ≡ true
all_at p [] i x h all = absurd (cc)
all_at p (y ∷ xs) zero x h all = let same : y ≡ x = cc in subst (λ z. p z ≡ true) same (both_first (p y) (list_all p xs) all)
all_at p (y ∷ xs) (suc i) x h all = all_at p xs i x h (both_second (p y) (list_all p xs) all)

all_from : {X : Type 0} (p : X → Bool) (xs : List X) → ((i : ℕ) (x : X) → slice_get xs i ≡ Some x → p x ≡ true) → list_all p xs ≡ true
all_from p [] h = refl
all_from p (x ∷ xs) h = both_and (p x) (list_all p xs) (h 0 x refl) (all_from p xs (λ i y at. h (suc i) y at))

below : (n m : ℕ) → nat_lt n m ≡ true → n < m
below n m h = grind (arith, nat_tests, h)

is_less : (n m : ℕ) → n < m → nat_lt n m ≡ true
is_less n m h = grind (arith, nat_tests, h)

named_below : (o : Option ℕ) (n : ℕ) → o ≡ Some n → is_below_first o ≡ true → n < FIRST_LABEL
named_below None n h b = absurd (cc)
named_below (Some k) n h b = let same : k ≡ n = cc in subst (λ m. m < FIRST_LABEL) same (below k FIRST_LABEL b)

below_by : (o : Option ℕ) → ((n : ℕ) → o ≡ Some n → n < FIRST_LABEL) → is_below_first o ≡ true
below_by None h = refl
below_by (Some n) h = is_less n FIRST_LABEL (h n refl)

module _ (flat : Flat) where
  abbrev all_leave_room : Bool
  all_leave_room = list_all (λ (f : Function). leaves_room f.commands) flat.functions

  room_in : (o : Option Function) → ((f : Function) → o ≡ Some f → leaves_room f.commands ≡ true) → (place n : ℕ) (c : Command) → slice_get (commands_of o) place ≡ Some c → label_named (form_of c) ≡ Some n → n < FIRST_LABEL
  room_in None h place n c at named = absurd (cc)
  room_in (Some f) h place n c at named =
      let each = both_first (list_all (λ c. is_below (form_of c)) f.commands) (nat_lt (count_by (λ c. takes_label (form_of c)) f.commands) FIRST_LABEL) (h f refl) in
      named_below (label_named (form_of c)) n named (all_at (λ c. is_below (form_of c)) f.commands place c at each)

  few_in : (o : Option Function) → ((f : Function) → o ≡ Some f → leaves_room f.commands ≡ true) → count_by (λ c. takes_label (form_of c)) (commands_of o) < FIRST_LABEL
  few_in None h = omega arith
  few_in (Some f) h =
      below (count_by (λ c. takes_label (form_of c)) f.commands) FIRST_LABEL (both_second (list_all (λ c. is_below (form_of c)) f.commands) (nat_lt (count_by (λ c. takes_label (form_of c)) f.commands) FIRST_LABEL) (h f refl))

  each_leaves : all_leave_room ≡ true → (k : ℕ) (f : Function) → slice_get flat.functions k ≡ Some f → leaves_room f.commands ≡ true
  each_leaves all k f at = all_at (λ (f : Function). leaves_room f.commands) flat.functions k f at all

  leaves_when : HasRoom flat → HasFew flat → (k : ℕ) (f : Function) → slice_get flat.functions k ≡ Some f → leaves_room f.commands ≡ true
  leaves_when room few k f at =
      let own : commands_of (slice_get flat.functions k) ≡ f.commands = rw at refl in
      both_and (list_all (λ c. is_below (form_of c)) f.commands) (nat_lt (count_by (λ c. takes_label (form_of c)) f.commands) FIRST_LABEL)
      (all_from (λ c. is_below (form_of c)) f.commands (λ i c here. below_by (label_named (form_of c)) (λ n named. room k i n c (subst (λ (cs : List Command). slice_get cs i ≡ Some c) (sym own) here) named)))
      (is_less (count_by (λ c. takes_label (form_of c)) f.commands) FIRST_LABEL (subst (λ (cs : List Command). count_by (λ c. takes_label (form_of c)) cs < FIRST_LABEL) own (few k)))

  pub room_is : IsTrue all_leave_room ↔ (HasRoom flat × HasFew flat)
  room_is = (
    λ is. let all : all_leave_room ≡ true = is in (
      (λ f place n c at named. room_in (slice_get flat.functions f) (λ g here. each_leaves all f g here) place n c at named),
      (λ f. few_in (slice_get flat.functions f) (λ g here. each_leaves all f g here)),
    ),
    λ both. all_from (λ (f : Function). leaves_room f.commands) flat.functions (λ k f at. leaves_when both.0 both.1 k f at),
  )
