-- Where a word has its first "=".
use Rattle.std.proofs.Common.{◌≡◌, ◌≢◌, ◌<◌, ℕ, List, [], ◌∷◌, ◌++◌, Bool, true, false, length, get_or, suc, refl, ap, subst, arith, Bor}
use Rattle.std.proofs.lemmas.Bool.Decides.{nat_tests}
use Rattle.std.proofs.lemmas.Str.Pattern.{IsSplitOnceResult, split_parts}
use Rattle.std.specs.Prelude.{Some, None, ◌==◌, if◌then◌else◌}
use Rattle.std.specs.declared.option.Option.{Option}
use Rattle.porch_words.specs.inside.Reading.{EQUAL_SIGN, split, longer}

-- no "=" stands in these bytes
abbrev pub Lacks : List ℕ → Type 0
Lacks bs = (i : ℕ) → i < length bs → get_or bs i 0 ≢ EQUAL_SIGN

rest_lacks : (c : ℕ) (cs : List ℕ) → Lacks (c ∷ cs) → Lacks cs
rest_lacks c cs h i k e = h (suc i) (omega arith) e

first_lacks : (c : ℕ) (cs : List ℕ) → Lacks (c ∷ cs) → (c == EQUAL_SIGN) ≡ false
first_lacks c cs h = let other : c ≢ EQUAL_SIGN = h 0 (omega arith) in grind (arith, nat_tests)

pub split_lacks : (bs : List ℕ) → Lacks bs → split bs ≡ None
split_lacks [] h = refl
split_lacks (c ∷ cs) h = rw (first_lacks c cs h, split_lacks cs (rest_lacks c cs h)) refl

pub split_at : (xs ys : List ℕ) → Lacks xs → split (xs ++ (EQUAL_SIGN ∷ ys)) ≡ Some (xs, ys)
split_at [] ys h = refl
split_at (c ∷ cs) ys h = rw (first_lacks c cs h, split_at cs ys (rest_lacks c cs h)) refl

pub split_none : (bs : List ℕ) → IsSplitOnceResult EQUAL_SIGN bs None → split bs ≡ None
split_none bs h = split_lacks bs (split_parts EQUAL_SIGN bs None h (omega arith))

pub split_some : (bs : List ℕ) (x : Bor (List ℕ) × Bor (List ℕ)) → IsSplitOnceResult EQUAL_SIGN bs (Some x) → split bs ≡ Some (x.0.now, x.1.now)
split_some bs x h =
    let parts = split_parts EQUAL_SIGN bs (Some x) h (omega arith) in
    rw parts.0 (split_at x.0.now x.1.now parts.1)

front_of : Option (List ℕ × List ℕ) → List ℕ
front_of None = []
front_of (Some p) = p.0

back_of : Option (List ℕ × List ℕ) → List ℕ
back_of None = []
back_of (Some p) = p.1

none_some : (p : List ℕ × List ℕ) → let o : Option (List ℕ × List ℕ) = None in o ≡ Some p → ⊥
none_some p e = cc

by_split : (c : ℕ) (cs xs ys : List ℕ) (b : Bool) (r : Option (List ℕ × List ℕ)) → (b ≡ true → c ≡ EQUAL_SIGN) → ((us vs : List ℕ) → r ≡ Some (us, vs) → cs ≡ us ++ (EQUAL_SIGN ∷ vs)) → (if b then Some ([], cs) else longer c r) ≡ Some (xs, ys) → (c ∷ cs) ≡ xs ++ (EQUAL_SIGN ∷ ys)
unfolding front_of back_of
by_split c cs xs ys true r is h e =
    subst (λ v. (c ∷ cs) ≡ v ++ (EQUAL_SIGN ∷ ys)) (ap front_of e) (subst (λ v. (c ∷ cs) ≡ EQUAL_SIGN ∷ v) (ap back_of e) (ap (λ v. v ∷ cs) (is refl)))
by_split c cs xs ys false None is h e = absurd (none_some (xs, ys) e)
by_split c cs xs ys false (Some p) is h e =
    subst (λ v. (c ∷ cs) ≡ v ++ (EQUAL_SIGN ∷ ys)) (ap front_of e) (subst (λ v. (c ∷ cs) ≡ (c ∷ p.0) ++ (EQUAL_SIGN ∷ v)) (ap back_of e) (ap (λ v. c ∷ v) (h p.0 p.1 refl)))

-- the two sides of an "=", joined
pub split_joins : (bs xs ys : List ℕ) → split bs ≡ Some (xs, ys) → bs ≡ xs ++ (EQUAL_SIGN ∷ ys)
split_joins [] xs ys e = absurd (none_some (xs, ys) e)
split_joins (c ∷ cs) xs ys e =
    by_split c cs xs ys (c == EQUAL_SIGN) (split cs) (λ t. grind (arith, nat_tests)) (λ us vs r. split_joins cs us vs r) e
