-- The first pointer to a type is found among what each points to.
use Rattle.std.proofs.Common.{◌≡◌, ◌<◌, ◌≤◌, ◌+◌, ◌-◌, ℕ, suc, nat_eq, Bool, true, false, List, [], ◌∷◌, length, map, Option, Some, None, refl, sym, ap, ◌∙◌, arith, add-one}
use Rattle.std.specs.Option.{option_map}
use Rattle.std.proofs.lemmas.Bool.{eqb-true}
use Rattle.std.proofs.lemmas.Bool.Decides.{nat_tests}
use Rattle.porch_types.specs.declared.shapes.Ty.{Ty}
use Rattle.porch_types.specs.declared.shapes.Ty.TheVariants.{Whole, Pointer, Array, Struct}
use Rattle.porch_check.specs.Sealing.{position_of, is_pointer_to, pointer_in, Sealed, with_pointer, with_pointers}
use Rattle.porch_pointees.specs.inside.Pointees.{pointee, found_at}

not_equal : (n other : ℕ) (b : Bool) → nat_eq n other ≡ b → n < other → b ≡ false
not_equal n other false h less = refl
not_equal n other true h less = let same : n ≡ other = eqb-true n other h in absurd (omega arith)

-- a type points to a number exactly where its pointee is that
same_pointee : (n other : ℕ) (t : Ty) → n < other → nat_eq n (pointee other t) ≡ is_pointer_to n t
same_pointee n other (Pointer to) less = refl
same_pointee n other (Whole kind) less = not_equal n other (nat_eq n other) refl less
same_pointee n other (Array of count) less = not_equal n other (nat_eq n other) refl less
same_pointee n other (Struct members) less = not_equal n other (nat_eq n other) refl less

-- one place further
further : (l k p : ℕ) → option_map (λ q. suc p + q) (found_at l k) ≡ option_map (λ q. p + q) (found_at (suc l) (suc k))
further l k p = grind (arith, nat_tests)

here : (l p : ℕ) → Some p ≡ option_map (λ q. p + q) (found_at (suc l) 0)
here l p = grind (arith, nat_tests)

next : (n other p : ℕ) (t : Ty) (ts : List Ty) (b : Bool) → is_pointer_to n t ≡ b → nat_eq n (pointee other t) ≡ b
    → pointer_in n ts (suc p) ≡ option_map (λ q. suc p + q) (found_at (length ts) (position_of n (map (pointee other) ts)))
    → pointer_in n (t ∷ ts) p ≡ option_map (λ q. p + q) (found_at (length (t ∷ ts)) (position_of n (map (pointee other) (t ∷ ts))))
next n other p t ts true h k more = rw (h, k) (here (length ts) p)
next n other p t ts false h k more = rw (h, k) (more ∙ further (length ts) (position_of n (map (pointee other) ts)) p)

found_from : (n other p : ℕ) (ts : List Ty) → n < other
    → pointer_in n ts p ≡ option_map (λ q. p + q) (found_at (length ts) (position_of n (map (pointee other) ts)))
found_from n other p [] less = refl
found_from n other p (t ∷ ts) less = next n other p t ts (is_pointer_to n t) refl (same_pointee n other t less) (found_from n other (suc p) ts less)

from_zero : (o : Option ℕ) → option_map (λ q. 0 + q) o ≡ o
from_zero None = refl
from_zero (Some q) = let same : 0 + q ≡ q = omega arith in ap Some same

pub first_found : (own : List Ty) (pointees : List ℕ) (count to : ℕ) (first : Option ℕ) → count ≡ length own → pointees ≡ map (pointee count) own
    → to < count → first ≡ found_at count (position_of to pointees) → first ≡ pointer_in to own 0
first_found own pointees count to first long are less is =
    is
    ∙ ap (λ ps. found_at count (position_of to ps)) are
    ∙ ap (λ l. found_at l (position_of to (map (pointee count) own))) long
    ∙ sym (from_zero (found_at (length own) (position_of to (map (pointee count) own))))
    ∙ sym (found_from to count 0 own less)

-- one pointer more, where the others are left
pub one_more : (own : List Ty) (x y whole : Sealed) (count to : ℕ) → to < count → y ≡ with_pointer (pointer_in to own 0) to x
    → with_pointers (count - to) to own x ≡ whole → with_pointers (count - (to + 1)) (to + 1) own y ≡ whole
one_more own x y whole count to less is before =
    let left : count - to ≡ suc (count - (to + 1)) = omega arith in
    ap (λ z. with_pointers (count - (to + 1)) (to + 1) own z) is
    ∙ ap (λ k. with_pointers (count - (to + 1)) k own (with_pointer (pointer_in to own 0) to x)) (add-one to)
    ∙ sym (ap (λ k. with_pointers k to own x) left)
    ∙ before

-- none is left
pub all_there : (own : List Ty) (x whole : Sealed) (count to : ℕ) → count ≤ to → with_pointers (count - to) to own x ≡ whole → x ≡ whole
all_there own x whole count to end before =
    let none : count - to ≡ 0 = omega arith in sym (ap (λ k. with_pointers k to own x) none) ∙ before
