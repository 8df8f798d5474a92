-- The last root before those that begin after a place.
use Rattle.std.proofs.Common.{◌≡◌, ◌↔◌, ℕ, ◌-◌, ◌<◌, ◌≤◌, List, length, get_or, slice_get, Option, Some, None, ap, subst, arith}
use Rattle.std.proofs.lemmas.Option.{slice_get-get_or}
use Rattle.porch_find.specs.declared.roots.Root.{Root}
use Rattle.porch_find.specs.Roots.{IsLastAt}

abbrev Holds : List Root → ℕ → Option ℕ → Type 0
Holds roots place None = ⊥
Holds roots place (Some i) = IsLastAt roots place i

-- where the first roots begin at or before the place and the rest after it
pub is_last : (roots : List Root) (place low : ℕ) → 0 < low → low ≤ length roots
    → ((j : ℕ) (r : Root) → j < low → slice_get roots j ≡ Some r → r.at ≤ place)
    → ((j : ℕ) (r : Root) → low ≤ j → slice_get roots j ≡ Some r → place < r.at)
    → IsLastAt roots place (low - 1)
is_last roots place low some within begun later =
    let none : Root = record { at = 0; ty = 0; count = 0 } in
    let there : low - 1 < length roots = omega (arith, some, within) in
    let at : slice_get roots (low - 1) ≡ Some (get_or roots (low - 1) none) = slice_get-get_or roots (low - 1) none there in
    record {
      root = get_or roots (low - 1) none;
      is = at;
      begun = begun (low - 1) (get_or roots (low - 1) none) (omega (arith, some)) at;
      last = λ j other is le.
          let not_later : low ≤ j → ⊥ = λ h. omega (arith, later j other h is, le) in
          omega (arith, not_later);
    }

pub one_last : (roots : List Root) (place i j : ℕ) → IsLastAt roots place i → IsLastAt roots place j → i ≡ j
one_last roots place i j a b = omega (arith, a.last j b.root b.is b.begun, b.last i a.root a.is a.begun)

pub answers : (roots : List Root) (place k : ℕ) → IsLastAt roots place k → (i : ℕ) → (Some k ≡ Some i) ↔ IsLastAt roots place i
answers roots place k is i = (λ e. subst (Holds roots place) e is, λ h. ap Some (one_last roots place k i is h))
