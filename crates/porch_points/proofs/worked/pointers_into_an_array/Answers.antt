use Rattle.std.proofs.Common.{◌≡◌, ℕ, zero, suc, ◌+◌, ◌-◌, ◌<◌, Bool, true, false, [], ◌∷◌, length, slice_get, Some, refl, sym, subst, inl, inr, lit<, lit≤, arith}
use Rattle.porch_types.specs.declared.parts.Row.{Row}
use Rattle.porch_layout.specs.Layouts.{IsLayout, le32}
use Rattle.porch_metrics.specs.Extents.{ucf_layout}
use Rattle.porch_metrics.specs.Places.{place_of}
use Rattle.porch_find.specs.declared.roots.Root.{Root}
use Rattle.porch_find.specs.Spots.{IsSpot}
use Rattle.porch_find.specs.Worked.{worked_types}
use Rattle.porch_points.specs.Plans.{end_of}
use Rattle.porch_points.specs.Words.{spot_word, no_word, word_of}
use Rattle.porch_points.specs.Worked.{worked_addresses, worked_places}
use Rattle.porch_points.proofs.Naming.{halves_one, none_some, some_one}
use Rattle.porch_points.proofs.Addressing.{only_named}
use Rattle.porch_points.proofs.worked.pointers_into_an_array.Goals as goal

abbrev object : Root
object = record { at = 16; ty = 8; count = 1 }

abbrev copy : Root
copy = record { at = 0; ty = 8; count = 1 }

-- a list of one has no other
only_one : (r other : Root) (n : ℕ) → slice_get (r ∷ []) n ≡ Some other → r ≡ other
only_one r other zero e = some_one r other e
only_one r other (suc n) e = absurd (none_some other e)

no_later : (r other : Root) (i n : ℕ) → i < n → slice_get (r ∷ []) n ≡ Some other → ⊥
no_later r other i zero lt e = omega (arith, lt)
no_later r other i (suc n) lt e = none_some other e

pub returns-clause-plan : goal.returns-clause-plan
returns-clause-plan c =
    record {
      alike = refl;
      same = λ i a p at_a at_p. subst (λ (y : Root). y ≡ record a { at = y.at }) (only_one copy p i at_p) (subst (λ (x : Root). copy ≡ record x { at = 0 }) (only_one object a i at_a) refl);
      known = λ i a at. subst (λ (x : Root). x.ty < length worked_types) (only_one object a i at) (lit< tt);
      above = λ i a at. subst (λ (x : Root). 0 < x.at) (only_one object a i at) (lit< tt);
      ends = λ i a at. subst (λ (x : Root). end_of le32 worked_types x < 2147483648) (only_one object a i at) (lit< tt);
      follow = λ i j p q lt at_i at_j. absurd (no_later copy q i j lt at_j);
      data_ends = λ i p at. subst (λ (x : Root). end_of ucf_layout worked_types x < 4611686018427387904) (only_one copy p i at) (lit< tt);
    }

pub returns-clause-apart : goal.returns-clause-apart
returns-clause-apart c = λ i j a b lt at_i at_j. absurd (no_later object b i j lt at_j)

abbrev row : Row
row = record { first = 0; len = 3 }

pub returns-clause-end : goal.returns-clause-end
returns-clause-end c =
    let are = c.worked_types_are_types.ensures in
    spot_word (record {
      number = 0;
      spot = record { leaf = 2; past = true };
      copy = copy;
      by_address = record {
        object = object;
        is_object = refl;
        names = record {
          begun = lit≤ tt;
          spot_is = record {
            is = record {
              row = row;
              is = (c.rows_are_found.ensures.some worked_types 8 1 2 4 row are (lit< tt)).0 refl;
              last = refl;
              unshared = (c.rows_are_found.ensures.none worked_types 8 1 3 4 are (lit< tt)).0 refl;
            };
            at = refl;
          };
        };
      };
      is_copy = refl;
      word_is = refl;
    })

pub returns-clause-element : goal.returns-clause-element
returns-clause-element c =
    let are = c.worked_types_are_types.ensures in
    spot_word (record {
      number = 0;
      spot = record { leaf = 1; past = false };
      copy = copy;
      by_address = record {
        object = object;
        is_object = refl;
        names = record {
          begun = lit≤ tt;
          spot_is = record {
            is = (row, (c.rows_are_found.ensures.some worked_types 8 1 1 4 row are (lit< tt)).0 refl);
            at = refl;
          };
        };
      };
      is_copy = refl;
      word_is = refl;
    })

le32_is : IsLayout le32
le32_is = record {
  long = inl refl;
  pointer = inl refl;
  align_short = record { alignment = inr (inl refl); within = lit≤ tt };
  align_int = record { alignment = inr (inr (inl refl)); within = lit≤ tt };
  align_long = record { alignment = inr (inr (inl refl)); within = lit≤ tt };
  align_pointer = record { alignment = inr (inr (inl refl)); within = lit≤ tt };
  least_struct = record { alignment = inl refl; within = lit≤ tt };
}

ucf_is : IsLayout ucf_layout
ucf_is = record {
  long = inr refl;
  pointer = inr refl;
  align_short = record { alignment = inl refl; within = lit≤ tt };
  align_int = record { alignment = inl refl; within = lit≤ tt };
  align_long = record { alignment = inl refl; within = lit≤ tt };
  align_pointer = record { alignment = inl refl; within = lit≤ tt };
  least_struct = record { alignment = inl refl; within = lit≤ tt };
}

-- rising places that are 0, 4 and 8 at first are never 2 or 6
not_two : (p : ℕ → ℕ) (leaf : ℕ) → ((a b : ℕ) → a < b → p a < p b) → p 0 ≡ 0 → p 1 ≡ 4 → p leaf ≡ 2 → ⊥
not_two p zero rise first next at = omega (arith, at, first)
not_two p (suc zero) rise first next at = omega (arith, at, next)
not_two p (suc (suc leaf)) rise first next at = omega (arith, at, next, rise 1 (suc (suc leaf)) (omega arith))

not_six : (p : ℕ → ℕ) (leaf : ℕ) → ((a b : ℕ) → a < b → p a < p b) → p 0 ≡ 0 → p 1 ≡ 4 → p 2 ≡ 8 → p leaf ≡ 6 → ⊥
not_six p zero rise first next last at = omega (arith, at, first)
not_six p (suc zero) rise first next last at = omega (arith, at, next)
not_six p (suc (suc zero)) rise first next last at = omega (arith, at, last)
not_six p (suc (suc (suc leaf))) rise first next last at = omega (arith, at, last, rise 2 (suc (suc (suc leaf))) (omega arith))

nothing_at : (leaf : ℕ) (past : Bool) → ((a b : ℕ) → a < b → place_of le32 worked_types 8 a < place_of le32 worked_types 8 b) → IsSpot le32 worked_types 8 1 2 4 (record { leaf = leaf; past = past }) → ⊥
nothing_at leaf true rise h =
    let at : 2 ≡ place_of le32 worked_types 8 leaf + 4 = h.at in
    omega (arith, at)
nothing_at leaf false rise h = not_two (place_of le32 worked_types 8) leaf rise refl refl (sym h.at)

pub returns-clause-between : goal.returns-clause-between
returns-clause-between c =
    let rise : (a b : ℕ) → a < b → place_of le32 worked_types 8 a < place_of le32 worked_types 8 b = λ a b. c.places_rise.ensures le32 worked_types 8 a b le32_is c.worked_types_are_types.ensures (lit< tt) in
    no_word (lit< tt) (λ word h.
    let n = h.by_address in
    let at : IsSpot le32 worked_types 8 1 2 4 h.spot = subst (λ (o : Root). IsSpot le32 worked_types o.ty o.count (18 - o.at) 4 h.spot) (sym (only_one object n.object h.number n.is_object)) n.names.spot_is in
    nothing_at h.spot.leaf h.spot.past rise at)

pub returns-clause-bad : goal.returns-clause-bad
returns-clause-bad c = λ address h.
    let one = only_named le32 worked_types worked_addresses worked_places 4 15 address (λ e. omega (arith, e)) (λ e. omega (arith, e)) h in
    let p = place_of ucf_layout worked_types 8 in
    let rise : (a b : ℕ) → a < b → p a < p b = λ a b. c.places_rise.ensures ucf_layout worked_types 8 a b ucf_is c.worked_types_are_types.ensures (lit< tt) in
    let word : 15 ≡ word_of worked_types copy one.spot = subst (λ o. 15 ≡ word_of worked_types o one.spot) (sym (only_one copy one.copy one.number one.is_copy)) one.word_is in
    let half : 7 ≡ 0 + p one.spot.leaf + 1 = (halves_one 7 (0 + p one.spot.leaf + 1) true one.spot.past word).0 in
    not_six p one.spot.leaf rise refl refl refl (omega (arith, half))
