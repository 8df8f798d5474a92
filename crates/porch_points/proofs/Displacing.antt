-- What a word names in the data alone.
use Rattle.std.proofs.Common.{◌≡◌, ◌↔◌, ℕ, ◌+◌, ◌-◌, ◌*◌, ◌/◌, ◌≤◌, Bool, true, false, List, slice_get, Some, MatchBool, refl, ap, sym, ◌∙◌, subst, if◌then◌else◌, arith}
use Rattle.porch_types.specs.declared.shapes.Ty.{Ty}
use Rattle.porch_types.specs.Rows.{IsSubobject}
use Rattle.porch_metrics.specs.Extents.{ucf_layout}
use Rattle.porch_metrics.specs.Places.{place_of}
use Rattle.porch_find.specs.declared.roots.Root.{Root}
use Rattle.porch_find.specs.Spots.{IsRowEnd}
use Rattle.porch_points.specs.declared.named.Begun.{Begun}
use Rattle.porch_points.specs.Plans.{dead_word}
use Rattle.porch_points.specs.Words.{NamesIn, NamesSpot}
use Rattle.porch_points.specs.Displacements.{NamesSpotOf, IsDisplacement, null, dead, spot}
use Rattle.porch_points.proofs.Naming.{halves_one, some_one}
use Rattle.porch_points.proofs.Addressing.{word_back}

abbrev SpotAt : List Ty → Root → ℕ → ℕ → Bool → Type 0
SpotAt types object pointee leaf past = MatchBool past (IsRowEnd types object.ty object.count pointee leaf) (IsSubobject types object.ty object.count leaf pointee)

sub_at : (types : List Ty) (object : Root) (pointee leaf : ℕ) (past : Bool) → SpotAt types object pointee leaf past → IsSubobject types object.ty object.count leaf pointee
sub_at types object pointee leaf true h = (h.row, h.is)
sub_at types object pointee leaf false h = h

half_of : (types : List Ty) (places : List Root) (pointee word : ℕ) (odd : Bool) → word ≡ 2 * (word / 2) + (if odd then 1 else 0) → (h : NamesSpotOf types places pointee word)
    → (word / 2 ≡ h.object.at + place_of ucf_layout types h.object.ty h.spot.leaf + 1) × (odd ≡ h.spot.past)
half_of types places pointee word odd is h =
    halves_one (word / 2) (h.object.at + place_of ucf_layout types h.object.ty h.spot.leaf + 1) odd h.spot.past (sym is ∙ h.word_is)

-- the place of a word names the beginning of what the word names
pub begun_of : (types : List Ty) (places : List Root) (pointee word : ℕ) (odd : Bool) → word ≡ 2 * (word / 2) + (if odd then 1 else 0) → (h : NamesSpotOf types places pointee word)
    → NamesSpot ucf_layout types places pointee (word / 2 - 1) h.number (record { leaf = h.spot.leaf; past = false })
begun_of types places pointee word odd is h =
    let p = place_of ucf_layout types h.object.ty h.spot.leaf in
    let half : word / 2 ≡ h.object.at + p + 1 = (half_of types places pointee word odd is h).0 in
    record {
      object = h.object;
      is_object = h.is_object;
      names = record {
        begun = omega (arith, half);
        spot_is = record { is = sub_at types h.object pointee h.spot.leaf h.spot.past h.is_spot; at = omega (arith, half) };
      };
    }

-- the beginning that was found, and what the bit says of it
module _ (types : List Ty) (places : List Root) (pointee word : ℕ) (odd : Bool) (is : word ≡ 2 * (word / 2) + (if odd then 1 else 0)) (begun : Begun) (object : Root)
    (at : slice_get places begun.number ≡ Some object)
    (found : (number leaf : ℕ) → (let b : Begun = record { number = number; leaf = leaf } in Some begun ≡ Some b) ↔ NamesSpot ucf_layout types places pointee (word / 2 - 1) number (record { leaf = leaf; past = false })) where
  here : NamesSpot ucf_layout types places pointee (word / 2 - 1) begun.number (record { leaf = begun.leaf; past = false })
  here = (found begun.number begun.leaf).0 refl

  one : here.object ≡ object
  one = some_one here.object object (sym here.is_object ∙ at)

  in_object : NamesIn ucf_layout types object pointee (word / 2 - 1) (record { leaf = begun.leaf; past = false })
  in_object = subst (λ o. NamesIn ucf_layout types o pointee (word / 2 - 1) (record { leaf = begun.leaf; past = false })) one here.names

  pub sub_found : IsSubobject types object.ty object.count begun.leaf pointee
  sub_found = in_object.spot_is.is

  -- the spot of that bit is what the word names
  pub named : 2 ≤ word → SpotAt types object pointee begun.leaf odd → NamesSpotOf types places pointee word
  named some is_spot =
      record {
        number = begun.number;
        object = object;
        spot = record { leaf = begun.leaf; past = odd };
        is_object = at;
        is_spot = is_spot;
        word_is = word_back types object word pointee begun.leaf odd some is in_object;
      }

  -- and nothing else is
  pub only : NamesSpotOf types places pointee word → SpotAt types object pointee begun.leaf odd
  only h =
      let same : begun ≡ record { number = h.number; leaf = h.spot.leaf } = some_one begun (record { number = h.number; leaf = h.spot.leaf }) ((found h.number h.spot.leaf).1 (begun_of types places pointee word odd is h)) in
      let number : begun.number ≡ h.number = ap (λ (b : Begun). b.number) same in
      let leaf : begun.leaf ≡ h.spot.leaf = ap (λ (b : Begun). b.leaf) same in
      let object_is : h.object ≡ object = some_one h.object object (sym h.is_object ∙ ap (slice_get places) (sym number) ∙ at) in
      let past : odd ≡ h.spot.past = (half_of types places pointee word odd is h).1 in
      subst (λ b. SpotAt types object pointee begun.leaf b) (sym past)
      (subst (λ l. SpotAt types object pointee l h.spot.past) (sym leaf)
      (subst (λ o. SpotAt types o pointee h.spot.leaf h.spot.past) object_is h.is_spot))

pub at_end : (types : List Ty) (object : Root) (pointee leaf : ℕ) (past : Bool) → past ≡ true → IsRowEnd types object.ty object.count pointee leaf → SpotAt types object pointee leaf past
at_end types object pointee leaf true e h = h
at_end types object pointee leaf false e h = cc

pub end_at : (types : List Ty) (object : Root) (pointee leaf : ℕ) (past : Bool) → past ≡ true → SpotAt types object pointee leaf past → IsRowEnd types object.ty object.count pointee leaf
end_at types object pointee leaf true e h = h
end_at types object pointee leaf false e h = cc

pub at_begin : (types : List Ty) (object : Root) (pointee leaf : ℕ) (past : Bool) → past ≡ false → IsSubobject types object.ty object.count leaf pointee → SpotAt types object pointee leaf past
at_begin types object pointee leaf false e h = h
at_begin types object pointee leaf true e h = cc

-- a word that is neither null nor dead has to name a spot
pub has_to_name : (types : List Ty) (places : List Root) (pointee word : ℕ) → (word ≡ 0 → ⊥) → (word ≡ dead_word → ⊥) → IsDisplacement types places pointee word → NamesSpotOf types places pointee word
has_to_name types places pointee word some live null = absurd (some refl)
has_to_name types places pointee word some live dead = absurd (live refl)
has_to_name types places pointee word some live (spot h) = h

pub two_at_least : (types : List Ty) (places : List Root) (pointee word : ℕ) → NamesSpotOf types places pointee word → 2 ≤ word
two_at_least types places pointee word h = omega (arith, h.word_is)
