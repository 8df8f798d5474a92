-- What a place names, by the last object that begins at or before it.
use Rattle.std.proofs.Common.{◌≡◌, ◌↔◌, ℕ, ◌+◌, ◌-◌, ◌*◌, ◌<◌, ◌≤◌, Bool, true, false, List, length, slice_get, Option, Some, None, refl, ap, sym, ◌∙◌, subst, if◌then◌else◌, arith}
use Rattle.porch_types.specs.declared.shapes.Ty.{Ty}
use Rattle.porch_types.specs.Rows.{IsSubobject}
use Rattle.porch_layout.specs.declared.layout.Layout.{Layout}
use Rattle.porch_metrics.specs.Extents.{extent_of}
use Rattle.porch_metrics.specs.Places.{place_of}
use Rattle.porch_find.specs.declared.roots.Root.{Root}
use Rattle.porch_find.specs.declared.spot.Spot.{Spot}
use Rattle.porch_find.specs.Roots.{IsLastAt}
use Rattle.porch_find.specs.Spots.{IsSpot}
use Rattle.porch_points.specs.Plans.{AreKnown, FollowOn, LieApart, end_of}
use Rattle.porch_points.specs.Words.{NamesIn, NamesSpot}

value_in : {A : Type 0} → A → Option A → A
value_in d None = d
value_in d (Some x) = x

pub some_one : {A : Type 0} (a b : A) → Some a ≡ Some b → a ≡ b
unfolding value_in
some_one a b e = ap (value_in a) e

pub none_some : {A : Type 0} (a : A) → None ≡ Some a → ⊥
none_some a e = cc

-- subobjects end in their objects
abbrev pub EndInside : Layout → List Ty → Type 0
EndInside l types = (root count pointee leaf : ℕ) → root < length types → IsSubobject types root count leaf pointee
    → place_of l types root leaf + (extent_of l types pointee).size ≤ count * (extent_of l types root).size

sub_at : (l : Layout) (types : List Ty) (root count byte pointee leaf : ℕ) (past : Bool) → IsSpot l types root count byte pointee (record { leaf = leaf; past = past }) → IsSubobject types root count leaf pointee
sub_at l types root count byte pointee leaf true h = (h.is.row, h.is.is)
sub_at l types root count byte pointee leaf false h = h.is

-- a spot is one of a subobject
pub spot_sub : (l : Layout) (types : List Ty) (root count byte pointee : ℕ) (spot : Spot) → IsSpot l types root count byte pointee spot → IsSubobject types root count spot.leaf pointee
spot_sub l types root count byte pointee spot h = sub_at l types root count byte pointee spot.leaf spot.past h

byte_at : (l : Layout) (types : List Ty) (root count byte pointee leaf : ℕ) (past : Bool) → EndInside l types → root < length types → IsSpot l types root count byte pointee (record { leaf = leaf; past = past }) → byte ≤ count * (extent_of l types root).size
byte_at l types root count byte pointee leaf true law known h = omega (arith, h.at, law root count pointee leaf known (h.is.row, h.is.is))
byte_at l types root count byte pointee leaf false law known h = omega (arith, h.at, law root count pointee leaf known h.is)

-- and lies at or before the end of its object
pub spot_inside : (l : Layout) (types : List Ty) (object : Root) (pointee place : ℕ) (spot : Spot) → EndInside l types → object.ty < length types → NamesIn l types object pointee place spot → place ≤ end_of l types object
spot_inside l types object pointee place spot law known h =
    omega (arith, h.begun, byte_at l types object.ty object.count (place - object.at) pointee spot.leaf spot.past law known h.spot_is)

-- the object that is named is the last one that begins at or before the place
pub named_last : (l : Layout) (types : List Ty) (objects : List Root) (pointee place number : ℕ) (spot : Spot) → EndInside l types → AreKnown types objects → LieApart l types objects
    → NamesSpot l types objects pointee place number spot → IsLastAt objects place number
named_last l types objects pointee place number spot law known apart h =
    let inside = spot_inside l types h.object pointee place spot law (known number h.object h.is_object) h.names in
    record {
      root = h.object;
      is = h.is_object;
      begun = h.names.begun;
      last = λ j other is le.
          let not_later : number < j → ⊥ = λ lt. omega (arith, apart number j h.object other lt h.is_object is, inside, le) in
          omega (arith, not_later);
    }

-- so the object that is found is the one that is named
pub record IsFoundIn (l : Layout) (types : List Ty) (object : Root) (pointee place k number : ℕ) (spot : Spot) : Type 0 where
  pub number_is : k ≡ number
  pub spot_is : IsSpot l types object.ty object.count (place - object.at) pointee spot

pub found_in : (l : Layout) (types : List Ty) (objects : List Root) (object : Root) (pointee place k number : ℕ) (spot : Spot) → ((i : ℕ) → (Some k ≡ Some i) ↔ IsLastAt objects place i) → slice_get objects k ≡ Some object
    → NamesSpot l types objects pointee place number spot → IsLastAt objects place number → IsFoundIn l types object pointee place k number spot
found_in l types objects object pointee place k number spot last at h is =
    let same : k ≡ number = some_one k number ((last number).1 is) in
    let one : object ≡ h.object = some_one object h.object (sym at ∙ ap (slice_get objects) same ∙ h.is_object) in
    record {
      number_is = same;
      spot_is = subst (λ (o : Root). IsSpot l types o.ty o.count (place - o.at) pointee spot) (sym one) h.names.spot_is;
    }

-- the last object begins at or before the place
pub begins_before : (objects : List Root) (object : Root) (place k : ℕ) → slice_get objects k ≡ Some object → IsLastAt objects place k → object.at ≤ place
begins_before objects object place k at is =
    let one : object ≡ is.root = some_one object is.root (sym at ∙ is.is) in
    omega (arith, ap (λ (o : Root). o.at) one, is.begun)

-- a beginning lies before the end of its object
pub begin_inside : (l : Layout) (types : List Ty) (object : Root) (pointee place leaf : ℕ) → EndInside l types → 0 < (extent_of l types pointee).size → object.ty < length types
    → NamesIn l types object pointee place (record { leaf = leaf; past = false }) → place < end_of l types object
begin_inside l types object pointee place leaf law some known h =
    omega (arith, h.begun, h.spot_is.at, law object.ty object.count pointee leaf known h.spot_is.is, some)

-- so the object that holds it is the last one that begins at or before it
pub begun_last : (l : Layout) (types : List Ty) (objects : List Root) (pointee place number leaf : ℕ) → EndInside l types → 0 < (extent_of l types pointee).size → AreKnown types objects → FollowOn l types objects
    → NamesSpot l types objects pointee place number (record { leaf = leaf; past = false }) → IsLastAt objects place number
begun_last l types objects pointee place number leaf law some known follow h =
    let inside = begin_inside l types h.object pointee place leaf law some (known number h.object h.is_object) h.names in
    record {
      root = h.object;
      is = h.is_object;
      begun = h.names.begun;
      last = λ j other is le.
          let not_later : number < j → ⊥ = λ lt. omega (arith, follow number j h.object other lt h.is_object is, inside, le) in
          omega (arith, not_later);
    }

pub not_past : (a b : Spot) → a ≡ b → a.past ≡ true → b.past ≡ false → ⊥
not_past a b e was is =
    let same : true ≡ false = sym was ∙ ap (λ (s : Spot). s.past) e ∙ is in
    cc

pub as_begun : (l : Layout) (types : List Ty) (root count byte pointee : ℕ) (spot : Spot) → spot.past ≡ false → IsSpot l types root count byte pointee spot → IsSpot l types root count byte pointee (record { leaf = spot.leaf; past = false })
as_begun l types root count byte pointee spot e h = subst (λ b. IsSpot l types root count byte pointee (record { leaf = spot.leaf; past = b })) e h

-- a number is twice one number and a bit in one way
pub halves_one : (a c : ℕ) (b d : Bool) → 2 * a + (if b then 1 else 0) ≡ 2 * c + (if d then 1 else 0) → (a ≡ c) × (b ≡ d)
halves_one a c true true e = (omega (arith, e), refl)
halves_one a c true false e = absurd (omega (arith, e))
halves_one a c false true e = absurd (omega (arith, e))
halves_one a c false false e = (omega (arith, e), refl)
