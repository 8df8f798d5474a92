-- The one address of a word.
use Rattle.std.proofs.Common.{◌≡◌, ◌↔◌, ℕ, ◌+◌, ◌-◌, ◌*◌, ◌/◌, ◌<◌, ◌≤◌, Bool, true, false, List, length, get_or, slice_get, Some, Result, Ok, Err, refl, ap, sym, ◌∙◌, subst, if◌then◌else◌, arith}
use Rattle.std.proofs.lemmas.Option.{slice_get-get_or, slice_get_within}
use Rattle.porch_types.specs.declared.shapes.Ty.{Ty}
use Rattle.porch_types.specs.Rows.{IsSubobject}
use Rattle.porch_layout.specs.declared.layout.Layout.{Layout}
use Rattle.porch_metrics.specs.Extents.{ucf_layout}
use Rattle.porch_metrics.specs.Places.{place_of}
use Rattle.porch_find.specs.declared.roots.Root.{Root}
use Rattle.porch_points.specs.declared.addresses.BadWord.{BadWord}
use Rattle.porch_points.specs.Plans.{AreKnown, IsPlan, dead_word}
use Rattle.porch_points.specs.Words.{NamesIn, NamesSpot, NameOne, IsAddressOf, null_address, spot_address, dead_address, word_of}
use Rattle.porch_points.proofs.Naming.{EndInside, halves_one, spot_sub}
use Rattle.porch_points.proofs.Wording.{copied}

-- what is so of the type and count of a copy is so of its object
pub original : (l : Layout) (types : List Ty) (addresses places : List Root) (number : ℕ) (object copy : Root) (P : ℕ → ℕ → Type 0) → IsPlan l types addresses places → slice_get addresses number ≡ Some object → slice_get places number ≡ Some copy → P copy.ty copy.count → P object.ty object.count
original l types addresses places number object copy P plan a b h = subst (λ (o : Root). P o.ty o.count) (plan.same number object copy a b) h

pub places_known : (l : Layout) (types : List Ty) (addresses places : List Root) → IsPlan l types addresses places → AreKnown types places
places_known l types addresses places plan i copy at =
    let none : Root = record { at = 0; ty = 0; count = 0 } in
    let there : i < length addresses = omega (arith, plan.alike, slice_get_within places i copy at) in
    let is : slice_get addresses i ≡ Some (get_or addresses i none) = slice_get-get_or addresses i none there in
    copied l types addresses places i (get_or addresses i none) copy (λ ty count. ty < length types) plan is at (plan.known i (get_or addresses i none) is)

-- the place of a word names the beginning of what the word names
pub place_named : (l : Layout) (types : List Ty) (addresses places : List Root) (pointee address word : ℕ) (odd : Bool) → IsPlan l types addresses places → word ≡ 2 * (word / 2) + (if odd then 1 else 0)
    → (h : NameOne l types addresses places pointee address word) → NamesSpot ucf_layout types places pointee (word / 2 - 1) h.number (record { leaf = h.spot.leaf; past = false })
place_named l types addresses places pointee address word odd plan is h =
    let n = h.by_address in
    let copy = h.copy in
    let p = place_of ucf_layout types copy.ty h.spot.leaf in
    let half : word / 2 ≡ copy.at + p + 1 = (halves_one (word / 2) (copy.at + p + 1) odd h.spot.past (sym is ∙ h.word_is)).0 in
    record {
      object = copy;
      is_object = h.is_copy;
      names = record {
        begun = omega (arith, half);
        spot_is = record {
          is = copied l types addresses places h.number n.object copy (λ ty count. IsSubobject types ty count h.spot.leaf pointee) plan n.is_object h.is_copy (spot_sub l types n.object.ty n.object.count (address - n.object.at) pointee h.spot n.names.spot_is);
          at = omega (arith, half);
        };
      };
    }

pub odd_named : (l : Layout) (types : List Ty) (addresses places : List Root) (pointee address word : ℕ) (odd : Bool) → word ≡ 2 * (word / 2) + (if odd then 1 else 0)
    → (h : NameOne l types addresses places pointee address word) → odd ≡ h.spot.past
odd_named l types addresses places pointee address word odd is h =
    (halves_one (word / 2) (h.copy.at + place_of ucf_layout types h.copy.ty h.spot.leaf + 1) odd h.spot.past (sym is ∙ h.word_is)).1

half_some : (w h : ℕ) (b : Bool) → w ≡ 2 * h + (if b then 1 else 0) → 2 ≤ w → 1 ≤ h
half_some w h true e le = omega (arith, e, le)
half_some w h false e le = omega (arith, e, le)

-- a word is made of the place that it has
pub word_back : (types : List Ty) (copy : Root) (word pointee leaf : ℕ) (odd : Bool) → 2 ≤ word → word ≡ 2 * (word / 2) + (if odd then 1 else 0) → NamesIn ucf_layout types copy pointee (word / 2 - 1) (record { leaf = leaf; past = false })
    → word ≡ word_of types copy (record { leaf = leaf; past = odd })
word_back types copy word pointee leaf odd some is h =
    let half : word / 2 ≡ copy.at + place_of ucf_layout types copy.ty leaf + 1 = omega (arith, h.begun, h.spot_is.at, half_some word (word / 2) odd is some) in
    is ∙ ap (λ x. 2 * x + (if odd then 1 else 0)) half

bit_small : (b : Bool) → (if b then 1 else 0) ≤ 1
bit_small true = omega arith
bit_small false = omega arith

named_two : (l : Layout) (types : List Ty) (addresses places : List Root) (pointee address word : ℕ) → NameOne l types addresses places pointee address word → 2 ≤ word
named_two l types addresses places pointee address word h = omega (arith, h.word_is)

named_small : (l : Layout) (types : List Ty) (addresses places : List Root) (pointee address word : ℕ) → EndInside ucf_layout types → IsPlan l types addresses places → NameOne l types addresses places pointee address word → word < dead_word
named_small l types addresses places pointee address word law plan h =
    let n = h.by_address in
    let sub : IsSubobject types h.copy.ty h.copy.count h.spot.leaf pointee =
    copied l types addresses places h.number n.object h.copy (λ ty count. IsSubobject types ty count h.spot.leaf pointee) plan n.is_object h.is_copy (spot_sub l types n.object.ty n.object.count (address - n.object.at) pointee h.spot n.names.spot_is) in
    let inside = law h.copy.ty h.copy.count pointee h.spot.leaf (places_known l types addresses places plan h.number h.copy h.is_copy) sub in
    omega (arith, h.word_is, bit_small h.spot.past, inside, plan.data_ends h.number h.copy h.is_copy)

abbrev pub ok_at : ℕ → Result ℕ BadWord
ok_at address = Ok address

abbrev pub bad : Result ℕ BadWord
bad = Err (record {})

address_in : ℕ → Result ℕ BadWord → ℕ
address_in d (Ok x) = x
address_in d (Err e) = d

pub ok_one : (a b : ℕ) → ok_at a ≡ ok_at b → a ≡ b
unfolding address_in
ok_one a b e = ap (address_in a) e

pub not_bad : (a : ℕ) → bad ≡ ok_at a → ⊥
not_bad a e = cc

abbrev Answers : Layout → List Ty → List Root → List Root → ℕ → ℕ → ℕ → Type 0
Answers l types addresses places pointee word own = (address : ℕ) → (ok_at own ≡ ok_at address) ↔ IsAddressOf l types addresses places pointee word address

zero_only : (l : Layout) (types : List Ty) (addresses places : List Root) (pointee word address : ℕ) → word ≡ 0 → IsAddressOf l types addresses places pointee word address → 0 ≡ address
zero_only l types addresses places pointee word address zero null_address = refl
zero_only l types addresses places pointee word address zero (spot_address h) = absurd (omega (arith, zero, named_two l types addresses places pointee address word h))
zero_only l types addresses places pointee word address zero dead_address = absurd (omega (arith, zero))

pub zero_answers : (l : Layout) (types : List Ty) (addresses places : List Root) (pointee word : ℕ) → word ≡ 0 → Answers l types addresses places pointee word 0
zero_answers l types addresses places pointee word zero address = (
  λ e. subst (λ w. IsAddressOf l types addresses places pointee w address) (sym zero) (subst (IsAddressOf l types addresses places pointee 0) (ok_one 0 address e) null_address),
  λ h. ap ok_at (zero_only l types addresses places pointee word address zero h),
)

dead_only : (l : Layout) (types : List Ty) (addresses places : List Root) (pointee word address : ℕ) → EndInside ucf_layout types → IsPlan l types addresses places → word ≡ dead_word → IsAddressOf l types addresses places pointee word address → dead_word ≡ address
dead_only l types addresses places pointee word address law plan dead null_address = absurd (omega (arith, dead))
dead_only l types addresses places pointee word address law plan dead (spot_address h) = absurd (omega (arith, dead, named_small l types addresses places pointee address word law plan h))
dead_only l types addresses places pointee word address law plan dead dead_address = refl

pub dead_answers : (l : Layout) (types : List Ty) (addresses places : List Root) (pointee word : ℕ) → EndInside ucf_layout types → IsPlan l types addresses places → word ≡ dead_word → Answers l types addresses places pointee word dead_word
dead_answers l types addresses places pointee word law plan dead address = (
  λ e. subst (λ w. IsAddressOf l types addresses places pointee w address) (sym dead) (subst (IsAddressOf l types addresses places pointee dead_word) (ok_one dead_word address e) dead_address),
  λ h. ap ok_at (dead_only l types addresses places pointee word address law plan dead h),
)

-- a word that is neither null nor dead has an address only where it names one
pub only_named : (l : Layout) (types : List Ty) (addresses places : List Root) (pointee word address : ℕ) → (word ≡ 0 → ⊥) → (word ≡ dead_word → ⊥) → IsAddressOf l types addresses places pointee word address → NameOne l types addresses places pointee address word
only_named l types addresses places pointee word address some live null_address = absurd (some refl)
only_named l types addresses places pointee word address some live (spot_address h) = h
only_named l types addresses places pointee word address some live dead_address = absurd (live refl)

pub one_names_none : (l : Layout) (types : List Ty) (addresses places : List Root) (pointee word address : ℕ) → word ≡ 1 → (word ≡ 0 → ⊥) → (word ≡ dead_word → ⊥) → IsAddressOf l types addresses places pointee word address → ⊥
one_names_none l types addresses places pointee word address one some live h = omega (arith, one, named_two l types addresses places pointee address word (only_named l types addresses places pointee word address some live h))
