-- The one word of an address.
use Rattle.std.proofs.Common.{◌≡◌, ◌↔◌, ℕ, ◌<◌, List, slice_get, Some, refl, sym, subst, arith}
use Rattle.porch_types.specs.declared.shapes.Ty.{Ty}
use Rattle.porch_layout.specs.declared.layout.Layout.{Layout}
use Rattle.porch_find.specs.declared.roots.Root.{Root}
use Rattle.porch_points.specs.Plans.{IsPlan, dead_word}
use Rattle.porch_points.specs.Words.{NameOne, IsWordOf, null_word, spot_word, no_word}

-- nothing is named at 0
pub none_at_zero : (l : Layout) (types : List Ty) (addresses places : List Root) (pointee address word : ℕ) → IsPlan l types addresses places → NameOne l types addresses places pointee address word → 0 < address
none_at_zero l types addresses places pointee address word plan h =
    let n = h.by_address in
    omega (arith, plan.above h.number n.object n.is_object, n.names.begun)

zero_only : (l : Layout) (types : List Ty) (addresses places : List Root) (pointee address word : ℕ) → IsPlan l types addresses places → address ≡ 0 → IsWordOf l types addresses places pointee address word → 0 ≡ word
zero_only l types addresses places pointee address word plan zero null_word = refl
zero_only l types addresses places pointee address word plan zero (spot_word h) = absurd (omega (arith, zero, none_at_zero l types addresses places pointee address word plan h))
zero_only l types addresses places pointee address word plan zero (no_word some none) = absurd (omega (arith, zero, some))

pub zero_word : (l : Layout) (types : List Ty) (addresses places : List Root) (pointee address : ℕ) → IsPlan l types addresses places → address ≡ 0 → (word : ℕ) → (0 ≡ word) ↔ IsWordOf l types addresses places pointee address word
zero_word l types addresses places pointee address plan zero word = (
  λ e. subst (λ a. IsWordOf l types addresses places pointee a word) (sym zero) (subst (IsWordOf l types addresses places pointee 0) e null_word),
  zero_only l types addresses places pointee address word plan zero,
)

none_only : (l : Layout) (types : List Ty) (addresses places : List Root) (pointee address word : ℕ) → 0 < address → ((other : ℕ) → NameOne l types addresses places pointee address other → ⊥)
    → IsWordOf l types addresses places pointee address word → dead_word ≡ word
none_only l types addresses places pointee address word some none null_word = absurd (omega (arith, some))
none_only l types addresses places pointee address word some none (spot_word h) = absurd (none word h)
none_only l types addresses places pointee address word some none (no_word more nothing) = refl

pub dead_answers : (l : Layout) (types : List Ty) (addresses places : List Root) (pointee address : ℕ) → 0 < address → ((other : ℕ) → NameOne l types addresses places pointee address other → ⊥)
    → (word : ℕ) → (dead_word ≡ word) ↔ IsWordOf l types addresses places pointee address word
dead_answers l types addresses places pointee address some none word =
    (λ e. subst (IsWordOf l types addresses places pointee address) e (no_word some none), none_only l types addresses places pointee address word some none)

spot_only : (l : Layout) (types : List Ty) (addresses places : List Root) (pointee address own word : ℕ) → 0 < address → NameOne l types addresses places pointee address own → ((other : ℕ) → NameOne l types addresses places pointee address other → own ≡ other)
    → IsWordOf l types addresses places pointee address word → own ≡ word
spot_only l types addresses places pointee address own word some h one null_word = absurd (omega (arith, some))
spot_only l types addresses places pointee address own word some h one (spot_word x) = one word x
spot_only l types addresses places pointee address own word some h one (no_word more nothing) = absurd (nothing own h)

pub spot_answers : (l : Layout) (types : List Ty) (addresses places : List Root) (pointee address own : ℕ) → 0 < address → NameOne l types addresses places pointee address own → ((other : ℕ) → NameOne l types addresses places pointee address other → own ≡ other)
    → (word : ℕ) → (own ≡ word) ↔ IsWordOf l types addresses places pointee address word
spot_answers l types addresses places pointee address own some h one word =
    (λ e. subst (IsWordOf l types addresses places pointee address) e (spot_word h), spot_only l types addresses places pointee address own word some h one)

-- the copy of an object is of its type and count
pub copied : (l : Layout) (types : List Ty) (addresses places : List Root) (number : ℕ) (object copy : Root) (P : ℕ → ℕ → Type 0) → IsPlan l types addresses places → slice_get addresses number ≡ Some object → slice_get places number ≡ Some copy → P object.ty object.count → P copy.ty copy.count
copied l types addresses places number object copy P plan a b h = subst (λ (o : Root). P o.ty o.count) (sym (plan.same number object copy a b)) h
