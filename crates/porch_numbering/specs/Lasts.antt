-- What holds of the types of a text when it has ended.
use Rattle.std.specs.Prelude.{ℕ, ◌≡◌, ◌<◌, ◌≤◌, ◌*◌, ◌^◌, List, ◌∷◌, length, map, take, slice_get, Some}
use Rattle.porch_types.specs.declared.shapes.Kind.{Kind}
use Rattle.porch_types.specs.Kinds.{kind_number}
use Rattle.porch_types.specs.Leaves.{MOST_LEAVES, leaves_together}
use Rattle.porch_check.specs.Shapes.{Shape, void, pointer, array, structure, function, Member, Shapes, leaves_of, size_of, members_of}
use Rattle.porch_check.specs.Shapes as shape
use Rattle.porch_typing.specs.Shapes.{Each, IsShape, AreOnce}

module _ (s : Shapes) where
  -- it became complete before the type of this place in the list
  abbrev pub IsEarlier : (place n : ℕ) → Type 0
  IsEarlier place n = (i : ℕ) × (i < place) × (slice_get s.complete i ≡ Some n)

  -- the types of a struct's members
  abbrev pub member_types : ℕ → List ℕ
  member_types n = map (λ (m : Member). m.shape) (members_of s n)

  -- a complete type has the leaves of what it is made of, which was complete before it
  abbrev pub IsMadeOf : (place n : ℕ) → Shape → Type 0
  IsMadeOf place n (shape.whole kind) = size_of s n ≡ 1
  IsMadeOf place n (pointer to) = size_of s n ≡ 1
  IsMadeOf place n (array of (Some count)) = IsEarlier place of × (0 < count) × (size_of s n ≡ count * size_of s of)
  IsMadeOf place n (structure number) =
      Each (IsEarlier place) (member_types n) × (0 < length (member_types n)) × (size_of s n ≡ leaves_together (size_of s) (member_types n))
  IsMadeOf place n x = ⊥

  pub record IsMade (place n : ℕ) : Type 0 where
    pub shape : Shape
    pub is : IsShape s n shape
    pub leaves : leaves_of s n ≡ Some (size_of s n)
    pub small : size_of s n ≤ MOST_LEAVES
    pub made : IsMadeOf place n shape

  pub record AreLast : Type 0 where
    pub first : (more : List ℕ) × (s.complete ≡ 0 ∷ 1 ∷ 2 ∷ 3 ∷ 4 ∷ 5 ∷ 6 ∷ 7 ∷ more)
    pub few : length s.complete ≤ 2 ^ 30
    pub once : AreOnce s
    pub listed : (n k : ℕ) → leaves_of s n ≡ Some k → (i : ℕ) × (slice_get s.complete i ≡ Some n)
    pub made : (i n : ℕ) → slice_get s.complete i ≡ Some n → IsMade i n
    pub kinds : (kind : Kind) → IsShape s (kind_number kind) (shape.whole kind) × (leaves_of s (kind_number kind) ≡ Some 1)
    pub wholes : (n : ℕ) (kind : Kind) → IsShape s n (shape.whole kind) → n ≡ kind_number kind
    pub pointers : (n to : ℕ) → IsShape s n (pointer to) → leaves_of s n ≡ Some 1
    -- members stand behind each other
    pub places : (n number i : ℕ) (m : Member) → IsShape s n (structure number) → slice_get (members_of s n) i ≡ Some m
        → m.leaf ≡ leaves_together (size_of s) (take i (member_types n))
