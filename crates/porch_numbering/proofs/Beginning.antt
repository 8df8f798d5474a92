-- The kinds and void alone, with which a text begins.
use Rattle.std.proofs.Common.{◌≡◌, ℕ, zero, suc, [], refl, sym, ap, subst, ◌∙◌, arith, Some}
use Rattle.std.specs.Prelude.{slice_get}
use Rattle.std.specs.Option.{option_map_or}
use Rattle.porch_types.specs.declared.shapes.Kind.{Kind}
use Rattle.porch_types.specs.declared.shapes.Kind.TheVariants.{Char, UChar, Short, UShort, Int, UInt, Long, ULong}
use Rattle.porch_types.specs.Kinds.{kind_number}
use Rattle.porch_check.specs.Shapes.{Shape, void, pointer, array, structure, function, Member, Row, Shapes, row_of, leaves_of, size_of, members_of, first_shapes}
use Rattle.porch_check.specs.Shapes as shape
use Rattle.porch_typing.specs.Shapes.{IsShape}
use Rattle.porch_numbering.specs.Lasts.{IsMade, AreLast}

abbrev s : Shapes
s = first_shapes

-- a kind is one leaf
kind_made : (kind : Kind) → IsShape s (kind_number kind) (shape.whole kind) → leaves_of s (kind_number kind) ≡ Some 1 → IsMade s (kind_number kind) (kind_number kind)
kind_made kind is one =
    let size : size_of s (kind_number kind) ≡ 1 = ap (λ o. option_map_or (λ (k : ℕ). k) o 0) one in
    record { shape = shape.whole kind; is = is; leaves = one ∙ ap (λ n. Some n) (sym size); small = omega (arith, size); made = size }

kinds_here : (kind : Kind) → IsShape s (kind_number kind) (shape.whole kind) × (leaves_of s (kind_number kind) ≡ Some 1)
kinds_here Char = (refl, refl)
kinds_here UChar = (refl, refl)
kinds_here Short = (refl, refl)
kinds_here UShort = (refl, refl)
kinds_here Int = (refl, refl)
kinds_here UInt = (refl, refl)
kinds_here Long = (refl, refl)
kinds_here ULong = (refl, refl)

-- the list has each kind at its number
at_number : (i n : ℕ) → slice_get s.complete i ≡ Some n → (kind : Kind) × (i ≡ kind_number kind) × (n ≡ kind_number kind)
at_number zero n e = (Char, refl, cc)
at_number (suc zero) n e = (UChar, refl, cc)
at_number (suc (suc zero)) n e = (Short, refl, cc)
at_number (suc (suc (suc zero))) n e = (UShort, refl, cc)
at_number (suc (suc (suc (suc zero)))) n e = (Int, refl, cc)
at_number (suc (suc (suc (suc (suc zero))))) n e = (UInt, refl, cc)
at_number (suc (suc (suc (suc (suc (suc zero)))))) n e = (Long, refl, cc)
at_number (suc (suc (suc (suc (suc (suc (suc zero))))))) n e = (ULong, refl, cc)
at_number (suc (suc (suc (suc (suc (suc (suc (suc i)))))))) n e = absurd (cc)

-- a type that isn't void is a kind at its number
abbrev IsKindAt : ℕ → Shape → Type 0
IsKindAt n void = n ≡ 8
IsKindAt n (shape.whole kind) = n ≡ kind_number kind
IsKindAt n x = ⊥

shapes_here : (n : ℕ) (x : Shape) → IsShape s n x → IsKindAt n x
shapes_here zero x e = let same : shape.whole Char ≡ x = cc in subst (λ x. IsKindAt 0 x) same refl
shapes_here (suc zero) x e = let same : shape.whole UChar ≡ x = cc in subst (λ x. IsKindAt 1 x) same refl
shapes_here (suc (suc zero)) x e = let same : shape.whole Short ≡ x = cc in subst (λ x. IsKindAt 2 x) same refl
shapes_here (suc (suc (suc zero))) x e = let same : shape.whole UShort ≡ x = cc in subst (λ x. IsKindAt 3 x) same refl
shapes_here (suc (suc (suc (suc zero)))) x e = let same : shape.whole Int ≡ x = cc in subst (λ x. IsKindAt 4 x) same refl
shapes_here (suc (suc (suc (suc (suc zero))))) x e = let same : shape.whole UInt ≡ x = cc in subst (λ x. IsKindAt 5 x) same refl
shapes_here (suc (suc (suc (suc (suc (suc zero)))))) x e = let same : shape.whole Long ≡ x = cc in subst (λ x. IsKindAt 6 x) same refl
shapes_here (suc (suc (suc (suc (suc (suc (suc zero))))))) x e = let same : shape.whole ULong ≡ x = cc in subst (λ x. IsKindAt 7 x) same refl
shapes_here (suc (suc (suc (suc (suc (suc (suc (suc zero)))))))) x e = let same : void ≡ x = cc in subst (λ x. IsKindAt 8 x) same refl
shapes_here (suc (suc (suc (suc (suc (suc (suc (suc (suc n))))))))) x e = absurd (cc)

listed_here : (n k : ℕ) → leaves_of s n ≡ Some k → (i : ℕ) × (slice_get s.complete i ≡ Some n)
listed_here zero k e = (0, refl)
listed_here (suc zero) k e = (1, refl)
listed_here (suc (suc zero)) k e = (2, refl)
listed_here (suc (suc (suc zero))) k e = (3, refl)
listed_here (suc (suc (suc (suc zero)))) k e = (4, refl)
listed_here (suc (suc (suc (suc (suc zero))))) k e = (5, refl)
listed_here (suc (suc (suc (suc (suc (suc zero)))))) k e = (6, refl)
listed_here (suc (suc (suc (suc (suc (suc (suc zero))))))) k e = (7, refl)
listed_here (suc (suc (suc (suc (suc (suc (suc (suc zero)))))))) k e = absurd (cc)
listed_here (suc (suc (suc (suc (suc (suc (suc (suc (suc n))))))))) k e = absurd (cc)

made_here : (i n : ℕ) → slice_get s.complete i ≡ Some n → IsMade s i n
made_here i n e =
    let k = at_number i n e in
    let own = kinds_here k.0 in
    subst (λ i. IsMade s i n) (sym k.1) (subst (λ n. IsMade s (kind_number k.0) n) (sym k.2) (kind_made k.0 own.0 own.1))

pub first_are_last : AreLast first_shapes
first_are_last =
    record {
      first = ([], refl);
      few = omega arith;
      once = λ i j n a b. (let p = at_number i n a in let q = at_number j n b in p.1 ∙ sym p.2 ∙ q.2 ∙ sym q.1);
      listed = listed_here;
      made = made_here;
      kinds = kinds_here;
      wholes = λ n kind e. shapes_here n (shape.whole kind) e;
      pointers = λ n to e. absurd (shapes_here n (pointer to) e);
      places = λ n number i m e at. absurd (shapes_here n (structure number) e);
    }
