-- The kinds stand first in each list of types.
use Rattle.std.proofs.Common.{◌≡◌, ℕ, zero, suc, ◌<◌, List, [], ◌∷◌, slice_get, Some, take, refl, arith, ap, sym, ◌∙◌}
use Rattle.porch_types.specs.declared.shapes.Kind.{Kind}
use Rattle.porch_types.specs.declared.shapes.Kind.TheVariants.{Char, UChar, Short, UShort, Int, UInt, Long, ULong}
use Rattle.porch_types.specs.declared.shapes.Ty.{Ty}
use Rattle.porch_types.specs.declared.shapes.Ty.TheVariants.{Whole}
use Rattle.porch_types.specs.Kinds.{kind_number}
use Rattle.porch_types.specs.Leaves.{kind_types}

get_taken : {A : Type 0} (n : ℕ) (xs : List A) (i : ℕ) → i < n → slice_get (take n xs) i ≡ slice_get xs i
get_taken zero xs i lt = absurd (omega arith)
get_taken (suc n) [] i lt = refl
get_taken (suc n) (x ∷ xs) zero lt = refl
get_taken (suc n) (x ∷ xs) (suc i) lt = get_taken n xs i (omega arith)

number_small : (kind : Kind) → kind_number kind < 8
number_small Char = omega arith
number_small UChar = omega arith
number_small Short = omega arith
number_small UShort = omega arith
number_small Int = omega arith
number_small UInt = omega arith
number_small Long = omega arith
number_small ULong = omega arith

kind_there : (kind : Kind) → slice_get kind_types (kind_number kind) ≡ Some (Whole kind)
kind_there Char = refl
kind_there UChar = refl
kind_there Short = refl
kind_there UShort = refl
kind_there Int = refl
kind_there UInt = refl
kind_there Long = refl
kind_there ULong = refl

pub kind_at : (types : List Ty) (kind : Kind) → take 8 types ≡ kind_types → slice_get types (kind_number kind) ≡ Some (Whole kind)
kind_at types kind first =
    sym (get_taken 8 types (kind_number kind) (number_small kind)) ∙ ap (λ ts. slice_get ts (kind_number kind)) first ∙ kind_there kind
