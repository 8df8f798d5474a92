-- The worked list of types is one, and the layouts that it is measured under are layouts.
use Rattle.std.proofs.Common.{◌≡◌, ℕ, zero, suc, ◌<◌, ◌≤◌, [], ◌∷◌, get_or, slice_get, Option, Some, None, refl, subst, inl, inr, lit<, lit≤, arith}
use Rattle.porch_types.specs.declared.shapes.Kind.{Kind}
use Rattle.porch_types.specs.declared.shapes.Kind.TheVariants.{Char, UChar, Short, UShort, Int, UInt, Long, ULong}
use Rattle.porch_types.specs.declared.shapes.Ty.{Ty}
use Rattle.porch_types.specs.declared.shapes.Ty.TheVariants.{Whole, Array, Struct}
use Rattle.porch_types.specs.Leaves.{IsFormed, IsTypes, leaves_of, MOST_LEAVES}
use Rattle.porch_layout.specs.Layouts.{IsLayout, le32, le64}
use Rattle.porch_find.specs.Worked.{worked_types}

abbrev OnTy : (Ty → Type 0) → Option Ty → Type 0
OnTy P None = ⊥
OnTy P (Some ty) = P ty

taken : (n : ℕ) (t ty : Ty) → IsFormed worked_types n t → Some t ≡ Some ty → IsFormed worked_types n ty
taken n t ty h e = subst (OnTy (IsFormed worked_types n)) e h

whole : (n : ℕ) (kind : Kind) → leaves_of worked_types n ≤ MOST_LEAVES → IsFormed worked_types n (Whole kind)
whole n kind small = record { earlier = λ k d lt. absurd (omega (arith, lt)); occupied = omega arith; small = small }

ints_parts : (k d : ℕ) → k < 1 → get_or (4 ∷ []) k d < 8
ints_parts zero d lt = lit< tt
ints_parts (suc k) d lt = absurd (omega (arith, lt))

struct_parts : (k d : ℕ) → k < 3 → get_or (4 ∷ 6 ∷ 8 ∷ []) k d < 9
struct_parts zero d lt = lit< tt
struct_parts (suc zero) d lt = lit< tt
struct_parts (suc (suc zero)) d lt = lit< tt
struct_parts (suc (suc (suc k))) d lt = absurd (omega (arith, lt))

structs_parts : (k d : ℕ) → k < 1 → get_or (9 ∷ []) k d < 10
structs_parts zero d lt = lit< tt
structs_parts (suc k) d lt = absurd (omega (arith, lt))

each : (n : ℕ) (ty : Ty) → slice_get worked_types n ≡ Some ty → IsFormed worked_types n ty
each zero ty e = taken 0 (Whole Char) ty (whole 0 Char (lit≤ tt)) e
each (suc zero) ty e = taken 1 (Whole UChar) ty (whole 1 UChar (lit≤ tt)) e
each (suc (suc zero)) ty e = taken 2 (Whole Short) ty (whole 2 Short (lit≤ tt)) e
each (suc (suc (suc zero))) ty e = taken 3 (Whole UShort) ty (whole 3 UShort (lit≤ tt)) e
each (suc (suc (suc (suc zero)))) ty e = taken 4 (Whole Int) ty (whole 4 Int (lit≤ tt)) e
each (suc (suc (suc (suc (suc zero))))) ty e = taken 5 (Whole UInt) ty (whole 5 UInt (lit≤ tt)) e
each (suc (suc (suc (suc (suc (suc zero)))))) ty e = taken 6 (Whole Long) ty (whole 6 Long (lit≤ tt)) e
each (suc (suc (suc (suc (suc (suc (suc zero))))))) ty e = taken 7 (Whole ULong) ty (whole 7 ULong (lit≤ tt)) e
each (suc (suc (suc (suc (suc (suc (suc (suc zero)))))))) ty e =
    taken 8 (Array 4 3) ty (record { earlier = ints_parts; occupied = lit< tt; small = lit≤ tt }) e
each (suc (suc (suc (suc (suc (suc (suc (suc (suc zero))))))))) ty e =
    taken 9 (Struct (4 ∷ 6 ∷ 8 ∷ [])) ty (record { earlier = struct_parts; occupied = lit< tt; small = lit≤ tt }) e
each (suc (suc (suc (suc (suc (suc (suc (suc (suc (suc zero)))))))))) ty e =
    taken 10 (Array 9 2) ty (record { earlier = structs_parts; occupied = lit< tt; small = lit≤ tt }) e
each (suc (suc (suc (suc (suc (suc (suc (suc (suc (suc (suc n))))))))))) ty e = absurd (cc)

pub are_types : IsTypes worked_types
are_types = record { kinds = refl; few = lit≤ tt; formed = record { each = each } }

pub le32_is : IsLayout le32
le32_is = record {
  long = inl refl;
  pointer = inl refl;
  align_short = record { alignment = inr (inl refl); within = lit≤ tt };
  align_int = record { alignment = inr (inr (inl refl)); within = lit≤ tt };
  align_long = record { alignment = inr (inr (inl refl)); within = lit≤ tt };
  align_pointer = record { alignment = inr (inr (inl refl)); within = lit≤ tt };
  least_struct = record { alignment = inl refl; within = lit≤ tt };
}

pub le64_is : IsLayout le64
le64_is = record {
  long = inr refl;
  pointer = inr refl;
  align_short = record { alignment = inr (inl refl); within = lit≤ tt };
  align_int = record { alignment = inr (inr (inl refl)); within = lit≤ tt };
  align_long = record { alignment = inr (inr (inr refl)); within = lit≤ tt };
  align_pointer = record { alignment = inr (inr (inr refl)); within = lit≤ tt };
  least_struct = record { alignment = inl refl; within = lit≤ tt };
}
