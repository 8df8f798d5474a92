-- The types behind a text's own: pointers.
use Rattle.std.proofs.Common.{◌≡◌, ◌≤◌, ℕ, zero, suc, List, [], ◌∷◌, ◌++◌, length, refl, sym, ◌∙◌, arith, append_assoc, append-nil, Option, Some, None}
use Rattle.porch_types.specs.declared.shapes.Ty.{Ty}
use Rattle.porch_types.specs.declared.shapes.Ty.TheVariants.{Pointer}
use Rattle.porch_check.specs.Sealing.{Sealed, pointer_in, with_pointer, with_pointers}
use Rattle.porch_typing.specs.Shapes.{Each}

abbrev pub IsPointerType : Ty → Type 0
IsPointerType t = (to : ℕ) × (t ≡ Pointer to)

pub record Adds (count : ℕ) (before after : List Ty) : Type 0 where
  pub more : List Ty
  pub is : after ≡ before ++ more
  pub pointers : Each IsPointerType more
  pub few : length more ≤ count

pub pointers_added : (count to : ℕ) (own : List Ty) (x : Sealed) → Adds count x.types (with_pointers count to own x).types
pointers_added zero to own x = record { more = []; is = sym (append-nil x.types); pointers = tt; few = omega arith }
pointers_added (suc n) to own x = by (pointer_in to own 0) (λ o. pointers_added n (suc to) own (with_pointer o to x))
  where
    by : (o : Option ℕ) → ((o : Option ℕ) → Adds n (with_pointer o to x).types (with_pointers n (suc to) own (with_pointer o to x)).types)
        → Adds (suc n) x.types (with_pointers n (suc to) own (with_pointer o to x)).types
    by (Some k) rest = (let r = rest (Some k) in let few = r.few in record { more = r.more; is = r.is; pointers = r.pointers; few = omega (arith, few) })
    by None rest =
        (let r = rest None in let few = r.few in
        record {
          more = Pointer to ∷ r.more;
          is = r.is ∙ append_assoc x.types (Pointer to ∷ []) r.more;
          pointers = ((to, refl), r.pointers);
          few = omega (arith, few);
        })
