-- A value of a type is one where further objects were made.
use Rattle.std.proofs.Common.{◌≡◌, ℕ, zero, suc, List, [], ◌∷◌, ◌++◌, refl, ap, ◌∙◌, Option, Some, None}
use Rattle.std.specs.Prelude.{slice_get, slice_index_or}
use Rattle.porch_types.specs.declared.shapes.Ty.{Ty}
use Rattle.porch_values.specs.declared.widths.Widths.{Widths}
use Rattle.porch_objects.specs.Store.{Home, of_global, of_call, of_block, Value, number, null, pointer, past, indeterminate, Root}
use Rattle.porch_sound.specs.Typing.{StoreTyping, one_root, root_of, Adds, Points, IsValueOf}

get_longer : (xs more : List Root) (i : ℕ) (x : Root) → slice_get xs i ≡ Some x → slice_get (xs ++ more) i ≡ Some x
get_longer [] more i x e = cc
get_longer (y ∷ xs) more zero x e = e
get_longer (y ∷ xs) more (suc i) x e = get_longer xs more i x e

within_longer : (xs more : List (List ℕ)) (i v ty : ℕ) → slice_get (slice_index_or xs i []) v ≡ Some ty → slice_get (slice_index_or (xs ++ more) i []) v ≡ Some ty
within_longer [] more i v ty e = cc
within_longer (x ∷ xs) more zero v ty e = e
within_longer (x ∷ xs) more (suc i) v ty e = within_longer xs more i v ty e

by_one : (a b : Option ℕ) (root : Root) → ((ty : ℕ) → a ≡ Some ty → b ≡ Some ty) → one_root a ≡ Some root → one_root b ≡ Some root
by_one None b root k e = cc
by_one (Some ty) b root k e = ap (λ x. one_root x) (k ty refl) ∙ e

roots_stay : (made later : StoreTyping) → Adds made later → (home : Home) (root : Root) → root_of made home ≡ Some root → root_of later home ≡ Some root
roots_stay made later adds (of_global g) root e = ap (λ globals. one_root (slice_get globals g)) adds.globals ∙ e
roots_stay made later adds (of_call c v) root e =
    ap (λ calls. one_root (slice_get (slice_index_or calls c []) v)) adds.calls.1
    ∙ by_one (slice_get (slice_index_or made.calls c []) v) _ root (λ ty k. within_longer made.calls adds.calls.0 c v ty k) e
roots_stay made later adds (of_block b) root e = ap (λ blocks. slice_get blocks b) adds.blocks.1 ∙ get_longer made.blocks adds.blocks.0 b root e

module _ (types : List Ty) (widths : Widths) (made later : StoreTyping) (adds : Adds made later) where
  points_later : (ty : ℕ) (home : Home) (leaf : ℕ) → Points types widths made ty home leaf → Points types widths later ty home leaf
  points_later ty home leaf p =
      record { to = p.to; shape = p.shape; root = p.root; here = roots_stay made later adds home p.root p.here; subobject = p.subobject }

  pub value_later : (ty : ℕ) (v : Value) → IsValueOf types widths made ty v → IsValueOf types widths later ty v
  value_later ty (number z) h = h
  value_later ty null h = h
  value_later ty (pointer home leaf) h = points_later ty home leaf h
  value_later ty (past home leaf until) h = points_later ty home leaf h
  value_later ty indeterminate h = tt
