-- What an entry says of the type that it holds.
use Rattle.std.proofs.Common.{◌≡◌, ℕ, ◌<◌, ◌≤◌, List, [], ◌∷◌, length, get_or, slice_get, Option, IfSome, Some, None, refl, arith, ap, sym, ◌∙◌, subst, map, All}
use Rattle.std.proofs.lemmas.Option.{slice_get-map, slice_get_read, get_or_from_slice_get, slice_get_within}
use Rattle.std.specs.Option.{option_map}
use Rattle.porch_types.specs.declared.shapes.Ty.{Ty}
use Rattle.porch_types.specs.declared.shapes.Ty.TheVariants.{Array, Struct}
use Rattle.porch_types.specs.declared.entries.Entry.{Entry}
use Rattle.porch_types.specs.Leaves.{parts_of, width_of, leaf_count, leaves_together, leaves_of, IsFormed}
use Rattle.porch_types.specs.Rows.{part_at, part_of}
use Rattle.porch_types.specs.Entries.{types_of}
use Rattle.porch_types.specs.inside.Kept.{IsKept, starts_of, starts_from}
use Rattle.porch_types.proofs.Counts.{leaves_is, leaves_some}

pub record EntryAt (entries : List Entry) (n : ℕ) (entry : Entry) : Type 0 where
  pub ty : slice_get (types_of entries) n ≡ Some entry.ty
  pub leaves : leaves_of (types_of entries) n ≡ entry.leaves
  pub formed : IsFormed (types_of entries) n entry.ty
  pub within : n < length (types_of entries)
  pub starts : entry.starts.items ≡ starts_of (leaves_of (types_of entries)) entry.ty

pub entry_at : (entries : List Entry) (n : ℕ) (entry : Entry) → IsKept entries → n < length entries → entry ≡ get_or entries n entry → EntryAt entries n entry
entry_at entries n entry kept lt is =
    let found : slice_get entries n ≡ Some entry = slice_get_read entries (length entries) n entry refl lt is in
    let ty : slice_get (types_of entries) n ≡ Some entry.ty = slice_get-map (λ (e : Entry). e.ty) entries n ∙ ap (option_map (λ (e : Entry). e.ty)) found in
    let count : slice_get (map (λ (e : Entry). e.leaves) entries) n ≡ Some entry.leaves = slice_get-map (λ (e : Entry). e.leaves) entries n ∙ ap (option_map (λ (e : Entry). e.leaves)) found in
    record {
      ty = ty;
      leaves = ap (λ xs. get_or xs n 0) (sym kept.counted) ∙ get_or_from_slice_get (map (λ (e : Entry). e.leaves) entries) n entry.leaves 0 count;
      formed = kept.formed.each n entry.ty ty;
      within = slice_get_within (types_of entries) n entry.ty ty;
      starts = kept.started n entry found;
    }

pub entry_some : (entries : List Entry) (n : ℕ) (entry : Entry) → IsKept entries → n < length entries → entry ≡ get_or entries n entry → 0 < entry.leaves
entry_some entries n entry kept lt is =
    let e : EntryAt entries n entry = entry_at entries n entry kept lt is in
    omega (arith, leaves_some (types_of entries) n kept.formed e.within, e.leaves)

pub array_below : (entries : List Entry) (n : ℕ) (entry : Entry) (of count : ℕ) → EntryAt entries n entry → entry.ty ≡ Array of count → of < n
array_below entries n entry of count k is =
    let a : All (λ p. p < n) (of ∷ []) = subst (λ t. All (λ p. p < n) (parts_of t)) is k.formed.earlier in
    a 0 0 (omega arith)

pub part_is : (entries : List Entry) (n place : ℕ) (entry : Entry) (t : Ty) → EntryAt entries n entry → entry.ty ≡ t → part_at (types_of entries) n place ≡ part_of (types_of entries) (Some t) place
part_is entries n place entry t k is = ap (λ o. part_of (types_of entries) o place) (k.ty ∙ ap Some is)

pub record StructAt (types : List Ty) (n : ℕ) (members firsts : List ℕ) (count : ℕ) : Type 0 where
  pub some : 0 < length members
  pub starts : firsts ≡ starts_from (leaves_of types) 0 members
  pub leaves : count ≡ leaves_together (leaves_of types) members
  pub earlier : (i m : ℕ) → slice_get members i ≡ Some m → m < n

pub struct_at : (entries : List Entry) (n : ℕ) (entry : Entry) (members : List ℕ) → EntryAt entries n entry → entry.ty ≡ Struct members
    → StructAt (types_of entries) n members entry.starts.items entry.leaves
struct_at entries n entry members k is =
    let earlier : All (λ p. p < n) members = subst (λ t. All (λ p. p < n) (parts_of t)) is k.formed.earlier in
    record {
      some = subst (λ t. 0 < width_of t) is k.formed.occupied;
      starts = k.starts ∙ ap (starts_of (leaves_of (types_of entries))) is;
      leaves = sym k.leaves ∙ leaves_is (types_of entries) n entry.ty k.formed.earlier k.ty ∙ ap (leaf_count (leaves_of (types_of entries))) is;
      earlier = λ i m at. let e : get_or members i 0 ≡ m = get_or_from_slice_get members i m 0 at in
          subst (λ p. p < n) e (earlier i 0 (slice_get_within members i m at));
    }

pub struct_first : (types : List Ty) (n : ℕ) (members firsts : List ℕ) (count : ℕ) → StructAt types n members firsts count → get_or firsts 0 0 ≡ 0
struct_first types n [] firsts count k = absurd (omega (arith, k.some))
struct_first types n (m ∷ ms) firsts count k = ap (λ xs. get_or xs 0 0) k.starts

pub some_still : {A : Type 0} (P Q : A → Type 0) (o : Option A) → ((x : A) → P x → Q x) → IfSome o P → IfSome o Q
some_still P Q None f h = h
some_still P Q (Some x) f h = f x h

pub entry_small : (entries : List Entry) (n : ℕ) (entry : Entry) → IsKept entries → n < length entries → entry ≡ get_or entries n entry → entry.leaves ≤ 1048576
entry_small entries n entry kept lt is =
    let e : EntryAt entries n entry = entry_at entries n entry kept lt is in
    omega (arith, e.formed.small, e.leaves)
