-- The leaves of elements in a row are those of one element over and over.
use Rattle.std.proofs.Common.{◌≡◌, ℕ, zero, suc, ◌+◌, ◌*◌, ◌%◌, ◌<◌, List, [], ◌∷◌, map, length, replicate, get_or, slice_get, refl, sym, ap, ◌∙◌, arith}
use Rattle.std.specs.List.{range_with_len}
use Rattle.std.proofs.lemmas.Nat.{mod_below, mod-mul-add}
use Rattle.std.proofs.lemmas.List.{get_or-map, length-map}
use Rattle.std.proofs.lemmas.List.FromFn.{length-map-range_with_len, get_or-map-range_with_len}
use Rattle.porch_types.specs.declared.shapes.Ty.{Ty}
use Rattle.porch_types.specs.Leaves.{leaves_of}
use Rattle.porch_types.specs.LeafTypes.{leaf_type_within}
use Rattle.porch_objects.specs.Store as store
use Rattle.porch_objects.specs.Store.{zero_of}
use Rattle.porch_sparse.specs.Repeated.{repeated}
use Rattle.porch_live.specs.declared.value.Value.{Value}
use Rattle.porch_live.specs.Views.{value_of}
use Rattle.porch_live.specs.inside.Leaves.{zero_at, zeros_of}
use Rattle.porch_live.proofs.Alike.{alike}

mod_again : (i n : ℕ) → 0 < n → (i % n) % n ≡ i % n
mod_again i n some = ap (λ m. m % n) (let e : i % n ≡ 0 * n + i % n = omega arith in e) ∙ mod-mul-add 0 n (i % n) (mod_below i n some)

same_leaf : (types : List Ty) (ty leaf : ℕ) → 0 < leaves_of types ty → zero_at types ty (leaf % leaves_of types ty) ≡ zero_at types ty leaf
same_leaf types ty leaf some =
    ap (λ m. zero_of (slice_get types (leaf_type_within (suc ty) types ty m))) (mod_again leaf (leaves_of types ty) some)

all_one : (f : ℕ → store.Value) (w : store.Value) (a n : ℕ) → ((i : ℕ) → f i ≡ w) → replicate n w ≡ map f (range_with_len a n)
all_one f w a zero one = refl
all_one f w a (suc n) one = rw (one a) (ap (λ (ws : List store.Value). w ∷ ws) (all_one f w (a + 1) n one))

-- where the leaves of one element are alike, all are
pub all_alike : (types : List Ty) (ty count : ℕ) (v : Value) → 0 < leaves_of types ty
    → ((leaf : ℕ) → leaf < leaves_of types ty → zero_at types ty leaf ≡ zero_at types ty 0) → value_of v ≡ zero_at types ty 0
    → map value_of (replicate count v) ≡ zeros_of types ty count
all_alike types ty count v some same is =
    alike count v
    ∙ all_one (zero_at types ty) (value_of v) 0 count
    (λ i. sym (same_leaf types ty i some) ∙ same (i % leaves_of types ty) (mod_below i (leaves_of types ty) some) ∙ sym is)

seen_each : (g : ℕ → Value) (h : ℕ → store.Value) (is : List ℕ) → ((i : ℕ) → value_of (g i) ≡ h i) → map value_of (map g is) ≡ map h is
seen_each g h [] same = refl
seen_each g h (i ∷ more) same = rw (same i) (ap (λ (ws : List store.Value). h i ∷ ws) (seen_each g h more same))

-- a leaf of one element
in_element : (types : List Ty) (ty j : ℕ) (pattern : List Value) (x : Value) → map value_of pattern ≡ zeros_of types ty (leaves_of types ty)
    → j < leaves_of types ty → length pattern ≡ leaves_of types ty → value_of (get_or pattern j x) ≡ zero_at types ty j
in_element types ty j pattern x is within long =
    sym (get_or-map value_of pattern j x (value_of x) (omega (arith, within, long)))
    ∙ ap (λ (ws : List store.Value). get_or ws j (value_of x)) is
    ∙ get_or-map-range_with_len (zero_at types ty) 0 (leaves_of types ty) j j (value_of x) within (omega arith)

pub over_and_over : (types : List Ty) (ty count : ℕ) (pattern : List Value) → 0 < leaves_of types ty
    → map value_of pattern ≡ zeros_of types ty (leaves_of types ty) → map value_of (repeated count pattern) ≡ zeros_of types ty count
over_and_over types ty count [] some is =
    absurd (omega (arith, some, ap length is, length-map-range_with_len (zero_at types ty) 0 (leaves_of types ty)))
over_and_over types ty count (x ∷ more) some is =
    let pattern : List Value = x ∷ more in
    let long : length pattern ≡ leaves_of types ty =
    sym (length-map pattern value_of) ∙ ap length is ∙ length-map-range_with_len (zero_at types ty) 0 (leaves_of types ty) in
    seen_each (λ i. get_or pattern (i % length pattern) x) (zero_at types ty) (range_with_len 0 count)
    (λ i. ap (λ n. value_of (get_or pattern (i % n) x)) long
    ∙ in_element types ty (i % leaves_of types ty) pattern x is (mod_below i (leaves_of types ty) some) long
    ∙ same_leaf types ty i some)

-- there is one
pub some_of : (types : List Ty) (ty : ℕ) (pattern : List Value) → 0 < leaves_of types ty
    → map value_of pattern ≡ zeros_of types ty (leaves_of types ty) → 0 < length pattern
some_of types ty pattern some is =
    omega (arith, some, length-map pattern value_of, ap length is, length-map-range_with_len (zero_at types ty) 0 (leaves_of types ty))
