-- The numbers stay right where a struct is added or completed.
use Rattle.std.proofs.Common.{◌≡◌, ℕ, zero, suc, if◌then◌else◌, List, [], ◌∷◌, ◌++◌, length, slice_get, slice_set, Some, None, refl, sym, ap, ◌∙◌, subst}
use Rattle.std.specs.Option.{option_map_or}
use Rattle.std.proofs.lemmas.List.{map-append, map-set}
use Rattle.porch_check.specs.Shapes.{Shape, void, structure, pointer, array, function, Row, shape_eq, place_in}
use Rattle.porch_shape.specs.Views.{as_shape}
use Rattle.porch_scopes.specs.declared.row.Row as code_row
use Rattle.porch_scopes.specs.declared.numbers.Numbers as code_numbers
use Rattle.porch_types.specs.Leaves.{MOST_LEAVES}
use Rattle.porch_scopes.specs.Sizes.{AreWithin}
use Rattle.porch_scopes.specs.inside.Rows.{row_of, rows_of, AreSmall}
use Rattle.porch_scopes.specs.inside.Numbers.{AreNumbers, AddsRow}
use Rattle.porch_scopes.proofs.Placed.{other}
use Rattle.porch_scopes.proofs.SmallMembers.{small_more, small_set}

structure_more : (rows : List Row) (r : Row) (ns : code_numbers.Numbers) (n : ℕ) → r.shape ≡ structure n
    → AreNumbers rows ns → AreNumbers (rows ++ r ∷ []) ns
structure_more rows r ns n is are = record {
  pointers = λ q. are.pointers q ∙ other (pointer q) rows r (ap (shape_eq (pointer q)) is);
  arrays = λ of count. are.arrays of count ∙ other (array of count) rows r (ap (shape_eq (array of count)) is);
  functions = λ x ps. are.functions x ps ∙ other (function x ps) rows r (ap (shape_eq (function x ps)) is);
}

rows_more : (rs qs ss : List code_row.Row) (row : code_row.Row) → qs ≡ rs → ss ≡ qs ++ row ∷ [] → rows_of ss ≡ rows_of rs ++ row_of row ∷ []
rows_more rs qs ss row same more = ap rows_of (more ∙ ap (λ xs. xs ++ row ∷ []) same) ∙ map-append row_of rs (row ∷ [])

-- one more struct
pub structure_added : (rs qs ss : List code_row.Row) (row : code_row.Row) (ns : code_numbers.Numbers) (n : ℕ)
    → as_shape row.shape ≡ structure n → AreNumbers (rows_of rs) ns → qs ≡ rs → ss ≡ qs ++ row ∷ [] → AreNumbers (rows_of ss) ns
structure_added rs qs ss row ns n is are same more =
    subst (λ xs. AreNumbers xs ns) (sym (rows_more rs qs ss row same more)) (structure_more (rows_of rs) (row_of row) ns n is are)

length_rows : (rs : List code_row.Row) → length (rows_of rs) ≡ length rs
length_rows [] = refl
length_rows (r ∷ rs) = ap suc (length_rows rs)

-- one more function
pub function_added : (rs qs ss : List code_row.Row) (row : code_row.Row) (ns ms : code_numbers.Numbers) (x : Shape) (number : ℕ)
    → as_shape row.shape ≡ x → number ≡ length rs → place_in x (rows_of rs) 0 ≡ None → AddsRow x number ns ms
    → AreNumbers (rows_of rs) ns → qs ≡ rs → ss ≡ qs ++ row ∷ [] → AreNumbers (rows_of ss) ms
function_added rs qs ss row ns ms x number is last none adds are same more =
    subst (λ xs. AreNumbers xs ms) (sym (rows_more rs qs ss row same more)) (adds.adds (rows_of rs) (row_of row) is (last ∙ sym (length_rows rs)) none are)

place_set : (y x : Shape) (rows : List Row) (n : ℕ) (r : Row) (k : ℕ)
    → option_map_or (λ (q : Row). q.shape) (slice_get rows n) void ≡ x → r.shape ≡ x
    → place_in y (slice_set rows n r) k ≡ place_in y rows k
place_set y x [] n r k was is = refl
place_set y x (q ∷ rows) zero r k was is = ap (λ z. if shape_eq y z then Some k else place_in y rows (suc k)) (is ∙ sym was)
place_set y x (q ∷ rows) (suc n) r k was is =
    ap (λ o. if shape_eq y q.shape then Some k else o) (place_set y x rows n r (suc k) was is)

-- a struct completed
pub structure_set : (rs ss : List code_row.Row) (row : code_row.Row) (ns : code_numbers.Numbers) (n : ℕ) (x : Shape)
    → option_map_or (λ (q : Row). q.shape) (slice_get (rows_of rs) n) void ≡ x → as_shape row.shape ≡ x
    → AreNumbers (rows_of rs) ns → ss ≡ slice_set rs n row → AreNumbers (rows_of ss) ns
structure_set rs ss row ns n x was is are set =
    let same : rows_of ss ≡ slice_set (rows_of rs) n (row_of row) = ap rows_of set ∙ map-set row_of rs n row in
    subst (λ xs. AreNumbers xs ns) (sym same) (record {
      pointers = λ q. are.pointers q ∙ sym (place_set (pointer q) x (rows_of rs) n (row_of row) 0 was is);
      arrays = λ of count. are.arrays of count ∙ sym (place_set (array of count) x (rows_of rs) n (row_of row) 0 was is);
      functions = λ r ps. are.functions r ps ∙ sym (place_set (function r ps) x (rows_of rs) n (row_of row) 0 was is);
    })

pub rows_set : (rs ss : List code_row.Row) (row : code_row.Row) (n : ℕ) → ss ≡ slice_set rs n row
    → rows_of ss ≡ slice_set (rows_of rs) n (row_of row)
rows_set rs ss row n set = ap rows_of set ∙ map-set row_of rs n row

-- what the members begin within stays small

pub small_added : (rs qs ss : List code_row.Row) (row : code_row.Row) → AreSmall (rows_of rs) → row.members.list ≡ [] → qs ≡ rs
    → ss ≡ qs ++ row ∷ [] → AreSmall (rows_of ss)
small_added rs qs ss row h none same more =
    subst AreSmall (sym (rows_more rs qs ss row same more))
    (small_more (rows_of rs) (row_of row) h (subst (λ ms. AreWithin ms MOST_LEAVES) (sym none) tt))

pub small_completed : (rs ss : List code_row.Row) (row : code_row.Row) (n : ℕ) → AreSmall (rows_of rs) → AreWithin row.members.list MOST_LEAVES
    → ss ≡ slice_set rs n row → AreSmall (rows_of ss)
small_completed rs ss row n h k set =
    subst AreSmall (sym (rows_set rs ss row n set)) (small_set (rows_of rs) n (row_of row) h k)
