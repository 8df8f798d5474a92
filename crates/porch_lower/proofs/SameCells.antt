-- The variables of a frame of ints as cells, and reads and writes of their objects.
use Rattle.std.proofs.Common.{◌≡◌, ◌≢◌, ◌≤◌, ◌<◌, ◌*ℤ◌, ◌+ℤ◌, ◌-ℤ◌, ℕ, zero, suc, ℤ, pos, List, [], ◌∷◌, map, length, inl, inr, refl, sym, ap, arith}
use Rattle.std.proofs.Math.ListN.{set}
use Rattle.std.proofs.Math.Seq.{set_out}
use Rattle.std.proofs.lemmas.List.{map-set, length-map}
use Rattle.std.proofs.lemmas.Option.{slice_get-map, slice_get_past, slice_get_cases}
use Rattle.std.specs.Prelude.{slice_get, replicate, Some, None, Result, Ok, Err}
use Rattle.std.specs.declared.option.Option.{Option}
use Rattle.porch_syntax.specs.declared.tree.Sign.{Sign}
use Rattle.porch_syntax.specs.declared.tree.Sign.TheVariants.{Plus, Minus}
use Rattle.porch_syntax.specs.Tree.{Node, variable, whole, character, nested, product, sum, less, Nodes, no_nodes, node, Terms, no_terms, term}
use Rattle.porch_values.specs.declared.acts.Act.{Act}
use Rattle.porch_values.specs.declared.acts.Act.TheVariants.{Indeterminate}
use Rattle.porch_values.specs.Integers.{as_int_of}
use Rattle.porch_objects.specs.Store.{of_call, Value, number, indeterminate, one_of, Object, Activation, Store, seen, leaf_at, with_leaves, changed_at, with_leaf_at, forgotten}
use Rattle.porch_objects.specs.Meaning.{truth}
use Rattle.porch_flat.specs.Valid.{int_type}
use Rattle.porch_flat.specs.declared.flat.Operand.{Operand}
use Rattle.porch_flat.specs.declared.flat.Operand.TheVariants.{Var, Constant}

-- what an int variable holds: a number, or nothing
abbrev pub Cell : Type 0
Cell = Option ℤ

abbrev pub value_in : Cell → Value
value_in None = indeterminate
value_in (Some z) = number z

abbrev pub int_object : Value → Object
int_object v = record { root = one_of int_type; leaves = v ∷ [] }

abbrev pub object_in : Cell → Object
object_in c = int_object (value_in c)

-- a cell, if there is one, as a value
abbrev pub value_at : Option Cell → Value
value_at None = indeterminate
value_at (Some c) = value_in c

-- the number in a cell
abbrev pub read_of : Option Cell → Result ℤ Act
read_of None = Err Indeterminate
read_of (Some None) = Err Indeterminate
read_of (Some (Some z)) = Ok z

-- the number that an operand is
abbrev pub reads : List Cell → Operand → Result ℤ Act
reads cells (Var v) = read_of (slice_get cells v)
reads cells (Constant z) = Ok z

abbrev pub with_value : Result ℤ Act → (ℤ → Result ℤ Act) → Result ℤ Act
with_value (Ok z) go = go z
with_value (Err a) go = Err a

abbrev pub signed : Sign → ℤ → ℤ → ℤ
signed Plus x y = x +ℤ y
signed Minus x y = x -ℤ y

-- the value of an expression over cells
abbrev mutual
  pub value_of : List Cell → Node → Result ℤ Act
  value_of cells (variable x) = read_of (slice_get cells x)
  value_of cells (whole z) = Ok z
  value_of cells (character c) = Ok (pos c)
  value_of cells (nested e) = value_of cells e
  value_of cells (product e es) = with_value (value_of cells e) (λ a. factors_of cells es a)
  value_of cells (sum e ts) = with_value (value_of cells e) (λ a. terms_of cells ts a)
  value_of cells (less a b) = with_value (value_of cells a) (λ x. with_value (value_of cells b) (λ y. Ok (truth x y)))

  pub factors_of : List Cell → Nodes → ℤ → Result ℤ Act
  factors_of cells no_nodes a = Ok a
  factors_of cells (node e es) a = with_value (value_of cells e) (λ b. with_value (as_int_of (a *ℤ b)) (λ c. factors_of cells es c))

  pub terms_of : List Cell → Terms → ℤ → Result ℤ Act
  terms_of cells no_terms a = Ok a
  terms_of cells (term sign e ts) a = with_value (value_of cells e) (λ b. with_value (as_int_of (signed sign a b)) (λ c. terms_of cells ts c))

-- what lives while main runs with these variables: it is the first call
abbrev pub store_in : List Object → Store
store_in variables =
    record { globals = []; calls = (let call : Activation = record { number = 0; variables = variables } in call ∷ []); blocks = []; called = 1; allocated = 0; checkpoints = 0 }

abbrev pub store_with : List Cell → Store
store_with cells = store_in (map object_in cells)

module _ (cells : List Cell) (x : ℕ) where
  none_outside : length cells ≤ x → slice_get (map object_in cells) x ≡ None
  none_outside h = slice_get_past (map object_in cells) x (omega (arith, length-map cells object_in))

  pub leaf_at-cells : leaf_at (store_with cells) (of_call 0 x) 0 ≡ value_at (slice_get cells x)
  leaf_at-cells =
      elim (slice_get_cases cells x).1 [
        | inl w ↦ rw (slice_get-map object_in cells x, w.2) refl
        | inr w ↦ rw (none_outside w.0, w.1) refl
      ]

  changed-cells : (f : Object → Object) (c : Cell) → ((d : Cell) → f (object_in d) ≡ object_in c)
      → changed_at f (map object_in cells) (slice_get (map object_in cells) x) x ≡ map object_in (set cells x c)
  changed-cells f c h =
      elim (slice_get_cases cells x).1 [
        | inl w ↦ rw (slice_get-map object_in cells x, w.2, h w.0) (sym (map-set object_in cells x c))
        | inr w ↦ rw (none_outside w.0, set_out cells x c w.0) refl
      ]

  pub stored-cells : (z : ℤ) → with_leaf_at (store_with cells) (of_call 0 x) 0 (number z) ≡ store_with (set cells x (Some z))
  stored-cells z = ap store_in (changed-cells (λ object. with_leaves object (set object.leaves 0 (number z))) (Some z) (λ d. refl))

  pub forgotten-cells : forgotten (store_with cells) (of_call 0 x) ≡ store_with (set cells x None)
  forgotten-cells = ap store_in (changed-cells (λ object. with_leaves object (replicate (length object.leaves) indeterminate)) None (λ d. refl))

-- a cell's value is seen as it is, for it is no pointer
pub seen-cell : (s : Store) (c : Option Cell) → seen s (value_at c) ≡ value_at c
seen-cell s None = refl
seen-cell s (Some None) = refl
seen-cell s (Some (Some z)) = refl

-- a cell that was written, and the others
pub slice_get-set_same : (xs : List Cell) (i : ℕ) (c : Cell) → i < length xs → slice_get (set xs i c) i ≡ Some c
slice_get-set_same [] i c h = absurd (omega arith)
slice_get-set_same (x ∷ xs) zero c h = refl
slice_get-set_same (x ∷ xs) (suc i) c h = slice_get-set_same xs i c (omega arith)

pub slice_get-set_other : (xs : List Cell) (i j : ℕ) (c : Cell) → j ≢ i → slice_get (set xs i c) j ≡ slice_get xs j
slice_get-set_other [] i j c h = refl
slice_get-set_other (x ∷ xs) zero zero c h = absurd (h refl)
slice_get-set_other (x ∷ xs) zero (suc j) c h = refl
slice_get-set_other (x ∷ xs) (suc i) zero c h = refl
slice_get-set_other (x ∷ xs) (suc i) (suc j) c h = slice_get-set_other xs i j c (λ e. h (ap suc e))
