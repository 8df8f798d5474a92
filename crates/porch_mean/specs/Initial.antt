-- What objects begin with.
use Rattle.std.specs.Prelude.{ℕ, List, [], ◌∷◌, slice_set}
use Rattle.porch_types.specs.declared.shapes.Ty.{Ty}
use Rattle.porch_objects.specs.Store.{Home, of_global, Value, number, null, pointer, one_of, Object, Store, fresh, zeroed, with_leaves, changed}
use Rattle.porch_typed.specs.declared.typed.Fill.{Fill}
use Rattle.porch_typed.specs.declared.typed.Fill.TheVariants as fill
use Rattle.porch_typed.specs.declared.typed.GlobalVariable.{GlobalVariable}

-- what a leaf begins with
abbrev pub filled_with : Fill → Value
filled_with (fill.Constant z) = number z
filled_with fill.Null = null
filled_with (fill.Address global leaf) = pointer (of_global global) leaf

-- leaves with the ones that an initialiser gives
abbrev pub fill_leaves : List Value → List (ℕ × Fill) → List Value
fill_leaves leaves [] = leaves
fill_leaves leaves (x ∷ xs) = fill_leaves (slice_set leaves x.0 (filled_with x.1)) xs

module _ (types : List Ty) where
  -- An object with an initialiser of constants. What that doesn't give is 0 and null.
  abbrev pub filled_object : (ty : ℕ) → List (ℕ × Fill) → Object
  filled_object ty fills = let zeros = zeroed types (one_of ty) in with_leaves zeros (fill_leaves zeros.leaves fills)

  -- A global as the program begins.
  abbrev pub global_object : GlobalVariable → Object
  global_object global = filled_object global.ty global.fills

  -- The variables of a call: the first have the arguments, the others no value.
  abbrev pub variables_with : List ℕ → List Value → List Object
  variables_with [] arguments = []
  variables_with (ty ∷ variables) [] = fresh types (one_of ty) ∷ variables_with variables []
  variables_with (ty ∷ variables) (x ∷ xs) = with_leaves (fresh types (one_of ty)) (x ∷ []) ∷ variables_with variables xs

-- an object as another one is
abbrev pub with_object : Store → Home → Object → Store
with_object s home object = changed (λ _. object) s home
