-- Memory with the first values of globals, by where the globals begin.
use Rattle.std.specs.Prelude.{ℕ, ◌≡◌, ◌+◌, ℤ, pos, List, [], ◌∷◌, slice_index}
use Rattle.porch_types.specs.LeafTypes.{leaf_type}
use Rattle.porch_metrics.specs.Places.{Measures, place_of}
use Rattle.porch_flat.specs.declared.flat.Init.{Init}
use Rattle.porch_flat.specs.declared.flat.Init.TheVariants.{Value, Address}
use Rattle.porch_flat.specs.declared.flat.GlobalObject.{GlobalObject}
use Rattle.porch_flat.specs.declared.whole.Flat.{Flat}
use Rattle.porch_bytes.specs.Leaf.{with_leaf_value}
use Rattle.porch_bytes.specs.State.{Setting, with_globals as with_globals_of}
use Rattle.porch_map.specs.Known.{IsMeasured, HasGlobals}

-- `types` and `addresses` are those of the globals
module _ (measures : Measures) (types addresses : List ℕ) where
  -- memory with a number in a leaf of an object
  abbrev pub with_leaf : (at ty leaf : ℕ) → List ℕ → ℤ → List ℕ
  with_leaf at ty leaf memory z =
      with_leaf_value measures.layout measures.types memory (at + place_of measures.layout measures.types ty leaf)
      (leaf_type measures.types ty leaf) z

  abbrev pub with_first : (at ty : ℕ) → List ℕ → Init → List ℕ
  with_first at ty memory (Value leaf z) = with_leaf at ty leaf memory z
  with_first at ty memory (Address leaf global target) =
      with_leaf at ty leaf memory
      (pos (slice_index addresses global
      + place_of measures.layout measures.types (slice_index types global) target))

  abbrev pub with_all : (at ty : ℕ) → List ℕ → List Init → List ℕ
  with_all at ty memory [] = memory
  with_all at ty memory (i ∷ is) = with_all at ty (with_first at ty memory i) is

  -- memory with the first values of these globals, the first of which has this number
  abbrev pub with_values : (first : ℕ) → List ℕ → List GlobalObject → List ℕ
  with_values first memory [] = memory
  with_values first memory (g ∷ gs) =
      with_values (first + 1) (with_all (slice_index addresses first) g.ty memory g.inits) gs

-- Where the measures and the places are a program's, these are its globals with their initialisers.
abbrev pub ValuesAreOfGlobals : Type 0
ValuesAreOfGlobals =
    (flat : Flat) (on : Setting) (measures : Measures) (types addresses : List ℕ) → IsMeasured flat on measures
    → HasGlobals flat on types addresses → (memory : List ℕ)
    → with_values measures types addresses 0 memory flat.globals ≡ with_globals_of flat on 0 memory flat.globals
