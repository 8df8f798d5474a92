use Rattle.std.proofs.Common.{◌≡◌, ℕ, zero, suc, pos, List, [], ◌∷◌, slice_get, Option, Some, None, refl, ap, sym, subst}
use Rattle.porch_types.specs.LeafTypes.{leaf_type}
use Rattle.porch_metrics.specs.Extents.{extent_of, ucf_layout}
use Rattle.porch_ucf.specs.DataFlaws.{leaf_place, type_of_leaf}
use Rattle.porch_find.specs.declared.roots.Root.{Root}
use Rattle.porch_objects.specs.Store.{Home, of_call, Value, number, Object, object_at}
use Rattle.porch_flat.specs.whole.Worked.{saving_program}
use Rattle.porch_states.specs.ImageState.{HasData, IsLeaf, IsStateOf}
use Rattle.porch_states.specs.Worked.{worked_image, worked_state}
use Rattle.porch_states.proofs.worked.a_saved_frame.Goals as goal

value_in : {A : Type 0} → A → Option A → A
value_in a None = a
value_in a (Some b) = b

some_one : {A : Type 0} (a b : A) → Some a ≡ Some b → a ≡ b
unfolding value_in
some_one a b e = ap (value_in a) e

none_some : {A : Type 0} (a : A) → None ≡ Some a → ⊥
none_some a e = cc

-- a list of one has no other
only : {A : Type 0} (a b : A) (i : ℕ) → slice_get (a ∷ []) i ≡ Some b → a ≡ b
only a b zero e = some_one a b e
only a b (suc i) e = absurd (none_some b e)

abbrev object : Object
object = record { root = record { ty = 4; count = 1 }; leaves = number (pos 7) ∷ [] }

abbrev root : Root
root = record { at = 0; ty = 4; count = 1 }

-- what a value is that stands at a leaf of the object
abbrev IsLeafOf : ℕ → Value → Type 0
IsLeafOf leaf v = IsLeaf saving_program worked_image (type_of_leaf saving_program.types root leaf) (leaf_place saving_program.types root leaf) (extent_of ucf_layout saving_program.types (leaf_type saving_program.types 4 leaf)).size v

leaves : (leaf : ℕ) (v : Value) → slice_get (number (pos 7) ∷ []) leaf ≡ Some v → IsLeafOf leaf v
leaves zero v e = sym (some_one (number (pos 7)) v e)
leaves (suc leaf) v e = absurd (none_some v e)

has_data : HasData saving_program worked_image root object
has_data = record { root_is = refl; count_is = refl; leaves_are = leaves }

abbrev Stands : Root → Home → Type 0
Stands r home = (o : Object) × (object_at worked_state.store home ≡ Some o) × HasData saving_program worked_image r o

objects : (i : ℕ) (r : Root) (home : Home) → slice_get (root ∷ []) i ≡ Some r → slice_get (of_call 0 0 ∷ []) i ≡ Some home → Stands r home
objects i r home at_root at_home = subst (λ (h : Home). Stands r h) (only (of_call 0 0) home i at_home) (subst (λ (x : Root). Stands x (of_call 0 0)) (only root r i at_root) (object, refl, has_data))

pub returns-clause-state : goal.returns-clause-state
returns-clause-state c =
    record {
      turns_are = refl;
      output_is = refl;
      length_is = refl;
      frames_are = refl;
      globals_are = refl;
      calls_are = refl;
      variables_are = refl;
      blocks_are = refl;
      called_are = refl;
      allocated_are = refl;
      objects_are = objects;
    }

pub returns-clause-goes_on : goal.returns-clause-goes_on
returns-clause-goes_on c = refl
