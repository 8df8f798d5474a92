-- The variables as objects of a store.
use Rattle.std.proofs.Common.{◌≡◌, ◌≤◌, ℕ, suc, ℤ, List, [], ◌∷◌, map, length, inl, inr, sym, ◌∙◌, ap, arith, refl}
use Rattle.std.proofs.Math.ListN.{set}
use Rattle.std.proofs.Math.Seq.{set_out}
use Rattle.std.proofs.lemmas.List.{map-set, length-map}
use Rattle.std.proofs.lemmas.Option.{slice_get-map, slice_get_past, slice_get_cases}
use Rattle.std.specs.Prelude.{slice_get, Some, None, replicate, All}
use Rattle.std.specs.declared.option.Option.{Option}
use Rattle.porch_types.specs.Leaves.{kind_types}
use Rattle.porch_flat.specs.Valid.{int_type}
use Rattle.porch_objects.specs.Store.{Value, number, Object, Activation, Store, leaf_of, leaf_at, seen, with_leaf_at, with_leaves, changed_at, variable_home}
use Rattle.porch_abstract.specs.declared.phase.Phase.TheVariants.{Running}
use Rattle.porch_abstract.specs.Machine.{variables_with}
use Rattle.porch_abstract.specs.inside.Effects.{held}
use Rattle.porch_abstract.specs.inside.Kept.{value_of, int_object, calls_alone, store_in}

abbrev pub objects_of : List (Option ℤ) → List Object
objects_of vars = map int_object vars

-- the store while main runs
abbrev pub stored_vars : List (Option ℤ) → Store
stored_vars vars = store_in Running vars

none_outside : (vars : List (Option ℤ)) (v : ℕ) → length vars ≤ v → slice_get (objects_of vars) v ≡ None
none_outside vars v h = slice_get_past (objects_of vars) v (omega (arith, length-map vars int_object))

leaf-vars : (vars : List (Option ℤ)) (v : ℕ) → leaf_of (slice_get (objects_of vars) v) 0 ≡ value_of (held (slice_get vars v))
leaf-vars vars v =
    elim (slice_get_cases vars v).1 [
      | inl w ↦ rw (slice_get-map int_object vars v, w.2) refl
      | inr w ↦ rw (none_outside vars v w.0, w.1) refl
    ]

seen-int : (s : Store) (x : Option ℤ) → seen s (value_of x) ≡ value_of x
seen-int s None = refl
seen-int s (Some z) = refl

-- what is seen of a variable is what it holds
pub seen-vars : (vars : List (Option ℤ)) (v : ℕ) → (let s : Store = stored_vars vars in seen s (leaf_at s (variable_home s v) 0)) ≡ value_of (held (slice_get vars v))
seen-vars vars v = ap (λ (x : Value). seen (stored_vars vars) x) (leaf-vars vars v) ∙ seen-int (stored_vars vars) (held (slice_get vars v))

-- a change of one object is a change of its variable
changed-vars : (f : Object → Object) (vars : List (Option ℤ)) (v : ℕ) (x : Option ℤ) → ((y : Option ℤ) → f (int_object y) ≡ int_object x)
    → changed_at f (objects_of vars) (slice_get (objects_of vars) v) v ≡ objects_of (set vars v x)
changed-vars f vars v x h =
    elim (slice_get_cases vars v).1 [
      | inl w ↦ rw (slice_get-map int_object vars v, w.2, h w.0) (sym (map-set int_object vars v x))
      | inr w ↦ rw (none_outside vars v w.0, set_out vars v x w.0) refl
    ]

abbrev store_by : List Object → Store
store_by variables = calls_alone (let call : Activation = record { number = 0; variables = variables } in call ∷ []) 1

-- a store to a variable
pub stored-vars : (vars : List (Option ℤ)) (v : ℕ) (z : ℤ) → (let s : Store = stored_vars vars in with_leaf_at s (variable_home s v) 0 (number z)) ≡ stored_vars (set vars v (Some z))
stored-vars vars v z = ap store_by (changed-vars (λ object. with_leaves object (set object.leaves 0 (number z))) vars v (Some z) (λ y. refl))

-- the variables of a call without arguments, which are ints
pub fresh_vars : (vars : List ℕ) → All (λ ty. ty ≡ int_type) vars → variables_with kind_types vars [] ≡ objects_of (replicate (length vars) None)
fresh_vars [] ints = refl
fresh_vars (ty ∷ vars) ints =
    let four : ty ≡ 4 = ints 0 0 (omega arith) in
    rw four (ap (λ (os : List Object). int_object None ∷ os) (fresh_vars vars (λ k d h. ints (suc k) d (omega (arith, h)))))
