-- The values that are put by the places of globals are those of the program.
use Rattle.std.proofs.Common.{◌≡◌, ℕ, ◌+◌, List, [], ◌∷◌, refl, ap, ◌∙◌}
use Rattle.porch_types.specs.declared.shapes.Ty.{Ty}
use Rattle.porch_layout.specs.declared.layout.Layout.{Layout}
use Rattle.porch_flat.specs.declared.flat.Init.{Init}
use Rattle.porch_flat.specs.declared.flat.Init.TheVariants.{Value, Address}
use Rattle.porch_flat.specs.declared.flat.GlobalObject.{GlobalObject}
use Rattle.porch_flat.specs.declared.whole.Flat.{Flat}
use Rattle.porch_bytes.specs.Memory.{FIRST_GLOBAL, extent, places_from, global_types, place_of_global}
use Rattle.porch_bytes.specs.State.{Setting, with_init, with_inits, with_globals}
use Rattle.porch_map.specs.Values.{with_first, with_all, with_values, ValuesAreOfGlobals}

module _ (flat : Flat) (on : Setting) where
  one : (at ty : ℕ) (memory : List ℕ) (i : Init)
      → with_first (record { types = flat.types; layout = on.layout }) (global_types flat) (places_from (extent on.layout flat) FIRST_GLOBAL (global_types flat)) at ty memory i
      ≡ with_init flat on at ty memory i
  one at ty memory (Value leaf z) = refl
  one at ty memory (Address leaf global target) = refl

  each : (at ty : ℕ) (memory : List ℕ) (is : List Init)
      → with_all (record { types = flat.types; layout = on.layout }) (global_types flat) (places_from (extent on.layout flat) FIRST_GLOBAL (global_types flat)) at ty memory is
      ≡ with_inits flat on at ty memory is
  each at ty memory [] = refl
  each at ty memory (i ∷ is) =
      each at ty (with_first (record { types = flat.types; layout = on.layout }) (global_types flat) (places_from (extent on.layout flat) FIRST_GLOBAL (global_types flat)) at ty memory i) is
      ∙ ap (λ (m : List ℕ). with_inits flat on at ty m is) (one at ty memory i)

  every : (first : ℕ) (memory : List ℕ) (gs : List GlobalObject)
      → with_values (record { types = flat.types; layout = on.layout }) (global_types flat) (places_from (extent on.layout flat) FIRST_GLOBAL (global_types flat)) first memory gs
      ≡ with_globals flat on first memory gs
  every first memory [] = refl
  every first memory (g ∷ gs) =
      every (first + 1)
      (with_all (record { types = flat.types; layout = on.layout }) (global_types flat) (places_from (extent on.layout flat) FIRST_GLOBAL (global_types flat)) (place_of_global on.layout flat first) g.ty memory g.inits) gs
      ∙ ap (λ (m : List ℕ). with_globals flat on (first + 1) m gs) (each (place_of_global on.layout flat first) g.ty memory g.inits)

pub values_of_globals : ValuesAreOfGlobals
values_of_globals flat on measures types addresses k h memory =
    ap (λ (t : List Ty). with_values (record { types = t; layout = measures.layout }) types addresses 0 memory flat.globals) k.types_are
    ∙ ap (λ (under : Layout). with_values (record { types = flat.types; layout = under }) types addresses 0 memory flat.globals) k.layout_is
    ∙ ap (λ (t : List ℕ). with_values (record { types = flat.types; layout = on.layout }) t addresses 0 memory flat.globals) h.types_are
    ∙ ap (λ (a : List ℕ). with_values (record { types = flat.types; layout = on.layout }) (global_types flat) a 0 memory flat.globals) h.addresses_are
    ∙ every flat on 0 memory flat.globals
