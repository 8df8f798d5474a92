-- The flat program of a tree, as it is made. Public contracts say of it what `specs/Lowered` has.
use Rattle.std.specs.Prelude.{◌+◌, [], ◌∷◌, length, replicate, codes, Some}
use Rattle.porch_types.specs.Leaves.{kind_types}
use Rattle.porch_syntax.specs.Tree.{Program}
use Rattle.porch_flat.specs.declared.flat.Function.{Function}
use Rattle.porch_flat.specs.declared.flat.Flat.{Flat}
use Rattle.porch_flat.specs.Valid.{int_type}
use Rattle.porch_lower.specs.Code.{main_code, main_temps}

-- its only function
abbrev pub main_function : Program → Function
main_function p =
    record {
      name = codes "main";
      result = Some int_type;
      params = 0;
      vars = replicate (length p.declarations + main_temps p) int_type;
      commands = main_code p;
    }

abbrev pub flat_of : Program → Flat
flat_of p = record { types = kind_types; globals = []; functions = main_function p ∷ [] }
