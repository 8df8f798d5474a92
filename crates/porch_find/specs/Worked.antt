-- A list of types on which examples are worked out.
use Rattle.std.specs.Prelude.{ℕ, List, [], ◌∷◌, ◌++◌}
use Rattle.porch_types.specs.declared.shapes.Ty.{Ty}
use Rattle.porch_types.specs.declared.shapes.Ty.TheVariants.{Array, Struct}
use Rattle.porch_types.specs.Kinds.{kind_number}
use Rattle.porch_types.specs.declared.shapes.Kind.TheVariants.{Int, Long}
use Rattle.porch_types.specs.Leaves.{kind_types}

-- `int`, `int[3]`, `struct s {int x; long y; int a[3];}` and `struct s[2]`
abbrev pub int_number : ℕ
int_number = kind_number Int

abbrev pub three_ints : ℕ
three_ints = 8

abbrev pub one_struct : ℕ
one_struct = 9

abbrev pub two_structs : ℕ
two_structs = 10

abbrev pub worked_types : List Ty
worked_types =
    kind_types
    ++ Array int_number 3 ∷ Struct (int_number ∷ kind_number Long ∷ three_ints ∷ [])
    ∷ Array one_struct 2 ∷ []
