-- The type of each leaf, and what a pointer type points to.
use Rattle.std.specs.Prelude.{ℕ, zero, suc, ◌-◌, ◌%◌, List, Option, Some, None, ⊤}
use Rattle.std.specs.Option.{option_map_or}
use Rattle.porch_types.specs.declared.shapes.Ty.{Ty}
use Rattle.porch_types.specs.declared.shapes.Ty.TheVariants.{Whole, Pointer, Array, Struct}
use Rattle.porch_types.specs.Leaves.{leaves_of}
use Rattle.porch_types.specs.Rows.{part_at}

-- an integer or a pointer
abbrev pub IsScalar : Option Ty → Type 0
IsScalar (Some (Whole kind)) = ⊤
IsScalar (Some (Pointer to)) = ⊤
IsScalar (Some (Array of count)) = ⊥
IsScalar (Some (Struct members)) = ⊥
IsScalar None = ⊥

-- the type of a leaf of a type that is nested at most so deep: that of the part that holds it, and of
-- a type without parts the type itself
abbrev pub leaf_type_within : ℕ → List Ty → ℕ → ℕ → ℕ
leaf_type_within zero types ty leaf = ty
leaf_type_within (suc depth) types ty leaf =
    option_map_or (λ part. leaf_type_within depth types part.ty (leaf - part.first)) (part_at types ty leaf) ty

-- the type of a leaf of elements of a type in a row
abbrev pub leaf_type : List Ty → ℕ → ℕ → ℕ
leaf_type types ty leaf = leaf_type_within (suc ty) types ty (leaf % leaves_of types ty)

-- the type that a pointer type points to, and 0 where it is none
abbrev pub pointee_of : Option Ty → ℕ
pointee_of (Some (Pointer to)) = to
pointee_of _ = 0
