-- What types point to.
use Rattle.std.specs.Prelude.{ℕ, nat_lt, if◌then◌else◌, List, [], Option, Some, None}
use Rattle.porch_types.specs.declared.shapes.Ty.{Ty}
use Rattle.porch_types.specs.declared.shapes.Ty.TheVariants.{Whole, Pointer, Array, Struct}
use Rattle.porch_check.specs.Sealing.{Sealed}

-- what a type points to; where it is no pointer, another number
abbrev pub pointee : (other : ℕ) → Ty → ℕ
pointee other (Pointer to) = to
pointee other (Whole kind) = other
pointee other (Array of count) = other
pointee other (Struct members) = other

-- a place among so many, if it is one
abbrev pub found_at : (count place : ℕ) → Option ℕ
found_at count place = if nat_lt place count then Some place else None

-- a program's own types, and no pointer yet
abbrev pub own_sealed : List Ty → Sealed
own_sealed own = record { types = own; pointers = [] }
