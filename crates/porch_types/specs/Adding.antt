-- What a list of types refuses.
use Rattle.std.specs.Prelude.{◌≡◌, ℕ, ◌-◌, ◌^◌, ◌==◌, nat_le, min, if◌then◌else◌, List, length, Option, Some, None}
use Rattle.std.specs.List.{find}
use Rattle.porch_types.specs.declared.shapes.Ty.{Ty}
use Rattle.porch_types.specs.declared.types.TypeFault.{TypeFault}
use Rattle.porch_types.specs.declared.types.TypeFault.TheVariants.{Later, Empty, TooLarge, NoMemory}
use Rattle.porch_types.specs.Leaves.{parts_of, width_of, leaf_count, leaves_of, MOST_LEAVES}

-- the first part of a type that is not below this number
abbrev pub later_part : ℕ → Ty → Option ℕ
later_part number ty = find (λ part. nat_le number part) (parts_of ty)

-- the first of the three faults: a later part, no part at all, too many leaves
abbrev pub fault_of : Option ℕ → ℕ → ℕ → Option TypeFault
fault_of (Some number) width leaves = Some (Later number)
fault_of None width leaves =
    if width == 0 then Some Empty
    else if nat_le leaves MOST_LEAVES then None
    else Some (TooLarge (min leaves (2 ^ 64 - 1)))

-- why a list of types does not take this type as its next one
abbrev pub add_fault : List Ty → Ty → Option TypeFault
add_fault types ty = fault_of (later_part (length types) ty) (width_of ty) (leaf_count (leaves_of types) ty)

-- the type is refused for its fault, or, where it has none, for want of memory
abbrev pub IsRefusal : Option TypeFault → TypeFault → Type 0
IsRefusal (Some expected) fault = fault ≡ expected
IsRefusal None fault = fault ≡ NoMemory
