-- The types that entries hold.
use Rattle.std.specs.Prelude.{List, map}
use Rattle.porch_types.specs.declared.shapes.Ty.{Ty}
use Rattle.porch_types.specs.declared.entries.Entry.{Entry}

-- the types of these entries
abbrev pub types_of : List Entry → List Ty
types_of entries = map (λ entry. entry.ty) entries
