-- The numbers of the kinds in each list of types.
use Rattle.std.specs.Prelude.{ℕ}
use Rattle.porch_types.specs.declared.shapes.Kind.{Kind}
use Rattle.porch_types.specs.declared.shapes.Kind.TheVariants.{Char, UChar, Short, UShort, Int, UInt, Long, ULong}

-- the number of the type that is a kind
abbrev pub kind_number : Kind → ℕ
kind_number Char = 0
kind_number UChar = 1
kind_number Short = 2
kind_number UShort = 3
kind_number Int = 4
kind_number UInt = 5
kind_number Long = 6
kind_number ULong = 7

-- the number of int
abbrev pub int_type : ℕ
int_type = kind_number Int
