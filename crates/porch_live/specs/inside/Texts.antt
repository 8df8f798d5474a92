-- The bytes of a text, one by one.
use Rattle.std.specs.Prelude.{ℕ, List, ◌++◌, Result, Ok, Err}
use Rattle.porch_values.specs.declared.acts.Act.{Act}
use Rattle.porch_values.specs.declared.acts.Act.TheVariants as act
use Rattle.porch_objects.specs.Store.{Value, number, null, pointer, past, indeterminate}
use Rattle.porch_objects.specs.Meaning.{byte_of}

-- the byte of a number that is there
abbrev pub byte_in : Value → Result ℕ Act
byte_in (number z) = Ok (byte_of z)
byte_in null = Err act.Indeterminate
byte_in (pointer home leaf) = Err act.Indeterminate
byte_in (past home leaf until) = Err act.Indeterminate
byte_in indeterminate = Err act.Indeterminate

-- bytes before a text
abbrev pub with_bytes : List ℕ → Result (List ℕ) Act → Result (List ℕ) Act
with_bytes before (Ok bytes) = Ok (before ++ bytes)
with_bytes before (Err a) = Err a
