-- What the search for a layout by its name answers.
use Rattle.std.specs.Prelude.{ℕ, ◌≡◌, List, Option, Some, None, Result, Ok, Err}
use Rattle.porch_edge.specs.Files.{Files}
use Rattle.porch_layout.specs.declared.layout.Layout.{Layout}
use Rattle.porch_layout.specs.declared.fault.LayoutFault.{LayoutFault}
use Rattle.porch_layout.specs.declared.fault.LayoutFault.TheVariants.{BadLayout}
use Rattle.porch_layout.specs.Files.{layout_of}
use Rattle.porch_cli.specs.declared.naming.NamingStop.{NamingStop}
use Rattle.porch_cli.specs.declared.naming.NamingStop.TheVariants as stop
use Rattle.porch_cli.specs.Layouts.{layout_told, IsAsTold}

-- what was found is as it was told, unless memory was refused or the disk failed
abbrev pub IsFound : Option (Result Layout LayoutFault) → Result Layout NamingStop → Type 0
IsFound told (Ok layout) = IsAsTold told (Ok layout)
IsFound told (Err (stop.BadLayout key rule)) = IsAsTold told (Err (BadLayout key rule))
IsFound told (Err stop.DiskFault) = Unit {0}
IsFound told (Err stop.NoMemory) = Unit {0}

-- of a text, of the file of a disk, and of a name
abbrev pub IsInText : List ℕ → List ℕ → Result Layout NamingStop → Type 0
IsInText text name found = IsFound (Some (layout_of text name)) found

abbrev pub in_file : Option Files → List ℕ → Option (Result Layout LayoutFault)
in_file None name = None
in_file (Some files) name = Some (layout_of files.layouts name)

abbrev pub IsInFile : Option Files → List ℕ → Result Layout NamingStop → Type 0
IsInFile files name found = IsFound (in_file files name) found

abbrev pub IsNamed : Option Files → List ℕ → Result Layout NamingStop → Type 0
IsNamed files name found = IsFound (layout_told files name) found
