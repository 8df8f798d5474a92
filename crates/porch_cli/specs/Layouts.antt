-- Which layout a name stands for.
use Rattle.std.specs.Prelude.{ℕ, ◌≡◌, List, Option, Some, None, Result, Ok, Err}
use Rattle.porch_edge.specs.Files.{Files}
use Rattle.porch_layout.specs.declared.layout.Layout.{Layout}
use Rattle.porch_layout.specs.declared.fault.LayoutFault.{LayoutFault}
use Rattle.porch_layout.specs.Layouts.{built_in_of}
use Rattle.porch_layout.specs.Files.{layout_of}

abbrev pub told_by : Option Files → List ℕ → Option Layout → Option (Result Layout LayoutFault)
told_by files name (Some layout) = Some (Ok layout)
told_by None name None = None
told_by (Some files) name None = Some (layout_of files.layouts name)

-- The layout of a name, or why it has none: the built-in layout of that name, else what the layouts file says of it,
-- where the disk tells its files.
abbrev pub layout_told : Option Files → List ℕ → Option (Result Layout LayoutFault)
layout_told files name = told_by files name (built_in_of name)

-- it is what was told, where anything was
abbrev pub IsAsTold : Option (Result Layout LayoutFault) → Result Layout LayoutFault → Type 0
IsAsTold None found = Unit {0}
IsAsTold (Some told) found = found ≡ told
