-- The name of each file in a folder.
use Rattle.std.specs.Prelude.{ℕ, List, codes}
use Rattle.porch_edge.specs.declared.disk.FileName.{FileName}
use Rattle.porch_edge.specs.declared.disk.FileName.TheVariants.{Program, Output, CkA, CkB, Layouts, Input}

abbrev pub file_name : FileName → List ℕ
file_name Program = codes "program.ft.c"
file_name Output = codes "output"
file_name CkA = codes "ck.a"
file_name CkB = codes "ck.b"
file_name Layouts = codes "layouts.toml"
file_name Input = codes "input"
