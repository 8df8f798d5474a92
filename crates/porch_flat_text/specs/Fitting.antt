-- Which programs have numbers that a text can say: numbers of 32 bits, constants of 128, also where things are counted.
use Rattle.std.specs.Prelude.{◌<◌, ◌≤◌, ◌^◌, length, drop, IsTrue, ⊤}
use Rattle.std.specs.List.{AllByRecursion}
use Rattle.std.specs.Int.RustNames.{FitsSigned}
use Rattle.std.specs.Int.{w128}
use Rattle.porch_types.specs.declared.shapes.Ty.{Ty}
use Rattle.porch_flat.specs.declared.flat.GlobalObject.{GlobalObject}
use Rattle.porch_flat.specs.declared.whole.Function.{Function}
use Rattle.porch_flat.specs.declared.whole.Flat.{Flat}
use Rattle.porch_flat.specs.whole.Flats.{IsFlat, is_name}
use Rattle.porch_flat_line.specs.Text.{Argument, number, variable, constant, nowhere, void, name, Row, type_row, init_row, command_row, result_type}

abbrev pub ArgumentFits : Argument → Type 0
ArgumentFits (number n) = n < 2 ^ 32
ArgumentFits (variable v) = v < 2 ^ 32
ArgumentFits (constant z) = FitsSigned w128 z
ArgumentFits nowhere = ⊤
ArgumentFits void = ⊤
ArgumentFits (name bytes) = IsTrue (is_name bytes)

abbrev pub RowFits : Row → Type 0
RowFits r = AllByRecursion ArgumentFits r.arguments

abbrev pub TypeFits : Ty → Type 0
TypeFits ty = RowFits (type_row 0 ty)

pub record GlobalFits (g : GlobalObject) : Type 0 where
  pub ty : g.ty < 2 ^ 32
  pub inits : AllByRecursion (λ init. RowFits (init_row 0 init)) g.inits

pub record FunctionFits (f : Function) : Type 0 where
  pub result : ArgumentFits (result_type f.result)
  pub params : f.params < 2 ^ 32
  pub vars : AllByRecursion (λ ty. ty < 2 ^ 32) f.vars
  pub count : length f.vars ≤ 2 ^ 32
  pub commands : AllByRecursion (λ c. RowFits (command_row c)) f.commands

-- a program that a text can say
pub record IsSayable (flat : Flat) : Type 0 where
  pub form : IsFlat flat
  pub types : AllByRecursion TypeFits (drop 8 flat.types)
  pub globals : AllByRecursion GlobalFits flat.globals
  pub global_count : length flat.globals ≤ 2 ^ 32
  pub functions : AllByRecursion FunctionFits flat.functions
  pub function_count : length flat.functions ≤ 2 ^ 32
