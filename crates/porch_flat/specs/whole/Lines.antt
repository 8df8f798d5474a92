-- The lines of a program's text, behind the two that every text begins with. Lines are numbered from 1.
use Rattle.std.specs.Prelude.{ℕ, ◌+◌, ◌-◌, nat_lt, if◌then◌else◌, List, [], ◌∷◌, ◌++◌, length, drop, take, sum_by, slice_get, Option, Some, None}
use Rattle.porch_types.specs.declared.shapes.Ty.{Ty}
use Rattle.porch_flat.specs.declared.flat.Init.{Init}
use Rattle.porch_flat.specs.declared.flat.GlobalObject.{GlobalObject}
use Rattle.porch_flat.specs.declared.whole.Command.{Command}
use Rattle.porch_flat.specs.declared.whole.Function.{Function}
use Rattle.porch_flat.specs.declared.whole.Flat.{Flat}

-- What stands in a line, by the numbers that tell where: of the type, of the global and its initial value, of
-- the function and its variable or command.
pub data Line : Type 0 where
  type_line : (number : ℕ) → Ty → Line
  global_line : (number : ℕ) → GlobalObject → Line
  init_line : (number : ℕ) → GlobalObject → (place : ℕ) → Init → Line
  function_line : (number : ℕ) → Function → Line
  var_line : Function → (number ty : ℕ) → Line
  begin_line : Line
  command_line : Function → (place : ℕ) → Command → Line
  end_line : Line

abbrev pub type_lines : ℕ → List Ty → List Line
type_lines n [] = []
type_lines n (ty ∷ types) = type_line n ty ∷ type_lines (n + 1) types

abbrev pub init_lines : ℕ → GlobalObject → ℕ → List Init → List Line
init_lines n g i [] = []
init_lines n g i (init ∷ inits) = init_line n g i init ∷ init_lines n g (i + 1) inits

abbrev pub global_lines : ℕ → List GlobalObject → List Line
global_lines n [] = []
global_lines n (g ∷ globals) = global_line n g ∷ (init_lines n g 0 g.inits ++ global_lines (n + 1) globals)

abbrev pub var_lines : Function → ℕ → List ℕ → List Line
var_lines f v [] = []
var_lines f v (ty ∷ vars) = var_line f v ty ∷ var_lines f (v + 1) vars

abbrev pub command_lines : Function → ℕ → List Command → List Line
command_lines f at [] = end_line ∷ []
command_lines f at (c ∷ commands) = command_line f at c ∷ command_lines f (at + 1) commands

abbrev pub function_lines : ℕ → List Function → List Line
function_lines n [] = []
function_lines n (f ∷ functions) =
    function_line n f
    ∷ (var_lines f 0 f.vars ++ begin_line ∷ (command_lines f 0 f.commands ++ function_lines (n + 1) functions))

-- the eight kinds have no line
abbrev pub lines_of : Flat → List Line
lines_of flat =
    type_lines 8 (drop 8 flat.types) ++ (global_lines 0 flat.globals ++ function_lines 0 flat.functions)

-- what stands in a line
abbrev pub line_at : Flat → ℕ → Option Line
line_at flat line = if nat_lt line 3 then None else slice_get (lines_of flat) (line - 3)

-- the line behind the last
abbrev pub line_behind : Flat → ℕ
line_behind flat = length (lines_of flat) + 3

-- how many lines a global and a function have
abbrev pub global_size : GlobalObject → ℕ
global_size g = 1 + length g.inits

abbrev pub function_size : Function → ℕ
function_size f = length f.vars + length f.commands + 3

abbrev pub var_count : Option Function → ℕ
var_count None = 0
var_count (Some f) = length f.vars

-- the line of a function, and that of a command of it
abbrev pub line_of_function : Flat → (function : ℕ) → ℕ
line_of_function flat n =
    3 + length (drop 8 flat.types) + sum_by global_size flat.globals
    + sum_by function_size (take n flat.functions)

abbrev pub line_of_command : Flat → (function place : ℕ) → ℕ
line_of_command flat n place =
    line_of_function flat n + 2 + var_count (slice_get flat.functions n) + place
