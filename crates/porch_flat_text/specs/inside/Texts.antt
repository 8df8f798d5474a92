-- The text of a program part by part.
use Rattle.std.specs.Prelude.{ℕ, ◌+◌, List, [], ◌∷◌, ◌++◌, drop}
use Rattle.porch_types.specs.declared.shapes.Ty.{Ty}
use Rattle.porch_flat.specs.declared.flat.GlobalObject.{GlobalObject}
use Rattle.porch_flat.specs.declared.flat.Init.{Init}
use Rattle.porch_flat.specs.declared.whole.Command.{Command}
use Rattle.porch_flat.specs.declared.whole.Function.{Function}
use Rattle.porch_flat.specs.declared.whole.Flat.{Flat}
use Rattle.porch_flat.specs.whole.Lines.{function_line}
use Rattle.porch_flat_line.specs.declared.word.Word.TheVariants as word
use Rattle.porch_flat_line.specs.Text.{number, row, row_text, type_row, init_row, command_row, line_text, first_head, second_head}

abbrev pub types_text : ℕ → List Ty → List ℕ
types_text n [] = []
types_text n (ty ∷ types) = row_text (type_row n ty) ++ types_text (n + 1) types

abbrev pub inits_text : ℕ → List Init → List ℕ
inits_text n [] = []
inits_text n (init ∷ inits) = row_text (init_row n init) ++ inits_text n inits

abbrev pub global_head : ℕ → ℕ → List ℕ
global_head n ty = row_text (row word.Global (number n ∷ number ty ∷ []))

abbrev pub global_text : ℕ → GlobalObject → List ℕ
global_text n g = global_head n g.ty ++ inits_text n g.inits

abbrev pub globals_text : ℕ → List GlobalObject → List ℕ
globals_text n [] = []
globals_text n (g ∷ globals) = global_text n g ++ globals_text (n + 1) globals

abbrev pub vars_text : ℕ → List ℕ → List ℕ
vars_text n [] = []
vars_text n (ty ∷ vars) = row_text (row word.Var (number n ∷ number ty ∷ [])) ++ vars_text (n + 1) vars

abbrev pub commands_text : List Command → List ℕ
commands_text [] = []
commands_text (c ∷ commands) = row_text (command_row c) ++ commands_text commands

abbrev pub begin_text : List ℕ
begin_text = row_text (row word.Begin [])

abbrev pub end_text : List ℕ
end_text = row_text (row word.End [])

abbrev pub head_text : ℕ → Function → List ℕ
head_text n f = line_text (function_line n f)

abbrev pub function_text : ℕ → Function → List ℕ
function_text n f = head_text n f ++ (vars_text 0 f.vars ++ (begin_text ++ (commands_text f.commands ++ end_text)))

abbrev pub functions_text : ℕ → List Function → List ℕ
functions_text n [] = []
functions_text n (f ∷ functions) = function_text n f ++ functions_text (n + 1) functions

abbrev pub flat_text : Flat → List ℕ
flat_text flat =
    first_head ++ (second_head ++ (types_text 8 (drop 8 flat.types) ++ (globals_text 0 flat.globals ++ functions_text 0 flat.functions)))
