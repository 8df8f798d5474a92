-- Which drafts are begun programs, and the text that was read for one.
use Rattle.std.specs.Prelude.{◌≡◌, ℕ, ◌≤◌, ◌^◌, IsTrue, List, [], ◌++◌, drop, length, ⊤}
use Rattle.std.specs.List.{list_all, AllByRecursion}
use Rattle.porch_flat.specs.declared.flat.GlobalObject.{GlobalObject}
use Rattle.porch_flat.specs.declared.whole.Function.{Function}
use Rattle.porch_flat.specs.whole.Flats.{is_built, is_said, is_function_name}
use Rattle.porch_flat_text.specs.declared.draft.Draft.{Draft}
use Rattle.porch_flat_text.specs.declared.draft.Phase.{Phase}
use Rattle.porch_flat_text.specs.declared.draft.Phase.TheVariants as phase
use Rattle.porch_flat_line.specs.Text.{first_head, second_head}
use Rattle.porch_flat_text.specs.Fitting.{TypeFits, GlobalFits, FunctionFits}
use Rattle.porch_flat_text.specs.inside.Texts.{types_text, globals_text, vars_text, commands_text, begin_text, head_text, functions_text}
use Rattle.porch_flat_text.specs.inside.Drafts.{globals_of, functions_of}

pub record GoodGlobal (g : GlobalObject) : Type 0 where
  pub fits : GlobalFits g
  pub said : IsTrue (list_all is_said g.inits)

pub record GoodFunction (f : Function) : Type 0 where
  pub fits : FunctionFits f
  pub named : IsTrue (is_function_name f.name)

-- the parts that come later are empty
abbrev pub Ordered : Phase → Draft → Type 0
Ordered phase.Start d = (drop 8 d.types ≡ []) × (d.globals ≡ []) × (d.functions ≡ [])
Ordered phase.Second d = (drop 8 d.types ≡ []) × (d.globals ≡ []) × (d.functions ≡ [])
Ordered phase.Types d = (d.globals ≡ []) × (d.functions ≡ [])
Ordered phase.Globals d = d.functions ≡ []
Ordered p d = ⊤

-- the function that goes on
abbrev pub Opened : Phase → Function → Type 0
Opened phase.Variables f = GoodFunction f
Opened phase.Commands f = GoodFunction f
Opened p f = ⊤

pub record Good (d : Draft) : Type 0 where
  pub order : Ordered d.phase d
  pub eight : 8 ≤ length d.types
  pub built : IsTrue (list_all is_built (drop 8 d.types))
  pub type_fits : AllByRecursion TypeFits (drop 8 d.types)
  pub globals : AllByRecursion GoodGlobal d.globals
  pub global : GoodGlobal d.global
  pub global_count : length (globals_of d.phase d.globals d.global) ≤ 2 ^ 32
  pub functions : AllByRecursion GoodFunction d.functions
  pub function : Opened d.phase d.function
  pub function_count : length (functions_of d.phase d.functions d.function) ≤ 2 ^ 32

-- the text of the functions, up to where the last one goes on
abbrev pub functions_read : Phase → List Function → Function → List ℕ
functions_read phase.Variables fs f = functions_text 0 fs ++ (head_text (length fs) f ++ vars_text 0 f.vars)
functions_read phase.Commands fs f = functions_text 0 fs ++ (head_text (length fs) f ++ (vars_text 0 f.vars ++ (begin_text ++ commands_text f.commands)))
functions_read p fs f = functions_text 0 fs

abbrev pub body_read : Draft → List ℕ
body_read d = types_text 8 (drop 8 d.types) ++ (globals_text 0 (globals_of d.phase d.globals d.global) ++ functions_read d.phase d.functions d.function)

-- the text that was read
abbrev pub text_read : Phase → Draft → List ℕ
text_read phase.Start d = []
text_read phase.Second d = first_head
text_read p d = first_head ++ (second_head ++ body_read d)
