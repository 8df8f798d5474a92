-- What the code's stages are as plain data.
use Rattle.std.specs.Prelude.{ℕ, List, [], ◌∷◌, map, fold}
use Rattle.porch_tree.specs.Views.{declarator_of, initial_of, declaration_of}
use Rattle.porch_parse.specs.declared.frame.Frame as code_frame
use Rattle.porch_parts.specs.declared.part.Part as code_part
use Rattle.porch_parts.specs.Shown as parts
use Rattle.porch_declarations.specs.declared.stage.Brace as code_brace
use Rattle.porch_declarations.specs.declared.stage.Declarer as code_declarer
use Rattle.porch_declarations.specs.declared.stage.Stage as code_stage
use Rattle.porch_declarations.specs.declared.stage.Stage.TheVariants as stage
use Rattle.porch_declarations.specs.Declarations.{Braces, State, at_start, in_typed, in_declared, at_initial, in_value, behind_initial, over, headed, broken}

module _ (text : List ℕ) where
  abbrev pub brace_of : code_brace.Brace → Braces
  brace_of b = record { at = b.at; items = map (initial_of text) b.items }

  -- The code has the innermost braces last.
  abbrev pub braces_of : List code_brace.Brace → List Braces
  braces_of = fold (λ above b. brace_of b ∷ above) []

  abbrev pub stage_of : code_declarer.Declarer → code_stage.Stage → State
  stage_of w stage.AtStart = at_start
  stage_of w (stage.InTyped k t) = in_typed k (parts.state_of text w.reader.frames w.reader.parts t)
  stage_of w (stage.InDeclared h t) =
      in_declared (declaration_of text h) (parts.state_of text w.reader.frames w.reader.parts t)
  stage_of w (stage.AtInitial h d) =
      at_initial (declaration_of text h) (declarator_of text d) (braces_of w.braces)
  stage_of w (stage.InValue h d t) =
      in_value (declaration_of text h) (declarator_of text d) (braces_of w.braces)
      (parts.state_of text w.reader.frames w.reader.parts t)
  stage_of w (stage.BehindInitial h d i) =
      behind_initial (declaration_of text h) (declarator_of text d) (braces_of w.braces) (initial_of text i)
  stage_of w (stage.Over h) = over (declaration_of text h)
  stage_of w (stage.Headed h d) = headed (declaration_of text h) (declarator_of text d)
  stage_of w stage.Broken = broken
