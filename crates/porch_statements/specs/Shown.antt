-- What the code's frames and points are as plain data.
use Rattle.std.specs.Prelude.{ℕ, Option, Some, None, List, [], ◌∷◌, map, fold}
use Rattle.porch_tree.specs.declared.tree.Item as code_item
use Rattle.porch_tree.specs.Mirror.{Item}
use Rattle.porch_tree.specs.Views.{perhaps_of, expr_of, declarator_of, declaration_of, stmt_of, switch_entry_of, item_of}
use Rattle.porch_parts.specs.Shown as parts
use Rattle.porch_declarations.specs.Shown.{stage_of}
use Rattle.porch_statements.specs.declared.frame.Frame as code_frame
use Rattle.porch_statements.specs.declared.frame.Frame.TheVariants as frame
use Rattle.porch_statements.specs.declared.frame.Purpose as code_purpose
use Rattle.porch_statements.specs.declared.frame.Purpose.TheVariants as purpose
use Rattle.porch_statements.specs.declared.frame.Point as code_point
use Rattle.porch_statements.specs.declared.frame.Point.TheVariants as point
use Rattle.porch_statements.specs.declared.frame.Builder as code_builder
use Rattle.porch_unit.specs.Units.{Frame, in_body, in_block, in_switch, behind_if, behind_else, behind_while, behind_do, behind_for, Purpose, to_evaluate, to_choose, to_repeat, to_repeat_behind, to_start, to_go_on, to_step, to_switch, to_give, to_label, Point, at_item, behind_typedef, in_typedef, in_item, in_declaration, at_first, at_statement, at_parenthesis, at_value, in_value, at_end, at_brace, at_colon, ended, broken, State, state, broken_state}

module _ (text : List ℕ) where
  abbrev pub frame_of : code_frame.Frame → Frame
  frame_of (frame.Body h d ds ss) =
      in_body (declaration_of text h) (declarator_of text d) (map (declaration_of text) ds) (map (stmt_of text) ss)
  frame_of (frame.Block at ds ss) = in_block at (map (declaration_of text) ds) (map (stmt_of text) ss)
  frame_of (frame.Switch at e xs) = in_switch at (expr_of text e) (map (switch_entry_of text) xs)
  frame_of (frame.If at e) = behind_if at (expr_of text e)
  frame_of (frame.Else at e s) = behind_else at (expr_of text e) (stmt_of text s)
  frame_of (frame.While at e) = behind_while at (expr_of text e)
  frame_of (frame.Do at) = behind_do at
  frame_of (frame.For at a b c) = behind_for at (perhaps_of text a) (perhaps_of text b) (perhaps_of text c)

  -- The code has the innermost frame last.
  abbrev pub frames_of : List code_frame.Frame → List Frame
  frames_of = fold (λ above f. frame_of f ∷ above) []

  -- the frames from which the innermost was taken off, if there was one
  abbrev pub put_back : Option code_frame.Frame → List Frame → List Frame
  put_back None fs = []
  put_back (Some f) fs = frame_of f ∷ fs

  abbrev pub items_of : List code_item.Item → List Item
  items_of = map (item_of text)

  abbrev pub purpose_of : code_purpose.Purpose → Purpose
  purpose_of purpose.Evaluate = to_evaluate
  purpose_of (purpose.Choose at) = to_choose at
  purpose_of (purpose.Repeat at) = to_repeat at
  purpose_of (purpose.RepeatBehind at s) = to_repeat_behind at (stmt_of text s)
  purpose_of (purpose.Start at) = to_start at
  purpose_of (purpose.GoOn at a) = to_go_on at (perhaps_of text a)
  purpose_of (purpose.Step at a b) = to_step at (perhaps_of text a) (perhaps_of text b)
  purpose_of (purpose.Switch at) = to_switch at
  purpose_of (purpose.Give at) = to_give at
  purpose_of (purpose.Label at) = to_label at

  abbrev pub point_of : code_builder.Builder → code_point.Point → Point
  point_of b point.AtItem = at_item
  point_of b point.BehindTypedef = behind_typedef
  point_of b (point.InTypedef s) = in_typedef (stage_of text b.declarer s)
  point_of b (point.InItem s) = in_item (stage_of text b.declarer s)
  point_of b (point.InDeclaration s) = in_declaration (stage_of text b.declarer s)
  point_of b point.AtFirst = at_first
  point_of b point.AtStatement = at_statement
  point_of b (point.AtParenthesis p) = at_parenthesis (purpose_of p)
  point_of b (point.AtValue p) = at_value (purpose_of p)
  point_of b (point.InValue p t) =
      in_value (purpose_of p) (parts.state_of text b.declarer.reader.frames b.declarer.reader.parts t)
  point_of b (point.AtEnd s) = at_end (stmt_of text s)
  point_of b (point.AtBrace at e) = at_brace at (expr_of text e)
  point_of b (point.AtColon at) = at_colon at
  point_of b (point.Ended s) = ended (stmt_of text s)
  point_of b point.Broken = broken

  -- What is to be ended doesn't matter where no unit has the tokens.
  abbrev pub state_of : code_builder.Builder → code_point.Point → State
  state_of b point.Broken = broken_state (items_of b.items)
  state_of b x = state (items_of b.items) (frames_of b.frames) (point_of b x)
