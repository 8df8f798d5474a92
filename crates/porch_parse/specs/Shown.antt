-- What the builder's frames are as plain data.
use Rattle.std.specs.Prelude.{ℕ, nat_lt, Bool, false, List, [], ◌∷◌, map, fold}
use Rattle.porch_tree.specs.declared.tree.Infix.{Infix}
use Rattle.porch_tree.specs.declared.tree.Expr as code_expr
use Rattle.porch_tree.specs.Mirror.{Expr}
use Rattle.porch_tree.specs.Views.{expr_of, suffix_of, type_name_of}
use Rattle.porch_parse.specs.declared.frame.Operand as code_operand
use Rattle.porch_parse.specs.declared.frame.Frame as code_frame
use Rattle.porch_parse.specs.declared.frame.Frame.TheVariants as frame
use Rattle.porch_parse.specs.declared.phase.Phase as code_phase
use Rattle.porch_parse.specs.declared.phase.Phase.TheVariants as phase
use Rattle.porch_parse.specs.Building.{State, awaits, behind, at_member, opened, at_type, over, broken, Operand, Frame, behind_prefix, behind_infix, behind_colon, behind_assigning, behind_comma, in_parentheses, behind_question, in_brackets, in_arguments, behind_cast, in_cast, in_size, alone, frame_number, built, Closed}

module _ (text : List ℕ) where
  abbrev pub infixed_of : Infix × code_expr.Expr → Infix × Expr
  infixed_of x = (x.0, expr_of text x.1)

  abbrev pub operand_of : code_operand.Operand → Operand
  operand_of o = record { core = expr_of text o.core; suffixes = map (suffix_of text) o.suffixes }

  abbrev pub frame_of : code_frame.Frame → Frame
  frame_of (frame.Prefix at p) = behind_prefix at p
  frame_of (frame.Infix e es o) = behind_infix (expr_of text e) (map infixed_of es) o
  frame_of (frame.Colon c e) = behind_colon (expr_of text c) (expr_of text e)
  frame_of (frame.Assigning a e) = behind_assigning a (expr_of text e)
  frame_of (frame.Comma e es) = behind_comma (expr_of text e) (map (expr_of text) es)
  frame_of (frame.Parentheses at) = in_parentheses at
  frame_of (frame.Question c) = behind_question (expr_of text c)
  frame_of (frame.Brackets o) = in_brackets (operand_of o)
  frame_of (frame.Arguments o es) = in_arguments (operand_of o) (map (expr_of text) es)
  frame_of (frame.Cast at t) = behind_cast at (type_name_of text t)
  frame_of (frame.InCast at) = in_cast at
  frame_of (frame.InSize at) = in_size at
  frame_of frame.Alone = alone

  -- The code has the innermost frame last.
  abbrev pub frames_of : List code_frame.Frame → List Frame
  frames_of = fold (λ above f. frame_of f ∷ above) []

  abbrev pub state_of : List code_frame.Frame → code_phase.Phase → State
  state_of fs phase.Awaits = awaits (frames_of fs)
  state_of fs (phase.Behind o) = behind (frames_of fs) (operand_of o)
  state_of fs (phase.Member far o) = at_member far (frames_of fs) (operand_of o)
  state_of fs (phase.Opened at) = opened (frames_of fs) at
  state_of fs phase.AtType = at_type (frames_of fs)
  state_of fs (phase.Over e) = over (frames_of fs) (expr_of text e)
  state_of fs phase.Broken = broken

-- whether the innermost frame binds tighter
abbrev pub closes : ℕ → List Frame → Bool
closes n [] = false
closes n (f ∷ fs) = nat_lt n (frame_number f)

-- what stands when the innermost frame has ended
abbrev pub ended : List Frame → Expr → Closed
ended [] e = record { frames = []; value = e }
ended (f ∷ fs) e = record { frames = fs; value = built f e }
