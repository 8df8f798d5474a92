-- Building the tree of a text token by token: a stack of frames, one for each statement, block or function that
-- is still to be ended, and what stands in front of the next token. Expressions and declarations are read
-- elsewhere. Whether the tokens are a unit isn't looked at where another token can't come, so a token that is
-- always the same is passed by.
use Rattle.std.specs.Prelude.{ℕ, Bool, true, false, ◌||◌, not, if◌then◌else◌, List, [], ◌∷◌, ◌++◌, Option, Some, None}
use Rattle.porch_tree.specs.declared.word.Keyword.{Keyword}
use Rattle.porch_tree.specs.declared.word.Keyword.TheVariants as key
use Rattle.porch_tree.specs.declared.word.Mark.{Mark}
use Rattle.porch_tree.specs.declared.word.Mark.TheVariants as mark
use Rattle.porch_tree.specs.declared.word.Word.{Word}
use Rattle.porch_tree.specs.declared.word.Word.TheVariants as word
use Rattle.porch_tree.specs.Mirror.{Expr, Base, Perhaps, absent, present, Declarator, Entry, Declaration, Stmt, block, evaluate, choose, choose_else, while_loop, do_loop, for_loop, switch, break, continue, give, SwitchEntry, case, default, stmt, Definition, Item, typedef, declaration, function, TranslationUnit}
use Rattle.porch_tree.specs.Names.{name_in}
use Rattle.porch_tree.specs.Views.{stmts_of, entries_of}
use Rattle.porch_tree.specs.Pieces.{Spelled}
use Rattle.porch_parts.specs.Parts as parts
use Rattle.porch_parts.specs.Parts.{begins}
use Rattle.porch_parts.specs.Ends.{at_whole, at_single, Found, going, found_expr, found_in}
use Rattle.porch_declarations.specs.Declarations as declarations
use Rattle.porch_declarations.specs.Declarations.{is_static}
use Rattle.porch_unit.specs.declared.lead.Lead.{Lead}
use Rattle.porch_unit.specs.declared.lead.Lead.TheVariants as lead

-- What is still to be ended. A statement in a block or in a switch stands behind others.
pub data Frame : Type 0 where
  -- a base with `static` before it or not, a declarator, and the block of a function
  in_body : Declaration → Declarator → List Declaration → List Stmt → Frame
  in_block : (at : ℕ) → List Declaration → List Stmt → Frame
  in_switch : (at : ℕ) → Expr → List SwitchEntry → Frame
  behind_if : (at : ℕ) → Expr → Frame
  behind_else : (at : ℕ) → Expr → Stmt → Frame
  behind_while : (at : ℕ) → Expr → Frame
  behind_do : (at : ℕ) → Frame
  behind_for : (at : ℕ) → (start condition next : Perhaps) → Frame

-- what an expression is there for
pub data Purpose : Type 0 where
  to_evaluate : Purpose
  to_choose : (at : ℕ) → Purpose
  to_repeat : (at : ℕ) → Purpose
  to_repeat_behind : (at : ℕ) → Stmt → Purpose
  to_start : (at : ℕ) → Purpose
  to_go_on : (at : ℕ) → (start : Perhaps) → Purpose
  to_step : (at : ℕ) → (start condition : Perhaps) → Purpose
  to_switch : (at : ℕ) → Purpose
  to_give : (at : ℕ) → Purpose
  to_label : (at : ℕ) → Purpose

pub data Point : Type 0 where
  -- between items, and behind a typedef
  at_item : Point
  behind_typedef : Point
  in_typedef : declarations.State → Point
  in_item : declarations.State → Point
  -- in a block: a declaration, or a statement, may stand here
  in_declaration : declarations.State → Point
  at_first : Point
  at_statement : Point
  -- a token is passed by in front of an expression, of an expression or none, of the end of a statement, of the
  -- entries of a switch, and behind `default`
  at_parenthesis : Purpose → Point
  at_value : Purpose → Point
  in_value : Purpose → parts.State → Point
  at_end : Stmt → Point
  at_brace : (at : ℕ) → Expr → Point
  at_colon : (at : ℕ) → Point
  -- a statement has ended
  ended : Stmt → Point
  -- no unit has these tokens
  broken : Point

-- The innermost frame comes first, and the items stand in their order.
pub record State : Type 0 where
  pub items : List Item
  pub frames : List Frame
  pub point : Point

abbrev pub state : List Item → List Frame → Point → State
state xs fs x = record { items = xs; frames = fs; point = x }

-- What words are where a statement can stand.
abbrev pub key_lead : Keyword → Lead
key_lead key.If = lead.If
key_lead key.While = lead.While
key_lead key.Do = lead.Do
key_lead key.For = lead.For
key_lead key.Switch = lead.Switch
key_lead key.Break = lead.Break
key_lead key.Continue = lead.Continue
key_lead key.Return = lead.Return
key_lead key.Case = lead.Case
key_lead key.Default = lead.Default
key_lead k = lead.Other

abbrev pub mark_lead : Mark → Lead
mark_lead mark.OpenBrace = lead.OpensBlock
mark_lead mark.CloseBrace = lead.Closes
mark_lead mark.Semicolon = lead.EndsEmpty
mark_lead m = lead.Other

abbrev pub lead_of : Word → Lead
lead_of (word.Key k) = key_lead k
lead_of (word.Mark m) = mark_lead m
lead_of w = lead.Other

abbrev pub is_typedef_key : Keyword → Bool
is_typedef_key key.Typedef = true
is_typedef_key k = false

abbrev pub is_typedef : Word → Bool
is_typedef (word.Key k) = is_typedef_key k
is_typedef w = false

abbrev pub is_else_key : Keyword → Bool
is_else_key key.Else = true
is_else_key k = false

abbrev pub is_else : Word → Bool
is_else (word.Key k) = is_else_key k
is_else w = false

abbrev pub is_ending_mark : Mark → Bool
is_ending_mark mark.Semicolon = true
is_ending_mark mark.CloseParenthesis = true
is_ending_mark m = false

-- It ends an expression that isn't there.
abbrev pub is_ending : Word → Bool
is_ending (word.Mark m) = is_ending_mark m
is_ending w = false

abbrev pub broken_state : List Item → State
broken_state xs = state xs [] broken

-- a label among the entries of a switch
abbrev pub labelled : List Item → List Frame → SwitchEntry → State
labelled xs (in_switch at e es ∷ fs) x = state xs (in_switch at e (es ++ x ∷ []) ∷ fs) at_statement
labelled xs fs x = broken_state xs

-- The expression that stands there for this, or none, ended.
abbrev pub given : List Item → List Frame → Purpose → Perhaps → State
given xs fs to_evaluate e = state xs fs (ended (evaluate e))
given xs fs (to_choose at) (present e) = state xs (behind_if at e ∷ fs) at_statement
given xs fs (to_repeat at) (present e) = state xs (behind_while at e ∷ fs) at_statement
given xs fs (to_repeat_behind at s) (present e) = state xs fs (at_end (do_loop at s e))
given xs fs (to_start at) e = state xs fs (at_value (to_go_on at e))
given xs fs (to_go_on at a) e = state xs fs (at_value (to_step at a e))
given xs fs (to_step at a b) e = state xs (behind_for at a b e ∷ fs) at_statement
given xs fs (to_switch at) (present e) = state xs fs (at_brace at e)
given xs fs (to_give at) e = state xs fs (ended (give at e))
given xs fs (to_label at) (present e) = labelled xs fs (case at e)
given xs fs p e = broken_state xs

-- `}`
abbrev pub closed : List Item → List Frame → State
closed xs (in_block at ds ss ∷ fs) = state xs fs (ended (block at ds (stmts_of ss)))
closed xs (in_switch at e es ∷ fs) = state xs fs (ended (switch at e (entries_of es)))
closed xs (in_body h d ds ss ∷ fs) =
    state (xs ++ function (record { fixed = h.fixed; base = h.base; declarator = d; declarations = ds; body = stmts_of ss }) ∷ []) fs at_item
closed xs fs = broken_state xs

abbrev pub value_on : List Item → List Frame → Purpose → Found → State
value_on xs fs p (going s) = state xs fs (in_value p s)
value_on xs fs p (found_expr e) = given xs fs p (present e)
value_on xs fs p x = broken_state xs

-- `b` says whether a type can begin with this token.
abbrev pub value_step : Bool → List Item → List Frame → Purpose → parts.State → Word → Spelled → State
value_step b xs fs p s w t = value_on xs fs p (found_in (parts.step_at b s w t))

abbrev pub is_label : Purpose → Bool
is_label (to_label at) = true
is_label p = false

-- where the reader begins, for an expression without commas of its own or with
abbrev pub reader_for : Bool → parts.State
reader_for single = if single then at_single else at_whole

abbrev pub begun_step : Bool → List Item → List Frame → Purpose → Word → Spelled → State
begun_step b xs fs p w t =
    if is_ending w then given xs fs p absent else value_step b xs fs p (reader_for (is_label p)) w t

abbrev pub lead_step : Bool → List Item → List Frame → Lead → Word → Spelled → State
lead_step b xs fs lead.OpensBlock w t = state xs (in_block t.at [] [] ∷ fs) at_first
lead_step b xs fs lead.Closes w t = closed xs fs
lead_step b xs fs lead.EndsEmpty w t = state xs fs (ended (evaluate absent))
lead_step b xs fs lead.If w t = state xs fs (at_parenthesis (to_choose t.at))
lead_step b xs fs lead.While w t = state xs fs (at_parenthesis (to_repeat t.at))
lead_step b xs fs lead.Do w t = state xs (behind_do t.at ∷ fs) at_statement
lead_step b xs fs lead.For w t = state xs fs (at_parenthesis (to_start t.at))
lead_step b xs fs lead.Switch w t = state xs fs (at_parenthesis (to_switch t.at))
lead_step b xs fs lead.Break w t = state xs fs (at_end (break t.at))
lead_step b xs fs lead.Continue w t = state xs fs (at_end (continue t.at))
lead_step b xs fs lead.Return w t = state xs fs (at_value (to_give t.at))
lead_step b xs fs lead.Case w t = state xs fs (at_value (to_label t.at))
lead_step b xs fs lead.Default w t = state xs fs (at_colon t.at)
lead_step b xs fs lead.Other w t = value_step b xs fs to_evaluate (reader_for false) w t

abbrev pub statement_step : Bool → List Item → List Frame → Word → Spelled → State
statement_step b xs fs w t = lead_step b xs fs (lead_of w) w t

-- Whether a frame ends with the statement in it, in front of a word that is `else` or not.
abbrev pub is_ended : (is_else : Bool) → Frame → Bool
is_ended o (behind_if at e) = not o
is_ended o (behind_else at e s) = true
is_ended o (behind_while at e) = true
is_ended o (behind_for at a b c) = true
is_ended o f = false

-- what a frame and the statement in it are
abbrev pub built : Frame → Stmt → Stmt
built (behind_if at e) s = choose at e s
built (behind_else at e x) s = choose_else at e x s
built (behind_while at e) s = while_loop at e s
built (behind_for at a b c) s = for_loop at a b c s
built f s = s

pub record Closed : Type 0 where
  pub frames : List Frame
  pub value : Stmt

-- what stands when all frames have ended that end with it
abbrev pub ended_all : (is_else : Bool) → List Frame → Stmt → Closed
ended_all o [] s = record { frames = []; value = s }
ended_all o (f ∷ fs) s = if is_ended o f then ended_all o fs (built f s) else record { frames = f ∷ fs; value = s }

-- A statement ended in front of this token, in a frame that goes on.
abbrev pub continued : Bool → List Item → List Frame → Stmt → Word → Spelled → State
continued b xs (behind_if at e ∷ fs) s w t = state xs (behind_else at e s ∷ fs) at_statement
continued b xs (behind_do at ∷ fs) s w t = state xs fs (at_parenthesis (to_repeat_behind at s))
continued b xs (in_block at ds ss ∷ fs) s w t = statement_step b xs (in_block at ds (ss ++ s ∷ []) ∷ fs) w t
continued b xs (in_switch at e es ∷ fs) s w t = statement_step b xs (in_switch at e (es ++ stmt s ∷ []) ∷ fs) w t
continued b xs (in_body h d ds ss ∷ fs) s w t = statement_step b xs (in_body h d ds (ss ++ s ∷ []) ∷ fs) w t
continued b xs fs s w t = broken_state xs

abbrev pub ended_step : Bool → List Item → List Frame → Stmt → Word → Spelled → State
ended_step b xs fs s w t =
    continued b xs (ended_all (is_else w) fs s).frames (ended_all (is_else w) fs s).value w t

-- Declarations.

abbrev pub declared_in : List Item → List Frame → Declaration → State
declared_in xs (in_block at ds ss ∷ fs) d = state xs (in_block at (ds ++ d ∷ []) ss ∷ fs) at_first
declared_in xs (in_body h x ds ss ∷ fs) d = state xs (in_body h x (ds ++ d ∷ []) ss ∷ fs) at_first
declared_in xs fs d = broken_state xs

abbrev pub declared_on : List Item → List Frame → declarations.State → State
declared_on xs fs (declarations.over d) = declared_in xs fs d
declared_on xs fs s = state xs fs (in_declaration s)

abbrev pub first_step : Bool → List Item → List Frame → Word → Spelled → State
first_step b xs fs w t =
    if b || is_static w then declared_on xs fs (declarations.step_at b declarations.at_start w t)
    else statement_step b xs fs w t

abbrev pub item_on : List Item → List Frame → declarations.State → State
item_on xs fs (declarations.over d) = state (xs ++ declaration d ∷ []) fs at_item
item_on xs fs (declarations.headed h d) = state xs (in_body h d [] [] ∷ fs) at_first
item_on xs fs s = state xs fs (in_item s)

-- the typedef of its last entry, of which there is one
abbrev pub typedef_from : Base → List Entry → List Item
typedef_from b [] = []
typedef_from b (e ∷ []) = typedef b e.declarator ∷ []
typedef_from b (e ∷ f ∷ es) = typedef_from b (f ∷ es)

abbrev pub typedef_on : List Item → List Frame → declarations.State → State
typedef_on xs fs (declarations.over d) = state (xs ++ typedef_from d.base d.entries) fs behind_typedef
typedef_on xs fs s = state xs fs (in_typedef s)

abbrev pub item_step : Bool → List Item → List Frame → Word → Spelled → State
item_step b xs fs w t =
    if is_typedef w then state xs fs (in_typedef declarations.at_start)
    else item_on xs fs (declarations.step_at b declarations.at_start w t)

abbrev pub point_step : Bool → List Item → List Frame → Point → Word → Spelled → State
point_step b xs fs at_item w t = item_step b xs fs w t
point_step b xs fs behind_typedef w t = item_step b xs fs w t
point_step b xs fs (in_typedef s) w t = typedef_on xs fs (declarations.step_at b s w t)
point_step b xs fs (in_item s) w t = item_on xs fs (declarations.step_at b s w t)
point_step b xs fs (in_declaration s) w t = declared_on xs fs (declarations.step_at b s w t)
point_step b xs fs at_first w t = first_step b xs fs w t
point_step b xs fs at_statement w t = statement_step b xs fs w t
point_step b xs fs (at_parenthesis p) w t = state xs fs (at_value p)
point_step b xs fs (at_value p) w t = begun_step b xs fs p w t
point_step b xs fs (in_value p s) w t = value_step b xs fs p s w t
point_step b xs fs (at_end s) w t = state xs fs (ended s)
point_step b xs fs (at_brace at e) w t = state xs (in_switch at e [] ∷ fs) at_statement
point_step b xs fs (at_colon at) w t = labelled xs fs (default at)
point_step b xs fs (ended s) w t = ended_step b xs fs s w t
point_step b xs fs broken w t = broken_state xs

abbrev pub step_at : Bool → State → Word → Spelled → State
step_at b s w t = point_step b s.items s.frames s.point w t

abbrev pub is_behind_typedef : Point → Bool
is_behind_typedef behind_typedef = true
is_behind_typedef x = false

-- the name that the last item declares as a typedef, in front of others
abbrev pub with_last : List (List ℕ) → List Item → List (List ℕ)
with_last types [] = types
with_last types (typedef b d ∷ []) = name_in d ∷ types
with_last types (x ∷ []) = types
with_last types (x ∷ y ∷ ys) = with_last types (y ∷ ys)

-- A typedef name is one from behind the `;` of its typedef on.
abbrev pub learned : List (List ℕ) → State → List (List ℕ)
learned types s = if is_behind_typedef s.point then with_last types s.items else types

-- where the builder stands behind one more token, and behind these tokens, from these typedef names on
abbrev pub step : List (List ℕ) → State → Spelled → State
step types s t = step_at (begins types t.word t) s t.word t

abbrev pub run : List (List ℕ) → State → List Spelled → State
run types s [] = s
run types s (t ∷ ts) = run (learned types (step types s t)) (step types s t) ts

abbrev pub start : State
start = state [] [] at_item

abbrev pub ends_here : Point → Bool
ends_here at_item = true
ends_here behind_typedef = true
ends_here x = false

-- the unit that these tokens are
abbrev pub unit_in : State → Option TranslationUnit
unit_in s = if ends_here s.point then Some s.items else None

abbrev pub unit_of_tokens : List Spelled → Option TranslationUnit
unit_of_tokens ts = unit_in (run [] start ts)
