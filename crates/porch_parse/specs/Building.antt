-- Building the tree of an expression token by token: a stack of frames, one for each part that is still
-- to be ended, and what stands in front of the next token. The types in it are read elsewhere: the builder
-- says where one begins, and is given it.
--
-- A frame that a weaker operator ends has a number, the greater the tighter it binds: 14 for an operator
-- in front of its operand, 13 to 4 for the ten levels, 3 for what stands behind `:` and `=`, and 2 for
-- expressions with commas between them. What only a word of its own ends has 1 where commas stand between
-- its parts, and else 0. A word behind an operand ends all frames that bind tighter than it does.
use Rattle.std.specs.Prelude.{ℕ, ◌+◌, nat_lt, nat_eq, Bool, true, false, if◌then◌else◌, List, [], ◌∷◌, ◌++◌, Option, Some, None}
use Rattle.porch_tree.specs.declared.word.Word.{Word}
use Rattle.porch_tree.specs.declared.word.Word.TheVariants as word
use Rattle.porch_tree.specs.declared.word.Mark.{Mark}
use Rattle.porch_tree.specs.declared.word.Mark.TheVariants as mark
use Rattle.porch_tree.specs.declared.tree.Prefix.{Prefix}
use Rattle.porch_tree.specs.declared.tree.Prefix.TheVariants as prefix
use Rattle.porch_tree.specs.declared.tree.Infix.{Infix}
use Rattle.porch_tree.specs.declared.tree.Assigning.{Assigning}
use Rattle.porch_tree.specs.Words.{level_rank, infix_level}
use Rattle.porch_tree.specs.Mirror.{Name, Expr, name, whole, character, texts, nested, suffixed, prefixed, size_of, cast, row, conditional, assign, sequence, Suffix, index, call, member, arrow, increased, decreased, TypeName}
use Rattle.porch_tree.specs.Names.{takes_cast}
use Rattle.porch_tree.specs.Views.{exprs_of, operands_of, suffixes_of}
use Rattle.porch_tree.specs.Pieces.{Spelled}
use Rattle.porch_parse.specs.declared.part.Part.{Part}
use Rattle.porch_parse.specs.declared.part.Part.TheVariants as part
use Rattle.porch_parse.specs.declared.part.Start.{Start}
use Rattle.porch_parse.specs.declared.part.Start.TheVariants as start
use Rattle.porch_parse.specs.Parts.{part_of, start_of}

-- an operand with the suffixes that have been read
pub record Operand : Type 0 where
  pub core : Expr
  pub suffixes : List Suffix

pub data Frame : Type 0 where
  behind_prefix : (at : ℕ) → Prefix → Frame
  -- the first operand of a row, the further ones, and the operator in front of the one to come
  behind_infix : Expr → List (Infix × Expr) → Infix → Frame
  behind_colon : (condition chosen : Expr) → Frame
  behind_assigning : Assigning → (place : Expr) → Frame
  behind_comma : Expr → List Expr → Frame
  behind_cast : (at : ℕ) → TypeName → Frame
  in_parentheses : (at : ℕ) → Frame
  behind_question : (condition : Expr) → Frame
  in_brackets : Operand → Frame
  in_arguments : Operand → List Expr → Frame
  -- the type of a cast, and one whose size is taken
  in_cast : (at : ℕ) → Frame
  in_size : (at : ℕ) → Frame
  -- an expression without commas, in a part that is no expression
  alone : Frame

-- The innermost frame comes first.
pub data State : Type 0 where
  -- an operand comes next
  awaits : List Frame → State
  -- an operand has been read
  behind : List Frame → Operand → State
  -- a dot or an arrow has been read behind it
  at_member : (far : Bool) → List Frame → Operand → State
  -- `(` has been read, at a place, where a type in parentheses may stand
  opened : List Frame → (at : ℕ) → State
  -- a type begins with this very token
  at_type : List Frame → State
  -- the expression ended in front of this very token
  over : List Frame → Expr → State
  -- no expression has these tokens
  broken : State

-- The numbers.

-- of closing words and of `:`, of a comma, and of `?` and `=`
abbrev pub ends_number : ℕ
ends_number = 1

abbrev pub comma_number : ℕ
comma_number = 2

abbrev pub assigning_number : ℕ
assigning_number = 3

abbrev pub level_number : Infix → ℕ
level_number o = 4 + level_rank (infix_level o)

abbrev pub prefix_number : ℕ
prefix_number = 14

abbrev pub frame_number : Frame → ℕ
frame_number (behind_prefix at p) = prefix_number
frame_number (behind_infix e es o) = level_number o
frame_number (behind_colon c e) = assigning_number
frame_number (behind_assigning a e) = assigning_number
frame_number (behind_comma e es) = comma_number
frame_number (behind_cast at t) = prefix_number
frame_number (in_arguments o es) = ends_number
frame_number alone = ends_number
frame_number f = 0

abbrev pub operand : Expr → Operand
operand e = record { core = e; suffixes = [] }

abbrev pub suffixed_by : Operand → Suffix → Operand
suffixed_by o s = record { core = o.core; suffixes = o.suffixes ++ s ∷ [] }

abbrev pub value_at : Expr → List Suffix → Expr
value_at e [] = e
value_at e (s ∷ ss) = suffixed e (suffixes_of (s ∷ ss))

abbrev pub value_of : Operand → Expr
value_of o = value_at o.core o.suffixes

-- what a frame and the operand behind it are
abbrev pub built : Frame → Expr → Expr
built (behind_prefix at p) e = prefixed at p e
built (behind_infix x xs o) e = row (infix_level o) x (operands_of (xs ++ (o, e) ∷ []))
built (behind_colon c x) e = conditional c x e
built (behind_assigning a x) e = assign a x e
built (behind_comma x xs) e = sequence x (exprs_of (xs ++ e ∷ []))
built (behind_cast at t) e = cast at t e
built f e = e

pub record Closed : Type 0 where
  pub frames : List Frame
  pub value : Expr

-- what stands when all frames have ended that bind tighter
abbrev pub closed : ℕ → List Frame → Expr → Closed
closed n [] e = record { frames = []; value = e }
closed n (f ∷ fs) e =
    if nat_lt n (frame_number f) then closed n fs (built f e) else record { frames = f ∷ fs; value = e }

-- An operator goes on with a row of its level.
abbrev pub goes_on : Infix → List Frame → Bool
goes_on o (behind_infix x xs p ∷ fs) = nat_eq (level_number p) (level_number o)
goes_on o fs = false

abbrev pub extended : Infix → List Frame → Expr → State
extended o (behind_infix x xs p ∷ fs) e = awaits (behind_infix x (xs ++ (p, e) ∷ []) o ∷ fs)
extended o fs e = broken

abbrev pub operated : Infix → List Frame → Expr → State
operated o fs e = if goes_on o fs then extended o fs e else awaits (behind_infix e [] o ∷ fs)

-- A comma goes on with expressions or arguments, or ends what stands alone.
abbrev pub has_commas : List Frame → Bool
has_commas (behind_comma x xs ∷ fs) = true
has_commas (in_arguments o xs ∷ fs) = true
has_commas (alone ∷ fs) = true
has_commas fs = false

abbrev pub listed : List Frame → Expr → State
listed (behind_comma x xs ∷ fs) e = awaits (behind_comma x (xs ++ e ∷ []) ∷ fs)
listed (in_arguments o xs ∷ fs) e = awaits (in_arguments o (xs ++ e ∷ []) ∷ fs)
listed (alone ∷ fs) e = over fs e
listed fs e = broken

abbrev pub behind_the_comma : List Frame → Expr → State
behind_the_comma fs e = if has_commas fs then listed fs e else awaits (behind_comma e [] ∷ fs)

abbrev pub asked : List Frame → Expr → State
asked fs e = awaits (behind_question e ∷ fs)

abbrev pub assigned : Assigning → List Frame → Expr → State
assigned a fs e = awaits (behind_assigning a e ∷ fs)

abbrev pub behind_the_colon : List Frame → Expr → State
behind_the_colon (behind_question c ∷ fs) e = awaits (behind_colon c e ∷ fs)
behind_the_colon (alone ∷ fs) e = over fs e
behind_the_colon [] e = over [] e
behind_the_colon fs e = broken

abbrev pub behind_parenthesis : List Frame → Expr → State
behind_parenthesis (in_parentheses at ∷ fs) e = behind fs (operand (nested at e))
behind_parenthesis (in_arguments o xs ∷ fs) e = behind fs (suffixed_by o (call (exprs_of (xs ++ e ∷ []))))
behind_parenthesis (alone ∷ fs) e = over fs e
behind_parenthesis [] e = over [] e
behind_parenthesis fs e = broken

abbrev pub behind_bracket : List Frame → Expr → State
behind_bracket (in_brackets o ∷ fs) e = behind fs (suffixed_by o (index e))
behind_bracket (alone ∷ fs) e = over fs e
behind_bracket [] e = over [] e
behind_bracket fs e = broken

-- nothing but what stands alone, or nothing, is to be ended
abbrev pub stands_alone : List Frame → Bool
stands_alone [] = true
stands_alone (alone ∷ fs) = true
stands_alone fs = false

abbrev pub rest : List Frame → List Frame
rest [] = []
rest (f ∷ fs) = fs

abbrev pub behind_all : List Frame → Expr → State
behind_all fs e = if stands_alone fs then over (rest fs) e else broken

-- one more string literal
abbrev pub behind_text : List Frame → Expr → List Suffix → Name → State
behind_text fs (texts n ns) [] m = behind fs (operand (texts n (ns ++ m ∷ [])))
behind_text fs e ss m = broken

-- arguments end where none has been read
abbrev pub behind_nothing : List Frame → State
behind_nothing (in_arguments o [] ∷ fs) = behind fs (suffixed_by o (call (exprs_of [])))
behind_nothing fs = broken

-- the operator in front of the operand to come, with its place
abbrev pub top_prefix : List Frame → Option (ℕ × Prefix)
top_prefix (behind_prefix at p ∷ fs) = Some (at, p)
top_prefix fs = None

-- whether a type in parentheses may stand behind it
abbrev pub may_cast : Option (ℕ × Prefix) → Bool
may_cast None = true
may_cast (Some x) = takes_cast x.1

abbrev pub parenthesis : List Frame → (at : ℕ) → State
parenthesis fs at = if may_cast (top_prefix fs) then opened fs at else awaits (in_parentheses at ∷ fs)

abbrev pub sizeof_place : ℕ → Prefix → Option ℕ
sizeof_place at prefix.Sizeof = Some at
sizeof_place at p = None

abbrev pub sizeof_in : Option (ℕ × Prefix) → Option ℕ
sizeof_in None = None
sizeof_in (Some x) = sizeof_place x.0 x.1

-- A type in parentheses directly behind `sizeof` is that whose size is taken.
abbrev pub type_frames : Option ℕ → List Frame → (at : ℕ) → List Frame
type_frames (Some k) fs at = in_size k ∷ rest fs
type_frames None fs at = in_cast at ∷ fs

abbrev pub typed : List Frame → (at : ℕ) → State
typed fs at = at_type (type_frames (sizeof_in (top_prefix fs)) fs at)

abbrev pub spelt_name : Spelled → Name
spelt_name t = record { at = t.at; bytes = t.bytes }

abbrev pub start_step : List Frame → Start → Spelled → State
start_step fs start.Name t = behind fs (operand (name (spelt_name t)))
start_step fs start.Whole t = behind fs (operand (whole (spelt_name t)))
start_step fs start.Character t = behind fs (operand (character (spelt_name t)))
start_step fs start.Text t = behind fs (operand (texts (spelt_name t) []))
start_step fs (start.Prefix p) t = awaits (behind_prefix t.at p ∷ fs)
start_step fs start.Open t = parenthesis fs t.at
start_step fs start.Close t = behind_nothing fs
start_step fs start.Other t = broken

module _ (fs : List Frame) (o : Operand) where
  abbrev pub ending : {A : Type 0} → ℕ → (List Frame → Expr → A) → A
  ending n go = go (closed n fs (value_of o)).frames (closed n fs (value_of o)).value

  abbrev pub part_step : Part → Spelled → State
  part_step (part.Infix p) t = ending (level_number p) (operated p)
  part_step (part.Assigning a) t = ending assigning_number (assigned a)
  part_step part.Question t = ending assigning_number asked
  part_step part.Colon t = ending ends_number behind_the_colon
  part_step part.Comma t = ending comma_number behind_the_comma
  part_step part.Open t = awaits (in_arguments o [] ∷ fs)
  part_step part.Close t = ending ends_number behind_parenthesis
  part_step part.OpenBracket t = awaits (in_brackets o ∷ fs)
  part_step part.CloseBracket t = ending ends_number behind_bracket
  part_step part.Dot t = at_member false fs o
  part_step part.Arrow t = at_member true fs o
  part_step part.Increase t = behind fs (suffixed_by o increased)
  part_step part.Decrease t = behind fs (suffixed_by o decreased)
  part_step part.End t = ending ends_number behind_all
  part_step part.Text t = behind_text fs o.core o.suffixes (spelt_name t)
  part_step part.Other t = broken

abbrev pub member_of : Bool → Name → Suffix
member_of far n = if far then arrow n else member n

abbrev pub member_step : Bool → List Frame → Operand → Word → Spelled → State
member_step far fs o word.Name t = behind fs (suffixed_by o (member_of far (spelt_name t)))
member_step far fs o w t = broken

abbrev pub opened_step : Bool → List Frame → (at : ℕ) → Word → Spelled → State
opened_step begins fs at w t =
    if begins then typed fs at else start_step (in_parentheses at ∷ fs) (start_of w) t

-- Where the builder stands behind one more token. `begins` says whether a type can begin with it.
abbrev pub step : Bool → State → Word → Spelled → State
step begins (awaits fs) w t = start_step fs (start_of w) t
step begins (behind fs o) w t = part_step fs o (part_of w) t
step begins (at_member far fs o) w t = member_step far fs o w t
step begins (opened fs at) w t = opened_step begins fs at w t
step begins s w t = broken

-- whether a type that is read is that of a cast, and its place; or one whose size is taken
abbrev pub open_type : List Frame → Option (Bool × ℕ)
open_type (in_cast at ∷ fs) = Some (true, at)
open_type (in_size at ∷ fs) = Some (false, at)
open_type fs = None

abbrev pub type_behind : Bool → (at : ℕ) → List Frame → TypeName → State
type_behind true at fs x = awaits (behind_cast at x ∷ fs)
type_behind false at fs x = behind fs (operand (size_of at x))

-- A type ended in front of this word.
abbrev pub type_ended : Option (Bool × ℕ) → List Frame → TypeName → State
type_ended None fs x = broken
type_ended (Some o) fs x = type_behind o.0 o.1 fs x

abbrev pub type_closed : List Frame → TypeName → State
type_closed fs x = type_ended (open_type fs) (rest fs) x

abbrev pub is_closing : Mark → Bool
is_closing mark.CloseParenthesis = true
is_closing m = false

abbrev pub is_close : Word → Bool
is_close (word.Mark m) = is_closing m
is_close w = false

abbrev pub named : List Frame → TypeName → Word → State
named fs x w = if is_close w then type_closed fs x else broken

-- the expression that has been read, if one has
abbrev pub only : List Frame → Expr → Option Expr
only [] e = Some e
only fs e = None

abbrev pub expression_in : State → Option Expr
expression_in (behind fs o) = ending fs o ends_number only
expression_in s = None
