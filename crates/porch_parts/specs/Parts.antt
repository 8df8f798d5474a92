-- Reading expressions and types, which lie in one another, token by token.
use Rattle.std.specs.Prelude.{ℕ, Bool, true, false, ◌&&◌, ◌||◌, if◌then◌else◌, List, [], ◌∷◌, Option, None}
use Rattle.std.specs.Str.{bytes_eq}
use Rattle.std.specs.List.{list_any}
use Rattle.porch_tree.specs.declared.word.Word.{Word}
use Rattle.porch_tree.specs.Mirror.{Expr, TypeName}
use Rattle.porch_tree.specs.Pieces.{Spelled}
use Rattle.porch_tree.specs.Grammar.{is_name}
use Rattle.porch_parse.specs.Building.{Frame, awaits, at_type, over, alone as alone_frame, named, expression_in}
use Rattle.porch_parse.specs.Building as building
use Rattle.porch_parts.specs.declared.sign.Sign.{Sign}
use Rattle.porch_parts.specs.declared.sign.Sign.TheVariants as sign
use Rattle.porch_parts.specs.Signs.{sign_of}
use Rattle.porch_parts.specs.Types.{Part, alone, Point, at_base, at_expr, over_type, Place, is_outermost, given, type_step, place}

-- An expression is being read, in these parts; or a type, in these frames.
pub data State : Type 0 where
  in_expr : List Part → building.State → State
  in_type : List Frame → Place → State

abbrev pub names_type : List (List ℕ) → List ℕ → Bool
names_type types n = list_any (bytes_eq n) types

abbrev pub begins_base : Sign → Bool
begins_base sign.Const = true
begins_base (sign.Kind k) = true
begins_base sign.Void = true
begins_base (sign.Tag s) = true
begins_base s = false

-- whether a type can begin with a word that has these bytes
abbrev pub can_begin : List (List ℕ) → Word → List ℕ → Bool
can_begin types w bytes = begins_base (sign_of w) || (is_name w && names_type types bytes)

abbrev pub begins : List (List ℕ) → Word → Spelled → Bool
begins types w t = can_begin types w t.bytes

abbrev pub is_bare : List Frame → Bool
is_bare [] = true
is_bare (f ∷ fs) = false

-- A type ended in front of this word: it goes back to the expression that it lies in, if it lies in one.
abbrev pub type_over : List Frame → List Part → TypeName → Word → State
type_over fs ps x w = if is_bare fs then in_type fs (place ps (over_type x)) else in_expr ps (named fs x w)

-- What a type comes to with this token. `b` says whether a type can begin with it.
abbrev pub type_on : Bool → List Frame → List Part → Point → Word → Spelled → State
type_on b fs ps at_expr w t = in_expr ps (building.step b (awaits (alone_frame ∷ fs)) w t)
type_on b fs ps (over_type x) w t = type_over fs ps x w
type_on b fs ps x w t = in_type fs (place ps x)

abbrev pub placed_on : Bool → List Frame → Place → Word → Spelled → State
placed_on b fs p w t = type_on b fs p.parts p.point w t

-- An expression ended in front of this token.
abbrev pub leave : Bool → List Part → List Frame → Expr → Word → Spelled → State
leave b ps fs e w t =
    if is_outermost ps then in_expr ps (over fs e) else placed_on b fs (given ps e (sign_of w)) w t

-- what an expression comes to with this token
abbrev pub expr_on : Bool → List Part → building.State → Word → Spelled → State
expr_on b ps (at_type fs) w t = placed_on b fs (type_step (alone ∷ ps) at_base (sign_of w) t) w t
expr_on b ps (over fs e) w t = leave b ps fs e w t
expr_on b ps s w t = in_expr ps s

abbrev pub step_at : Bool → State → Word → Spelled → State
step_at b (in_expr ps s) w t = expr_on b ps (building.step b s w t) w t
step_at b (in_type fs p) w t = placed_on b fs (type_step p.parts p.point (sign_of w) t) w t

module _ (types : List (List ℕ)) where
  abbrev pub step_on : State → Word → Spelled → State
  step_on s w t = step_at (begins types w t) s w t

  -- where the reader stands behind one more token, and behind these tokens
  abbrev pub step : State → Spelled → State
  step s t = step_on s t.word t

  abbrev pub run : State → List Spelled → State
  run s [] = s
  run s (t ∷ ts) = run (step s t) ts

abbrev pub expr_of_state : State → Option Expr
expr_of_state (in_expr ps s) = if is_outermost ps then expression_in s else None
expr_of_state (in_type fs p) = None

-- the expression of these tokens
abbrev pub expression_of : List (List ℕ) → List Spelled → Option Expr
expression_of types ts = expr_of_state (run types (in_expr [] (awaits [])) ts)
