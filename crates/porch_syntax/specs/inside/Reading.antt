-- Reading an expression token by token, with one frame for each open parenthesis.
use Rattle.std.specs.Prelude.{ℕ, ◌-◌, nat_lt, if◌then◌else◌, List, [], ◌∷◌, ◌++◌, map, fold, Option, Some, None}
use Rattle.std.specs.Option.{option_map}
use Rattle.porch_syntax.specs.declared.token.Token.{Token}
use Rattle.porch_syntax.specs.declared.token.Token.TheVariants as token
use Rattle.porch_syntax.specs.declared.tree.Sign.{Sign}
use Rattle.porch_syntax.specs.declared.tree.Sign.TheVariants as sign
use Rattle.porch_syntax.specs.declared.tree.Expr.{Expr}
use Rattle.porch_syntax.specs.declared.expression.Atom.{Atom}
use Rattle.porch_syntax.specs.declared.expression.Atom.TheVariants as atom
use Rattle.porch_syntax.specs.declared.expression.Part.{Part}
use Rattle.porch_syntax.specs.declared.expression.Part.TheVariants as part
use Rattle.porch_syntax.specs.declared.expression.Factors as factors_type
use Rattle.porch_syntax.specs.declared.expression.Terms as terms_type
use Rattle.porch_syntax.specs.declared.expression.Front as front_type
use Rattle.porch_syntax.specs.declared.expression.Frame as frame_type
use Rattle.porch_syntax.specs.declared.expression.Reading as reading_type
use Rattle.porch_syntax.specs.declared.expression.Reading.TheVariants as reading
use Rattle.porch_syntax.specs.declared.expression.Outcome as outcome_type
use Rattle.porch_syntax.specs.declared.expression.Outcome.TheVariants as outcome
use Rattle.porch_syntax.specs.Tree.{Node, variable, whole, character, nested, product, sum, less, nodes_of, terms_of, node_of}

-- what a token is in an expression under these many variables
abbrev pub part_of : ℕ → Token → Part
part_of n (token.Name x) = if nat_lt x n then part.Atom (atom.Variable x) else part.Other
part_of n (token.Whole z) = part.Atom (atom.Whole z)
part_of n (token.Character c) = part.Atom (atom.Character c)
part_of n token.OpenParenthesis = part.Open
part_of n token.CloseParenthesis = part.Close
part_of n token.Star = part.Times
part_of n token.Plus = part.Add sign.Plus
part_of n token.Minus = part.Add sign.Minus
part_of n token.Less = part.Less
part_of n _ = part.Other

abbrev pub atom_node : Atom → Node
atom_node (atom.Variable x) = variable x
atom_node (atom.Whole z) = whole z
atom_node (atom.Character c) = character c

-- the factors of a product so far
pub record Factors : Type 0 where
  pub first : Node
  pub more : List Node

-- the terms of a sum so far, and the sign behind them
pub record Terms : Type 0 where
  pub first : Node
  pub more : List (Sign × Node)
  pub sign : Sign

-- What stands in front of a product: how many uses of expr may lie within one another from here on, the left side of
-- a comparison, and terms.
pub record Front : Type 0 where
  pub room : ℕ
  pub left : Option Node
  pub terms : Option Terms

-- what stands in front of an atom
pub record Frame : Type 0 where
  pub front : Front
  pub factors : Option Factors

-- In front of an atom or behind one. The frames are those of the open parentheses, innermost first.
pub data Reading : Type 0 where
  at_atom : List Frame → Frame → Reading
  behind_atom : List Frame → Front → Factors → Reading

pub data Outcome : Type 0 where
  goes : Reading → Outcome
  ends : Node → Outcome
  wrong : Outcome

abbrev pub with_factor : Option Factors → Node → Factors
with_factor None e = record { first = e; more = [] }
with_factor (Some f) e = record { first = f.first; more = f.more ++ e ∷ [] }

abbrev pub product_at : Node → List Node → Node
product_at e [] = e
product_at e (x ∷ xs) = product e (nodes_of (x ∷ xs))

abbrev pub product_of : Factors → Node
product_of f = product_at f.first f.more

abbrev pub with_term : Option Terms → Node → Sign → Terms
with_term None e s = record { first = e; more = []; sign = s }
with_term (Some t) e s = record { first = t.first; more = t.more ++ (t.sign, e) ∷ []; sign = s }

abbrev pub sum_of : Option Terms → Node → Node
sum_of None e = e
sum_of (Some t) e = sum t.first (terms_of (t.more ++ (t.sign, e) ∷ []))

abbrev pub compared : Option Node → Node → Node
compared None e = e
compared (Some a) e = less a e

-- the whole expression
abbrev pub value_of : Front → Factors → Node
value_of f v = compared f.left (sum_of f.terms (product_of v))

-- the beginning of an expression
abbrev pub fresh : ℕ → Frame
fresh room = record { front = record { room = room; left = None; terms = None }; factors = None }

abbrev pub opened : List Frame → Frame → Outcome
opened fs f = if nat_lt 1 f.front.room then goes (at_atom (f ∷ fs) (fresh (f.front.room - 1))) else wrong

abbrev pub closed : List Frame → Node → Outcome
closed [] e = ends e
closed (f ∷ fs) e = goes (behind_atom fs f.front (with_factor f.factors (nested e)))

abbrev pub ended : List Frame → Node → Outcome
ended [] e = ends e
ended (f ∷ fs) e = wrong

abbrev pub measured : List Frame → ℕ → Option Node → Node → Outcome
measured fs room None e = goes (at_atom fs (record { front = record { room = room; left = Some e; terms = None }; factors = None }))
measured fs room (Some a) e = wrong

abbrev pub at_step : List Frame → Frame → Part → Outcome
at_step fs f (part.Atom a) = goes (behind_atom fs f.front (with_factor f.factors (atom_node a)))
at_step fs f part.Open = opened fs f
at_step fs f part.Close = wrong
at_step fs f part.Times = wrong
at_step fs f (part.Add s) = wrong
at_step fs f part.Less = wrong
at_step fs f part.Other = wrong

abbrev pub behind_step : List Frame → Front → Factors → Part → Outcome
behind_step fs f v (part.Atom a) = ended fs (value_of f v)
behind_step fs f v part.Open = ended fs (value_of f v)
behind_step fs f v part.Close = closed fs (value_of f v)
behind_step fs f v part.Times = goes (at_atom fs (record { front = f; factors = Some v }))
behind_step fs f v (part.Add s) =
    goes (at_atom fs (record { front = record { room = f.room; left = f.left; terms = Some (with_term f.terms (product_of v) s) }; factors = None }))
behind_step fs f v part.Less = measured fs f.room f.left (sum_of f.terms (product_of v))
behind_step fs f v part.Other = ended fs (value_of f v)

abbrev pub read_step : Reading → Part → Outcome
read_step (at_atom fs f) p = at_step fs f p
read_step (behind_atom fs f v) p = behind_step fs f v p

-- What the code's values are as plain data.
abbrev pub factors_of : factors_type.Factors → Factors
factors_of f = record { first = node_of f.first; more = map node_of f.more }

abbrev pub signed_of : Sign × Expr → Sign × Node
signed_of t = (t.0, node_of t.1)

abbrev pub terms_view : terms_type.Terms → Terms
terms_view t = record { first = node_of t.first; more = map signed_of t.more; sign = t.sign }

abbrev pub front_of : front_type.Front → Front
front_of f = record { room = f.room; left = option_map node_of f.left; terms = option_map terms_view f.terms }

abbrev pub frame_of : frame_type.Frame → Frame
frame_of f = record { front = front_of f.front; factors = option_map factors_of f.factors }

-- the last frame of the code's list comes first
abbrev pub frames_of : List frame_type.Frame → List Frame
frames_of = fold (λ above f. frame_of f ∷ above) []

abbrev pub reading_of : reading_type.Reading → Reading
reading_of (reading.Atom fs f) = at_atom (frames_of fs) (frame_of f)
reading_of (reading.Operator fs f v) = behind_atom (frames_of fs) (front_of f) (factors_of v)

abbrev pub outcome_of : outcome_type.Outcome → Outcome
outcome_of (outcome.Goes r) = goes (reading_of r)
outcome_of (outcome.Ends e) = ends (node_of e)
outcome_of outcome.Wrong = wrong
