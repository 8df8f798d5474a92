-- The tree of a program as plain data, which definitions go over by cases.
use Rattle.std.specs.Prelude.{ℕ, ℤ, List, [], ◌∷◌, map, Option}
use Rattle.std.specs.Option.{option_map}
use Rattle.porch_syntax.specs.declared.tree.Sign.{Sign}
use Rattle.porch_syntax.specs.declared.tree.Expr.{Expr, fold-Expr}
use Rattle.porch_syntax.specs.declared.tree.Expr.TheOpen.{Expr-F}
use Rattle.porch_syntax.specs.declared.tree.Stmt.{Stmt, fold-Stmt}
use Rattle.porch_syntax.specs.declared.tree.Stmt.TheOpen.{Stmt-F}
use Rattle.porch_syntax.specs.declared.tree.Tree.{Tree}

mutual
  -- an expression
  pub data Node : Type 0 where
    -- a variable, by the number of its declaration
    variable : ℕ → Node
    -- a decimal constant
    whole : ℤ → Node
    -- a character constant
    character : ℕ → Node
    -- an expression in parentheses
    nested : Node → Node
    -- a factor, and those behind it
    product : Node → Nodes → Node
    -- a term, and those behind it
    sum : Node → Terms → Node
    -- left < right
    less : Node → Node → Node

  pub data Nodes : Type 0 where
    no_nodes : Nodes
    node : Node → Nodes → Nodes

  -- terms, each behind its sign
  pub data Terms : Type 0 where
    no_terms : Terms
    term : Sign → Node → Terms → Terms

mutual
  -- a statement
  pub data Action : Type 0 where
    -- variable = value;
    assign : ℕ → Node → Action
    -- while (condition) { body }
    repeat : Node → Actions → Action
    -- putchar(value);
    putchar : Node → Action
    -- return value;
    give : Node → Action

  pub data Actions : Type 0 where
    no_actions : Actions
    action : Action → Actions → Actions

-- main: its variables, each with its initialiser if it has one, and its statements
pub record Program : Type 0 where
  pub declarations : List (Option Node)
  pub actions : Actions

-- What the code's tree is as plain data.
abbrev pub nodes_of : List Node → Nodes
nodes_of [] = no_nodes
nodes_of (n ∷ ns) = node n (nodes_of ns)

abbrev pub terms_of : List (Sign × Node) → Terms
terms_of [] = no_terms
terms_of (t ∷ ts) = term t.0 t.1 (terms_of ts)

abbrev pub actions_of : List Action → Actions
actions_of [] = no_actions
actions_of (a ∷ as') = action a (actions_of as')

abbrev pub node_step : Expr-F Node → Node
node_step (Expr-F.Variable x) = variable x
node_step (Expr-F.Whole z) = whole z
node_step (Expr-F.Character c) = character c
node_step (Expr-F.Nested e) = nested e
node_step (Expr-F.Product first more) = product first (nodes_of more)
node_step (Expr-F.Sum first more) = sum first (terms_of more)
node_step (Expr-F.Less left right) = less left right

abbrev pub node_of : Expr → Node
node_of = fold-Expr Node node_step

abbrev pub action_step : Stmt-F Action → Action
action_step (Stmt-F.Assign x e) = assign x (node_of e)
action_step (Stmt-F.While e body) = repeat (node_of e) (actions_of body)
action_step (Stmt-F.Putchar e) = putchar (node_of e)
action_step (Stmt-F.Return e) = give (node_of e)

abbrev pub action_of : Stmt → Action
action_of = fold-Stmt Action action_step

abbrev pub program_of : Tree → Program
program_of t = record { declarations = map (option_map node_of) t.declarations; actions = actions_of (map action_of t.statements) }
