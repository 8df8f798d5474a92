-- The commands that a tree becomes. Contracts inside this crate cite it; that they mean what the tree means is proved.
--
-- A value that is neither a variable nor a constant goes through temporaries: the left operand is held in number t and the
-- right one in t + 1, and what they are made of in those from t + 2 on.
use Rattle.std.specs.Prelude.{ℕ, ◌+◌, ◌*◌, max, pos, List, [], ◌∷◌, ◌++◌, length, Bool, true, false, is_some, Option, Some, None}
use Rattle.porch_syntax.specs.declared.tree.Sign.{Sign}
use Rattle.porch_syntax.specs.declared.tree.Sign.TheVariants.{Plus, Minus}
use Rattle.porch_syntax.specs.Tree.{Node, variable, whole, character, nested, product, sum, less, Nodes, no_nodes, node, Terms, no_terms, term, Action, assign, repeat, putchar, give, Actions, no_actions, action, Program}
use Rattle.porch_flat.specs.declared.flat.Operand.{Operand}
use Rattle.porch_flat.specs.declared.flat.Operand.TheVariants.{Var, Constant}
use Rattle.porch_flat.specs.declared.flat.Command.{Command}
use Rattle.porch_flat.specs.declared.flat.Command.TheVariants as command

-- a variable or a constant as an operand
abbrev pub atom_of : Node → Option Operand
atom_of (variable x) = Some (Var x)
atom_of (whole z) = Some (Constant z)
atom_of (character c) = Some (Constant (pos c))
atom_of (nested e) = atom_of e
atom_of (product e es) = None
atom_of (sum e ts) = None
atom_of (less a b) = None

abbrev pub is_atom : Node → Bool
is_atom e = is_some (atom_of e)

-- the operand that an expression is, where what is no atom stands in a variable
abbrev pub operand_or : Option Operand → ℕ → Operand
operand_or None d = Var d
operand_or (Some o) d = o

abbrev pub operand_in : Node → ℕ → Operand
operand_in e d = operand_or (atom_of e) d

-- the commands for it
abbrev pub commands_or : Option Operand → List Command → List Command
commands_or None commands = commands
commands_or (Some o) commands = []

-- a left operand is held where commands for the right one come in between
abbrev pub left_operand : Bool → Option Operand → ℕ → Operand
left_operand true o t = operand_or o t
left_operand false o t = Var t

abbrev pub left_commands : Bool → Option Operand → List Command → List Command
left_commands true o commands = commands_or o commands
left_commands false o commands = commands

-- the operator's command
abbrev pub by_sign : Sign → ℕ → Operand → Operand → Command
by_sign Plus v a b = command.Add v a b
by_sign Minus v a b = command.Sub v a b

-- where the result of one operator of a row goes: the last to the place of the whole, the others to the left temporary
abbrev pub factor_place : Nodes → ℕ → ℕ → ℕ
factor_place no_nodes d t = d
factor_place (node e es) d t = t

abbrev pub term_place : Terms → ℕ → ℕ → ℕ
term_place no_terms d t = d
term_place (term s e ts) d t = t

abbrev mutual
  -- the value of an expression goes to variable d, with temporaries from t on
  pub into_code : Node → ℕ → ℕ → List Command
  into_code (variable x) d t = command.Move d (Var x) ∷ []
  into_code (whole z) d t = command.Move d (Constant z) ∷ []
  into_code (character c) d t = command.Move d (Constant (pos c)) ∷ []
  into_code (nested e) d t = into_code e d t
  into_code (product e no_nodes) d t = into_code e d t
  into_code (product e (node f fs)) d t =
      left_commands (is_atom f) (atom_of e) (into_code e t (t + 2))
      ++ (commands_or (atom_of f) (into_code f (t + 1) (t + 2)) ++ command.Mul (factor_place fs d t) (left_operand (is_atom f) (atom_of e) t) (operand_in f (t + 1)) ∷ factors_code fs d t)
  into_code (sum e no_terms) d t = into_code e d t
  into_code (sum e (term s f ts)) d t =
      left_commands (is_atom f) (atom_of e) (into_code e t (t + 2))
      ++ (commands_or (atom_of f) (into_code f (t + 1) (t + 2)) ++ by_sign s (term_place ts d t) (left_operand (is_atom f) (atom_of e) t) (operand_in f (t + 1)) ∷ terms_code ts d t)
  into_code (less a b) d t =
      left_commands (is_atom b) (atom_of a) (into_code a t (t + 2))
      ++ (commands_or (atom_of b) (into_code b (t + 1) (t + 2)) ++ command.Lt d (left_operand (is_atom b) (atom_of a) t) (operand_in b (t + 1)) ∷ [])

  -- further factors of what stands in t
  pub factors_code : Nodes → ℕ → ℕ → List Command
  factors_code no_nodes d t = []
  factors_code (node f fs) d t =
      commands_or (atom_of f) (into_code f (t + 1) (t + 2)) ++ command.Mul (factor_place fs d t) (Var t) (operand_in f (t + 1)) ∷ factors_code fs d t

  -- further terms of it
  pub terms_code : Terms → ℕ → ℕ → List Command
  terms_code no_terms d t = []
  terms_code (term s f ts) d t =
      commands_or (atom_of f) (into_code f (t + 1) (t + 2)) ++ by_sign s (term_place ts d t) (Var t) (operand_in f (t + 1)) ∷ terms_code ts d t

-- an operand of a statement: what is no atom goes to the temporary m
abbrev pub operand_code : Node → ℕ → List Command
operand_code e m = commands_or (atom_of e) (into_code e m (m + 1))

-- The labels of the loop whose first command stands at place p: that of its body, and that of its test.
abbrev pub body_label : ℕ → ℕ
body_label p = 2 * p

abbrev pub test_label : ℕ → ℕ
test_label p = 2 * p + 1

-- Statements that begin at place p of a function with m declared variables. A loop's test stands behind its body, so that
-- the only jump backward leads to a TURN.
abbrev mutual
  pub action_code : ℕ → ℕ → Action → List Command
  action_code m p (assign x e) = into_code e x m
  action_code m p (repeat e body) =
      command.Jump (test_label p) ∷ command.Label (body_label p) ∷ command.Turn
      ∷ (actions_code m (p + 3) body ++ command.Label (test_label p) ∷ (operand_code e m ++ command.If (operand_in e m) (body_label p) ∷ []))
  action_code m p (putchar e) = operand_code e m ++ command.Char m (operand_in e m) ∷ []
  action_code m p (give e) = operand_code e m ++ command.Return (Some (operand_in e m)) ∷ []

  pub actions_code : ℕ → ℕ → Actions → List Command
  actions_code m p no_actions = []
  actions_code m p (action a more) = action_code m p a ++ actions_code m (p + length (action_code m p a)) more

-- the declarations from number x on: an initialiser is an assignment
abbrev pub declarations_code : ℕ → ℕ → List (Option Node) → List Command
declarations_code m x [] = []
declarations_code m x (None ∷ more) = declarations_code m (x + 1) more
declarations_code m x ((Some e) ∷ more) = into_code e x m ++ declarations_code m (x + 1) more

-- main's commands; behind the last statement it gives 0
abbrev pub main_code : Program → List Command
main_code p =
    let m = length p.declarations in
    let declared = declarations_code m 0 p.declarations in
    declared ++ (actions_code m (length declared) p.actions ++ command.Return (Some (Constant (pos 0))) ∷ [])

-- How many temporaries it takes, from the first one on.
abbrev mutual
  pub temps_of : Node → ℕ
  temps_of (variable x) = 0
  temps_of (whole z) = 0
  temps_of (character c) = 0
  temps_of (nested e) = temps_of e
  temps_of (product e no_nodes) = temps_of e
  temps_of (product e (node f fs)) = max (temps_of e) (max (temps_of f) (factors_temps fs)) + 2
  temps_of (sum e no_terms) = temps_of e
  temps_of (sum e (term s f ts)) = max (temps_of e) (max (temps_of f) (terms_temps ts)) + 2
  temps_of (less a b) = max (temps_of a) (temps_of b) + 2

  pub factors_temps : Nodes → ℕ
  factors_temps no_nodes = 0
  factors_temps (node e es) = max (temps_of e) (factors_temps es)

  pub terms_temps : Terms → ℕ
  terms_temps no_terms = 0
  terms_temps (term s e ts) = max (temps_of e) (terms_temps ts)

abbrev mutual
  pub action_temps : Action → ℕ
  action_temps (assign x e) = temps_of e
  action_temps (repeat e body) = max (temps_of e + 1) (actions_temps body)
  action_temps (putchar e) = temps_of e + 1
  action_temps (give e) = temps_of e + 1

  pub actions_temps : Actions → ℕ
  actions_temps no_actions = 0
  actions_temps (action a more) = max (action_temps a) (actions_temps more)

abbrev pub declarations_temps : List (Option Node) → ℕ
declarations_temps [] = 0
declarations_temps (None ∷ more) = declarations_temps more
declarations_temps ((Some e) ∷ more) = max (temps_of e) (declarations_temps more)

abbrev pub main_temps : Program → ℕ
main_temps p = max (declarations_temps p.declarations) (actions_temps p.actions)
