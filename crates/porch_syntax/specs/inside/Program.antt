-- Reading a program token by token, with one block for each open brace.
use Rattle.std.specs.Prelude.{ℕ, ◌+◌, ◌-◌, nat_lt, nat_eq, if◌then◌else◌, List, [], ◌∷◌, ◌++◌, length, map, fold, Option, Some, None}
use Rattle.std.specs.Option.{option_map}
use Rattle.porch_syntax.specs.declared.token.Token.{Token}
use Rattle.porch_syntax.specs.declared.token.Token.TheVariants as token
use Rattle.porch_syntax.specs.declared.statement.Purpose.{Purpose}
use Rattle.porch_syntax.specs.declared.statement.Purpose.TheVariants as purpose
use Rattle.porch_syntax.specs.declared.statement.Block as block_type
use Rattle.porch_syntax.specs.declared.statement.Written as written_type
use Rattle.porch_syntax.specs.declared.statement.Phase as phase_type
use Rattle.porch_syntax.specs.declared.statement.Phase.TheVariants as phase
use Rattle.porch_syntax.specs.Tree.{Node, Action, assign, repeat, putchar, give, actions_of, Program, node_of, action_of}
use Rattle.porch_syntax.specs.inside.Reading.{Reading, at_atom, reading_of, fresh, Outcome, goes, ends, wrong, read_step, part_of}

-- a loop whose body isn't over: its condition, and the statements in front of it
pub record Block : Type 0 where
  pub condition : Node
  pub before : List Action

-- the declarations, the open blocks, innermost first, and the statements of the innermost
pub record Written : Type 0 where
  pub variables : List (Option Node)
  pub blocks : List Block
  pub actions : List Action

-- what was read behind those
pub data Phase : Type 0 where
  declarations : Phase
  statements : Phase
  declaring : Phase
  declared : Phase
  assigning : ℕ → Phase
  looping : Phase
  entering : Node → Phase
  printing : Phase
  printed : Node → Phase
  reading : Purpose → Reading → Phase
  over : Phase

pub record State : Type 0 where
  pub written : Written
  pub phase : Phase

-- an initialiser may read its own variable
abbrev pub known : Purpose → ℕ → ℕ
known purpose.Initial n = n + 1
known (purpose.Assigned x) n = n
known purpose.Condition n = n
known purpose.Shown n = n
known purpose.Given n = n

abbrev pub state : Written → Phase → Option State
state w p = Some (record { written = w; phase = p })

abbrev pub with_variable : Written → Option Node → Option State
with_variable w v = state (record w { variables = w.variables ++ v ∷ [] }) declarations

abbrev pub with_action : Written → Action → Option State
with_action w a = state (record w { actions = w.actions ++ a ∷ [] }) statements

-- the expression of a statement
abbrev pub begun : Written → Purpose → Option State
begun w u = if nat_lt (length w.blocks) 199 then state w (reading u (at_atom [] (fresh (199 - length w.blocks)))) else None

abbrev pub named : Written → ℕ → Option State
named w x = if nat_lt x (length w.variables) then state w (assigning x) else None

abbrev pub named_new : Written → ℕ → Option State
named_new w x = if nat_eq x (length w.variables) then state w declared else None

abbrev pub entered : Written → Node → Option State
entered w c = state (record { variables = w.variables; blocks = record { condition = c; before = w.actions } ∷ w.blocks; actions = [] }) statements

abbrev pub left_block : List (Option Node) → List Block → List Action → Option State
left_block vs [] as' = state (record { variables = vs; blocks = []; actions = as' }) over
left_block vs (b ∷ bs) as' =
    state (record { variables = vs; blocks = bs; actions = b.before ++ repeat b.condition (actions_of as') ∷ [] }) statements

abbrev pub left : Written → Option State
left w = left_block w.variables w.blocks w.actions

abbrev pub statement_step : Written → Token → Option State
statement_step w (token.Name x) = named w x
statement_step w token.While = state w looping
statement_step w token.Putchar = state w printing
statement_step w token.Return = begun w purpose.Given
statement_step w token.CloseBrace = left w
statement_step w _ = None

abbrev pub declaration_step : Written → Token → Option State
declaration_step w token.Int = state w declaring
declaration_step w t = statement_step w t

abbrev pub declaring_step : Written → Token → Option State
declaring_step w (token.Name x) = named_new w x
declaring_step w _ = None

abbrev pub declared_step : Written → Token → Option State
declared_step w token.Semicolon = with_variable w None
declared_step w token.Assign = state w (reading purpose.Initial (at_atom [] (fresh 200)))
declared_step w _ = None

abbrev pub assigning_step : Written → ℕ → Token → Option State
assigning_step w x token.Assign = begun w (purpose.Assigned x)
assigning_step w x _ = None

abbrev pub looping_step : Written → Token → Option State
looping_step w token.OpenParenthesis = begun w purpose.Condition
looping_step w _ = None

abbrev pub entering_step : Written → Node → Token → Option State
entering_step w c token.OpenBrace = entered w c
entering_step w c _ = None

abbrev pub printing_step : Written → Token → Option State
printing_step w token.OpenParenthesis = begun w purpose.Shown
printing_step w _ = None

abbrev pub printed_step : Written → Node → Token → Option State
printed_step w e token.Semicolon = with_action w (putchar e)
printed_step w e _ = None

-- the token behind an expression
abbrev pub semicolon_step : Written → Purpose → Node → Option State
semicolon_step w purpose.Initial e = with_variable w (Some e)
semicolon_step w (purpose.Assigned x) e = with_action w (assign x e)
semicolon_step w purpose.Condition e = None
semicolon_step w purpose.Shown e = None
semicolon_step w purpose.Given e = with_action w (give e)

abbrev pub parenthesis_step : Written → Purpose → Node → Option State
parenthesis_step w purpose.Initial e = None
parenthesis_step w (purpose.Assigned x) e = None
parenthesis_step w purpose.Condition e = state w (entering e)
parenthesis_step w purpose.Shown e = state w (printed e)
parenthesis_step w purpose.Given e = None

abbrev pub end_step : Written → Purpose → Node → Token → Option State
end_step w u e token.Semicolon = semicolon_step w u e
end_step w u e token.CloseParenthesis = parenthesis_step w u e
end_step w u e _ = None

abbrev pub outcome_step : Written → Purpose → Token → Outcome → Option State
outcome_step w u t (goes r) = state w (reading u r)
outcome_step w u t (ends e) = end_step w u e t
outcome_step w u t wrong = None

abbrev pub reading_step : Written → Purpose → Reading → Token → Option State
reading_step w u r t = outcome_step w u t (read_step r (part_of (known u (length w.variables)) t))

abbrev pub step : Written → Phase → Token → Option State
step w declarations t = declaration_step w t
step w statements t = statement_step w t
step w declaring t = declaring_step w t
step w declared t = declared_step w t
step w (assigning x) t = assigning_step w x t
step w looping t = looping_step w t
step w (entering c) t = entering_step w c t
step w printing t = printing_step w t
step w (printed e) t = printed_step w e t
step w (reading u r) t = reading_step w u r t
step w over t = None

abbrev pub then_run : Option State → (State → Option State) → Option State
then_run None go = None
then_run (Some s) go = go s

abbrev pub run : List Token → State → Option State
run [] s = Some s
run (t ∷ ts) s = then_run (step s.written s.phase t) (run ts)

abbrev pub beginning : State
beginning = record { written = record { variables = []; blocks = []; actions = [] }; phase = declarations }

abbrev pub program_at : Written → Phase → Option Program
program_at w over = Some (record { declarations = w.variables; actions = actions_of w.actions })
program_at w _ = None

abbrev pub program_in : Option State → Option Program
program_in None = None
program_in (Some s) = program_at s.written s.phase

-- behind `int main(void) {`
abbrev pub body_of : List Token → Option (List Token)
body_of (token.Int ∷ token.Main ∷ token.OpenParenthesis ∷ token.Void ∷ token.CloseParenthesis ∷ token.OpenBrace ∷ ts) = Some ts
body_of _ = None

abbrev pub program_from : Option (List Token) → Option Program
program_from None = None
program_from (Some ts) = program_in (run ts beginning)

abbrev pub read_program : List Token → Option Program
read_program ts = program_from (body_of ts)

-- What the code's values are as plain data.
abbrev pub block_of : block_type.Block → Block
block_of b = record { condition = node_of b.condition; before = map action_of b.before }

-- the last block of the code's list comes first
abbrev pub blocks_of : List block_type.Block → List Block
blocks_of = fold (λ above b. block_of b ∷ above) []

abbrev pub written_of : written_type.Written → Written
written_of w = record { variables = map (option_map node_of) w.variables; blocks = blocks_of w.blocks; actions = map action_of w.statements }

abbrev pub phase_of : phase_type.Phase → Phase
phase_of phase.Declarations = declarations
phase_of phase.Statements = statements
phase_of phase.Declaring = declaring
phase_of phase.Declared = declared
phase_of (phase.Assigning x) = assigning x
phase_of phase.Looping = looping
phase_of (phase.Entering c) = entering (node_of c)
phase_of phase.Printing = printing
phase_of (phase.Printed e) = printed (node_of e)
phase_of (phase.Reading u r) = reading u (reading_of r)
phase_of phase.Over = over

-- the state that a step leaves
abbrev pub after : written_type.Written → Option phase_type.Phase → Option State
after w None = None
after w (Some p) = state (written_of w) (phase_of p)
