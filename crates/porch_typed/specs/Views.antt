-- What the code's tree is as plain data: one layer for each type, and one fold of each family.
use Rattle.std.specs.Prelude.{List, [], ◌∷◌, map}
use Rattle.std.specs.Option.{option_map}
use Rattle.porch_typed.specs.declared.typed.Operator.{Operator}
use Rattle.porch_typed.specs.declared.typed.Expression as code_expression
use Rattle.porch_typed.specs.declared.typed.Place as code_place
use Rattle.porch_typed.specs.declared.typed.Print as code_print
use Rattle.porch_typed.specs.declared.typed.Expression.TheOpen.{Expression-F, Place-F, Print-F}
use Rattle.porch_typed.specs.declared.typed.Initial as code_initial
use Rattle.porch_typed.specs.declared.typed.Initial.TheVariants as variant
use Rattle.porch_typed.specs.declared.typed.Statement as code_statement
use Rattle.porch_typed.specs.declared.typed.SwitchEntry as code_entry
use Rattle.porch_typed.specs.declared.typed.Statement.TheOpen.{Statement-F, SwitchEntry-F}
use Rattle.porch_typed.specs.declared.typed.Function as code_function
use Rattle.porch_typed.specs.declared.typed.Program as code_program
use Rattle.porch_typed.specs.Mirror.{Expression, constant, null_pointer, read, whole, address, first, row, all_of, any_of, unary, isnt, choice, sequence, assign, assign_by, increment, conversion, discard, member_of, call, put_character, put_text, put_literal, print, allocate, release, checkpoint, Expressions, no_expressions, with_expression, Steps, no_steps, with_step, Place, variable, global, pointee, member, Print, bytes, number, text, literal, Prints, no_prints, with_print, Initial, nothing, value, filled, Statement, block, declare, evaluate, choose, repeat_while, repeat_until, repeat_for, switch, leave_loop, go_round, give, Statements, no_statements, with_statement, SwitchEntry, case, default, statement, SwitchEntries, no_entries, with_entry, Function, Program}

-- lists
abbrev pub expressions_of : List Expression → Expressions
expressions_of [] = no_expressions
expressions_of (x ∷ xs) = with_expression x (expressions_of xs)

abbrev pub steps_of : List (Operator × Expression) → Steps
steps_of [] = no_steps
steps_of (x ∷ xs) = with_step x.0 x.1 (steps_of xs)

abbrev pub prints_of : List Print → Prints
prints_of [] = no_prints
prints_of (x ∷ xs) = with_print x (prints_of xs)

abbrev pub statements_of : List Statement → Statements
statements_of [] = no_statements
statements_of (x ∷ xs) = with_statement x (statements_of xs)

abbrev pub entries_of : List SwitchEntry → SwitchEntries
entries_of [] = no_entries
entries_of (x ∷ xs) = with_entry x (entries_of xs)

abbrev pub expression_step : Expression-F Expression Place Print → Expression
expression_step (Expression-F.Constant kind z) = constant kind z
expression_step (Expression-F.NullPointer ty) = null_pointer ty
expression_step (Expression-F.Read ty p) = read ty p
expression_step (Expression-F.Whole ty p) = whole ty p
expression_step (Expression-F.Address ty p) = address ty p
expression_step (Expression-F.First ty p) = first ty p
expression_step (Expression-F.Row e es) = row e (steps_of es)
expression_step (Expression-F.AllOf e es) = all_of e (expressions_of es)
expression_step (Expression-F.AnyOf e es) = any_of e (expressions_of es)
expression_step (Expression-F.Unary op kind e) = unary op kind e
expression_step (Expression-F.Isnt e) = isnt e
expression_step (Expression-F.Choice ty e a b) = choice ty e a b
expression_step (Expression-F.Sequence e es) = sequence e (expressions_of es)
expression_step (Expression-F.Assign ty p e) = assign ty p e
expression_step (Expression-F.AssignBy ty op p e) = assign_by ty op p e
expression_step (Expression-F.Increment ty before way p) = increment ty before way p
expression_step (Expression-F.Conversion kind e) = conversion kind e
expression_step (Expression-F.Discard e) = discard e
expression_step (Expression-F.MemberOf ty leaf e) = member_of ty leaf e
expression_step (Expression-F.Call f es) = call f (expressions_of es)
expression_step (Expression-F.PutCharacter e) = put_character e
expression_step (Expression-F.PutText e) = put_text e
expression_step (Expression-F.PutLiteral bs) = put_literal bs
expression_step (Expression-F.Print ps) = print (prints_of ps)
expression_step (Expression-F.Allocate ty zeroed e) = allocate ty zeroed e
expression_step (Expression-F.Release e) = release e
expression_step Expression-F.Checkpoint = checkpoint

abbrev pub place_step : Place-F Expression Place Print → Place
place_step (Place-F.Variable v) = variable v
place_step (Place-F.Global g) = global g
place_step (Place-F.Pointee e) = pointee e
place_step (Place-F.Member leaf p) = member leaf p

abbrev pub print_step : Print-F Expression Place Print → Print
print_step (Print-F.Bytes bs) = bytes bs
print_step (Print-F.Number how e) = number how e
print_step (Print-F.Text e) = text e
print_step (Print-F.Literal bs) = literal bs

abbrev pub expression_of : code_expression.Expression → Expression
expression_of = code_expression.fold-Expression Expression Place Print expression_step place_step print_step

abbrev pub place_of : code_place.Place → Place
place_of = code_place.fold-Place Expression Place Print expression_step place_step print_step

abbrev pub print_of : code_print.Print → Print
print_of = code_print.fold-Print Expression Place Print expression_step place_step print_step

abbrev pub initial_of : code_initial.Initial → Initial
initial_of variant.Nothing = nothing
initial_of (variant.Value e) = value (expression_of e)
initial_of (variant.Filled fills) = filled fills

abbrev pub statement_step : Statement-F Statement SwitchEntry → Statement
statement_step (Statement-F.Block ss) = block (statements_of ss)
statement_step (Statement-F.Declare v i) = declare v (initial_of i)
statement_step (Statement-F.Evaluate e) = evaluate (expression_of e)
statement_step (Statement-F.Choose e s t) = choose (expression_of e) s t
statement_step (Statement-F.While e s) = repeat_while (expression_of e) s
statement_step (Statement-F.Do s e) = repeat_until s (expression_of e)
statement_step (Statement-F.For a b c s) =
    repeat_for (option_map expression_of a) (option_map expression_of b) (option_map expression_of c) s
statement_step (Statement-F.Switch kind e xs) = switch kind (expression_of e) (entries_of xs)
statement_step Statement-F.Leave = leave_loop
statement_step Statement-F.GoRound = go_round
statement_step (Statement-F.Return e) = give (option_map expression_of e)

abbrev pub entry_step : SwitchEntry-F Statement SwitchEntry → SwitchEntry
entry_step (SwitchEntry-F.Case z) = case z
entry_step SwitchEntry-F.Default = default
entry_step (SwitchEntry-F.Statement s) = statement s

abbrev pub statement_of : code_statement.Statement → Statement
statement_of = code_statement.fold-Statement Statement SwitchEntry statement_step entry_step

abbrev pub entry_of : code_entry.SwitchEntry → SwitchEntry
entry_of = code_entry.fold-SwitchEntry Statement SwitchEntry statement_step entry_step

abbrev pub function_of : code_function.Function → Function
function_of f =
    record {
      name = f.name;
      result = f.result;
      params = f.params;
      variables = f.variables;
      body = statements_of (map statement_of f.body);
      tokens = f.tokens;
    }

-- the program that the code's is
abbrev pub program_of : code_program.Program → Program
program_of p =
    record {
      types = p.types;
      pointers = p.pointers;
      globals = p.globals;
      functions = map function_of p.functions;
      main = p.main;
    }
