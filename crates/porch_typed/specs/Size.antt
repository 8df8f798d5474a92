-- How many nodes a typed tree has.
use Rattle.std.specs.Prelude.{ℕ, ◌+◌, sum_by, Option, Some, None}
use Rattle.porch_typed.specs.Mirror.{Expression, constant, null_pointer, read, whole, address, first, row, all_of, any_of, unary, isnt, choice, sequence, assign, assign_by, increment, conversion, discard, member_of, call, put_character, put_text, put_literal, print, allocate, release, checkpoint, Expressions, no_expressions, with_expression, Steps, no_steps, with_step, Place, variable, global, pointee, member, Print, bytes, number, text, literal, Prints, no_prints, with_print, Initial, nothing, value, filled, Statement, block, declare, evaluate, choose, repeat_while, repeat_until, repeat_for, switch, leave_loop, go_round, give, Statements, no_statements, with_statement, SwitchEntry, case, default, statement, SwitchEntries, no_entries, with_entry, Function, Program}

abbrev mutual
  pub expression_nodes : Expression → ℕ
  expression_nodes (constant kind z) = 1
  expression_nodes (null_pointer ty) = 1
  expression_nodes (read ty p) = 1 + place_nodes p
  expression_nodes (whole ty p) = 1 + place_nodes p
  expression_nodes (address ty p) = 1 + place_nodes p
  expression_nodes (first ty p) = 1 + place_nodes p
  expression_nodes (row e steps) = 1 + expression_nodes e + steps_nodes steps
  expression_nodes (all_of e es) = 1 + expression_nodes e + expressions_nodes es
  expression_nodes (any_of e es) = 1 + expression_nodes e + expressions_nodes es
  expression_nodes (unary op kind e) = 1 + expression_nodes e
  expression_nodes (isnt e) = 1 + expression_nodes e
  expression_nodes (choice ty e a b) = 1 + expression_nodes e + expression_nodes a + expression_nodes b
  expression_nodes (sequence e es) = 1 + expression_nodes e + expressions_nodes es
  expression_nodes (assign ty p e) = 1 + place_nodes p + expression_nodes e
  expression_nodes (assign_by ty op p e) = 1 + place_nodes p + expression_nodes e
  expression_nodes (increment ty before way p) = 1 + place_nodes p
  expression_nodes (conversion kind e) = 1 + expression_nodes e
  expression_nodes (discard e) = 1 + expression_nodes e
  expression_nodes (member_of ty leaf e) = 1 + expression_nodes e
  expression_nodes (call f es) = 1 + expressions_nodes es
  expression_nodes (put_character e) = 1 + expression_nodes e
  expression_nodes (put_text e) = 1 + expression_nodes e
  expression_nodes (put_literal bs) = 1
  expression_nodes (print ps) = 1 + prints_nodes ps
  expression_nodes (allocate ty zeroed e) = 1 + expression_nodes e
  expression_nodes (release e) = 1 + expression_nodes e
  expression_nodes checkpoint = 1

  pub expressions_nodes : Expressions → ℕ
  expressions_nodes no_expressions = 0
  expressions_nodes (with_expression e es) = expression_nodes e + expressions_nodes es

  pub steps_nodes : Steps → ℕ
  steps_nodes no_steps = 0
  steps_nodes (with_step op e steps) = 1 + expression_nodes e + steps_nodes steps

  pub place_nodes : Place → ℕ
  place_nodes (variable v) = 1
  place_nodes (global g) = 1
  place_nodes (pointee e) = 1 + expression_nodes e
  place_nodes (member leaf p) = 1 + place_nodes p

  pub prints_nodes : Prints → ℕ
  prints_nodes no_prints = 0
  prints_nodes (with_print x xs) = print_nodes x + prints_nodes xs

  pub print_nodes : Print → ℕ
  print_nodes (bytes bs) = 1
  print_nodes (number how e) = 1 + expression_nodes e
  print_nodes (text e) = 1 + expression_nodes e
  print_nodes (literal bs) = 1

abbrev pub initial_nodes : Initial → ℕ
initial_nodes nothing = 0
initial_nodes (value e) = expression_nodes e
initial_nodes (filled fills) = 1

abbrev pub optional_nodes : Option Expression → ℕ
optional_nodes None = 0
optional_nodes (Some e) = expression_nodes e

abbrev mutual
  pub statement_nodes : Statement → ℕ
  statement_nodes (block ss) = 1 + statements_nodes ss
  statement_nodes (declare v i) = 1 + initial_nodes i
  statement_nodes (evaluate e) = 1 + expression_nodes e
  statement_nodes (choose e s t) = 1 + expression_nodes e + statement_nodes s + statement_nodes t
  statement_nodes (repeat_while e s) = 1 + expression_nodes e + statement_nodes s
  statement_nodes (repeat_until s e) = 1 + statement_nodes s + expression_nodes e
  statement_nodes (repeat_for a b c s) =
      1 + optional_nodes a + optional_nodes b + optional_nodes c + statement_nodes s
  statement_nodes (switch kind e xs) = 1 + expression_nodes e + entries_nodes xs
  statement_nodes leave_loop = 1
  statement_nodes go_round = 1
  statement_nodes (give e) = 1 + optional_nodes e

  pub statements_nodes : Statements → ℕ
  statements_nodes no_statements = 0
  statements_nodes (with_statement s ss) = statement_nodes s + statements_nodes ss

  pub entries_nodes : SwitchEntries → ℕ
  entries_nodes no_entries = 0
  entries_nodes (with_entry x xs) = entry_nodes x + entries_nodes xs

  pub entry_nodes : SwitchEntry → ℕ
  entry_nodes (case z) = 1
  entry_nodes default = 1
  entry_nodes (statement s) = statement_nodes s

abbrev pub program_nodes : Program → ℕ
program_nodes p = sum_by (λ (f : Function). 1 + statements_nodes f.body) p.functions
