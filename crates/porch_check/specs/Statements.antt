-- Declarations and statements, in the order of the text.
use Rattle.std.specs.Prelude.{ℕ, ℤ, Bool, true, false, not, nat_eq, if◌then◌else◌, List, [], ◌∷◌, ◌++◌, length, slice_set, Option, Some, None, is_some, Ok}
use Rattle.std.specs.List.{list_any}
use Rattle.std.specs.Ordering.{int_eq}
use Rattle.porch_lex.specs.declared.refusal.Rule.TheVariants.{Twice, Mismatch}
use Rattle.porch_types.specs.declared.shapes.Kind.{Kind}
use Rattle.porch_values.specs.Integers.{in_range}
use Rattle.porch_tree.specs.Pieces.{at_of}
use Rattle.porch_tree.specs.Mirror.{Name, Expr, Perhaps, absent, present, Base, tag, Declarator, declarator, Initial, value, braced, Entry, Declaration, Stmt, block, evaluate, choose, choose_else, while_loop, do_loop, for_loop, switch, break, continue, give, Stmts, no_stmts, with_stmt, SwitchEntry, case, default, stmt, SwitchEntries, no_entries, with_entry}
use Rattle.porch_typed.specs.declared.typed.Fill.{Fill}
use Rattle.porch_typed.specs.Mirror.{Expression, Statement, Statements, no_statements, with_statement}
use Rattle.porch_typed.specs.Mirror as tree
use Rattle.porch_check.specs.Refusals.{refuse, and_then, unless_broken}
use Rattle.porch_check.specs.Shapes.{Shape, array, function, shape_of, is_complete}
use Rattle.porch_check.specs.Scopes.{Meaning, Scopes, of_name, hindrance, with_name, is_file, new_scope, entered, left}
use Rattle.porch_check.specs.Scopes as scope
use Rattle.porch_check.specs.Operands.{Value, integer, Typed, Typing, go_on, promoted, is_scalar, fitted}
use Rattle.porch_check.specs.Declarations.{with_constant, type_of_parts, tag_alone, if_new}
use Rattle.porch_check.specs.Expressions.{typed_base, typed_declarator}
use Rattle.porch_check.specs.Initialisers.{typed_value, Begun, by_value, by_fills, typed_initial}

-- Declarations of functions: any number, each of the type of the first one in the text.

-- a function among the names of this scope, which may be declared again as one
abbrev pub with_function : Name → Option Meaning → Scopes → Typing ℕ
with_function n None s = Ok (0, with_name n.bytes scope.function s)
with_function n (Some scope.function) s = Ok (0, s)
with_function n (Some m) s = refuse Twice n.at

abbrev pub with_first_type : Name → (shape : ℕ) → Option ℕ → Scopes → Typing ℕ
with_first_type n x None s = Ok (x, record s { declared = s.declared ++ (n.bytes, x) ∷ [] })
with_first_type n x (Some y) s = if nat_eq x y then Ok (x, s) else refuse Mismatch n.at

abbrev pub declared_function : Name → (shape : ℕ) → Scopes → Typing ℕ
declared_function n x s =
    go_on (with_function n (hindrance n.bytes s) s) (λ k s. with_first_type n x (of_name n.bytes s.declared) s)

-- Objects: variables of a function, and globals.

abbrev pub with_variable : Name → (shape : ℕ) → Scopes → Scopes
with_variable n x s =
    with_name n.bytes (scope.variable (length s.variables) x) (record s { variables = s.variables ++ x ∷ [] })

abbrev pub with_global : (at : ℕ) → Name → (shape : ℕ) → Scopes → Scopes
with_global at n x s =
    with_name n.bytes (scope.global (length s.globals) x)
    (record s { globals = s.globals ++ record { ty = x; fills = [] } ∷ []; entries = s.entries ++ at ∷ [] })

-- A variable by its number, of the type that its initialiser gave it.
abbrev pub variable_as : Name → (number shape : ℕ) → Scopes → Scopes
variable_as n k x s =
    with_name n.bytes (scope.variable k x) (record s { variables = slice_set s.variables k x })

abbrev pub global_as : Name → (number shape : ℕ) → List (ℕ × Fill) → Scopes → Scopes
global_as n k x fs s =
    with_name n.bytes (scope.global k x) (record s { globals = slice_set s.globals k (record { ty = x; fills = fs }) })

-- the statement where the declaration of a variable is reached
abbrev pub declared_as : (number : ℕ) → tree.Initial → Statements
declared_as k i = with_statement (tree.declare k i) no_statements

abbrev pub variable_begun : Name → (number : ℕ) → Begun → Scopes → Typing Statements
variable_begun n k (by_value e) s = Ok (declared_as k (tree.value e), s)
variable_begun n k (by_fills x fs) s = Ok (declared_as k (tree.filled fs), variable_as n k x s)

abbrev pub global_begun : Name → (number : ℕ) → Begun → Scopes → Typing Statements
global_begun n k (by_value e) s = Ok (no_statements, s)
global_begun n k (by_fills x fs) s = Ok (no_statements, global_as n k x fs s)

-- an object is complete; an array without a count is so by its initialiser
abbrev pub is_object : Shape → (shape : ℕ) → Bool → Scopes → Bool
is_object (array of None) n begun s = begun
is_object t n begun s = is_complete s.shapes n

abbrev pub with_statements : Statements → Statements → Statements
with_statements no_statements b = b
with_statements (with_statement s ss) b = with_statement s (with_statements ss b)

-- What stands around a statement.
pub record Around : Type 0 where
  -- whether a loop or a switch is left by break, and a loop goes round by continue
  pub leaves : Bool
  pub rounds : Bool
  -- the type that the function gives, or none
  pub result : Option ℕ

abbrev pub in_loop : Around → Around
in_loop a = record { leaves = true; rounds = true; result = a.result }

abbrev pub in_switch : Around → Around
in_switch a = record { leaves = true; rounds = a.rounds; result = a.result }

-- the labels of a switch so far
pub record Labels : Type 0 where
  pub kind : Kind
  pub cases : List ℤ
  pub has_default : Bool

abbrev pub condition : (at : ℕ) → Typed → Scopes → Typing Expression
condition at x s = if is_scalar x.value then Ok (x.tree, s) else refuse Mismatch at

-- A case value is a value of the switch's kind where long has 32 bits, and is there once.
abbrev pub labelled : (at : ℕ) → ℤ → Labels → Scopes → Typing Labels
labelled at z ls s =
    if not (in_range ls.kind 32 z) then refuse Mismatch at
    else if list_any (int_eq z) ls.cases then refuse Twice at
    else Ok (record ls { cases = z ∷ ls.cases }, s)

abbrev pub with_default : (at : ℕ) → Labels → Scopes → Typing Labels
with_default at ls s = if ls.has_default then refuse Twice at else Ok (record ls { has_default = true }, s)

-- `return` with a value: `at` is its own place, `of` the value's
abbrev pub given : (at of : ℕ) → Option ℕ → Typed → Scopes → Typing Statement
given at of None x s = refuse Mismatch at
given at of (Some n) x s = and_then (fitted of n x s) (λ e. Ok (tree.give (Some e), s))

abbrev pub empty_statement : Statement
empty_statement = tree.block no_statements

abbrev pub optional : {A : Type 0} → Typing A → Typing (Option A)
optional r = go_on r (λ x s. Ok (Some x, s))

abbrev pub declarator_at : Declarator → ℕ
declarator_at (declarator at stars c bs) = at

abbrev pub evaluated : Option Expression → Statement
evaluated None = empty_statement
evaluated (Some e) = tree.evaluate e

-- The kind of a switch, and its value converted to that.
abbrev pub switched : (at : ℕ) → Typed → Value → Scopes → Typing (Kind × Expression)
switched at x (integer k) s = Ok ((promoted k, tree.conversion (promoted k) x.tree), s)
switched at x v s = refuse Mismatch at

module _ (bodies : List (List ℕ)) where
  -- A function has no initialiser.
  abbrev pub no_initial : Option Initial → Scopes → Typing Statements
  no_initial None s = Ok (no_statements, s)
  no_initial (Some (value e)) s = go_on (typed_value bodies e s) (λ x s. refuse Mismatch (at_of e))
  no_initial (Some (braced at xs comma)) s = refuse Mismatch at

  abbrev pub begun_variable : Name → (number shape : ℕ) → Option Initial → Scopes → Typing Statements
  begun_variable n k x None s = Ok (declared_as k tree.nothing, s)
  begun_variable n k x (Some i) s = go_on (typed_initial bodies false i x s) (variable_begun n k)

  abbrev pub begun_global : Name → (number shape : ℕ) → Option Initial → Scopes → Typing Statements
  begun_global n k x None s = Ok (no_statements, s)
  begun_global n k x (Some i) s = go_on (typed_initial bodies true i x s) (global_begun n k)

  -- the scope of a name begins behind its declarator
  abbrev pub declared_object : (at : ℕ) → Name → (shape : ℕ) → Option Initial → Scopes → Typing Statements
  declared_object at n x i s =
      if_new n s
      (unless_broken (is_object (shape_of s.shapes x) x (is_some i) s) Mismatch at
      (if is_file s
      then begun_global n (length s.globals) x i (with_global at n x s)
      else begun_variable n (length s.variables) x i (with_variable n x s)))

  abbrev pub declared_in : Shape → (at : ℕ) → Name → (shape : ℕ) → Option Initial → Scopes → Typing Statements
  declared_in (function r ps) at n x i s = go_on (declared_function n x s) (λ y s. no_initial i s)
  declared_in t at n x i s = declared_object at n x i s

  -- the grammar gives each entry a name
  abbrev pub declared_name : (at : ℕ) → Option Name → (shape : ℕ) → Option Initial → Scopes → Typing Statements
  declared_name at None x i s = refuse Mismatch at
  declared_name at (Some n) x i s = declared_in (shape_of s.shapes x) at n x i s

  abbrev pub typed_entry : Entry → (base : ℕ) → Scopes → Typing Statements
  typed_entry e base s =
      go_on (typed_declarator bodies e.declarator s) (λ d s.
      go_on (type_of_parts d.parts base s) (λ x s. declared_name (declarator_at e.declarator) d.name x e.initial s))

  abbrev pub typed_entries : List Entry → (base : ℕ) → Scopes → Typing Statements
  typed_entries [] base s = Ok (no_statements, s)
  typed_entries (e ∷ es) base s =
      go_on (typed_entry e base s) (λ a s. go_on (typed_entries es base s) (λ b s. Ok (with_statements a b, s)))

  -- `struct u;` declares a tag of this scope
  abbrev pub declared_base : Base → List Entry → Scopes → Typing ℕ
  declared_base (tag at sort n cs) [] s = tag_alone sort at n s
  declared_base b es s = typed_base bodies b s

  abbrev pub typed_declaration : Declaration → Scopes → Typing Statements
  typed_declaration d s = go_on (declared_base d.base d.entries s) (typed_entries d.entries)

  abbrev pub typed_declarations : List Declaration → Scopes → Typing Statements
  typed_declarations [] s = Ok (no_statements, s)
  typed_declarations (d ∷ ds) s =
      go_on (typed_declaration d s) (λ a s. go_on (typed_declarations ds s) (λ b s. Ok (with_statements a b, s)))

  abbrev pub typed_condition : Expr → Scopes → Typing Expression
  typed_condition e s = go_on (typed_value bodies e s) (condition (at_of e))

  abbrev pub typed_test : Perhaps → Scopes → Typing (Option Expression)
  typed_test absent s = Ok (None, s)
  typed_test (present e) s = optional (typed_condition e s)

  -- an expression for what it does
  abbrev pub typed_effect : Perhaps → Scopes → Typing (Option Expression)
  typed_effect absent s = Ok (None, s)
  typed_effect (present e) s = go_on (typed_value bodies e s) (λ x s. Ok (Some x.tree, s))

  abbrev pub typed_give : (at : ℕ) → Perhaps → Option ℕ → Scopes → Typing Statement
  typed_give at absent result s = Ok (tree.give None, s)
  typed_give at (present e) result s = go_on (typed_value bodies e s) (given at (at_of e) result)

  abbrev pub typed_switch : Expr → Scopes → Typing (Kind × Expression)
  typed_switch e s = go_on (typed_value bodies e s) (λ x s. switched (at_of e) x x.value s)

  abbrev pub typed_case : Expr → Labels → Scopes → Typing (ℤ × Labels)
  typed_case e ls s =
      go_on (typed_value bodies e s) (λ x s.
      with_constant (at_of e) x (λ k z. go_on (labelled (at_of e) z ls s) (λ ls s. Ok ((z, ls), s))))

  abbrev mutual
    pub typed_stmt : Stmt → Around → Scopes → Typing Statement
    typed_stmt (block at ds ss) a s =
        go_on (typed_declarations ds (entered (new_scope []) s)) (λ first t.
        go_on (typed_stmts ss a t) (λ rest t. Ok (tree.block (with_statements first rest), left s t)))
    typed_stmt (evaluate p) a s = go_on (typed_effect p s) (λ e s. Ok (evaluated e, s))
    typed_stmt (choose at e x) a s =
        go_on (typed_condition e s) (λ e s. go_on (typed_stmt x a s) (λ x s. Ok (tree.choose e x empty_statement, s)))
    typed_stmt (choose_else at e x y) a s =
        go_on (typed_condition e s) (λ e s.
        go_on (typed_stmt x a s) (λ x s. go_on (typed_stmt y a s) (λ y s. Ok (tree.choose e x y, s))))
    typed_stmt (while_loop at e x) a s =
        go_on (typed_condition e s) (λ e s. go_on (typed_stmt x (in_loop a) s) (λ x s. Ok (tree.repeat_while e x, s)))
    typed_stmt (do_loop at x e) a s =
        go_on (typed_stmt x (in_loop a) s) (λ x s. go_on (typed_condition e s) (λ e s. Ok (tree.repeat_until x e, s)))
    typed_stmt (for_loop at p q r x) a s =
        go_on (typed_effect p s) (λ p s. go_on (typed_test q s) (λ q s. go_on (typed_effect r s) (λ r s.
        go_on (typed_stmt x (in_loop a) s) (λ x s. Ok (tree.repeat_for p q r x, s)))))
    typed_stmt (switch at e xs) a s =
        go_on (typed_switch e s) (λ k s.
        go_on (typed_switch_entries xs (record { kind = k.0; cases = []; has_default = false }) (in_switch a) s) (λ xs s.
        Ok (tree.switch k.0 k.1 xs, s)))
    typed_stmt (break at) a s = unless_broken a.leaves Mismatch at (Ok (tree.leave_loop, s))
    typed_stmt (continue at) a s = unless_broken a.rounds Mismatch at (Ok (tree.go_round, s))
    typed_stmt (give at p) a s = typed_give at p a.result s

    pub typed_stmts : Stmts → Around → Scopes → Typing Statements
    typed_stmts no_stmts a s = Ok (no_statements, s)
    typed_stmts (with_stmt x xs) a s =
        go_on (typed_stmt x a s) (λ x s. go_on (typed_stmts xs a s) (λ xs s. Ok (with_statement x xs, s)))

    pub typed_switch_entries : SwitchEntries → Labels → Around → Scopes → Typing tree.SwitchEntries
    typed_switch_entries no_entries ls a s = Ok (tree.no_entries, s)
    typed_switch_entries (with_entry x xs) ls a s =
        go_on (typed_switch_entry x ls a s) (λ x s.
        go_on (typed_switch_entries xs x.1 a s) (λ xs s. Ok (tree.with_entry x.0 xs, s)))

    pub typed_switch_entry : SwitchEntry → Labels → Around → Scopes → Typing (tree.SwitchEntry × Labels)
    typed_switch_entry (case at e) ls a s = go_on (typed_case e ls s) (λ r s. Ok ((tree.case r.0, r.1), s))
    typed_switch_entry (default at) ls a s = go_on (with_default at ls s) (λ ls s. Ok ((tree.default, ls), s))
    typed_switch_entry (stmt x) ls a s = go_on (typed_stmt x a s) (λ x s. Ok ((tree.statement x, ls), s))
