-- The words that the worked sources are written in: small functions that build trees, each part with its place in the text.
use Rattle.std.specs.Prelude.{ℕ, ◌≡◌, List, [], ◌∷◌, ◌++◌, Bool, true, false, Option, Result, Ok, Err}
use Rattle.porch_lex.specs.declared.refusal.Rule.{Rule}
use Rattle.porch_tree.specs.declared.tree.Consts.{Consts}
use Rattle.porch_tree.specs.declared.tree.Infix.{Infix}
use Rattle.porch_tree.specs.Mirror.{Name, Expr, Exprs, no_exprs, with_expr, Operands, no_operands, with_operand, Suffix, Suffixes, no_suffixes, with_suffix, Base, Field, Fields, no_fields, with_field, Constant, Constants, no_constants, with_constant, Declarator, Declarators, no_declarators, with_declarator, Bracket, Brackets, no_brackets, with_bracket, Param, Params, no_params, with_param, Initial, Initials, no_initials, with_initial, Entry, Declaration, Stmt, Stmts, no_stmts, with_stmt, SwitchEntry, SwitchEntries, no_entries, with_entry, Definition, TranslationUnit}
use Rattle.porch_typed.specs.Mirror.{Program}
use Rattle.porch_check.specs.Units.{checked_unit}

-- Words of the tree.

abbrev pub word : ℕ → List ℕ → Name
word at bytes = record { at = at; bytes = bytes }

-- the bytes of a literal, with its quotes
abbrev pub quoted : List ℕ → List ℕ
quoted bytes = 34 ∷ bytes ++ 34 ∷ []

abbrev pub consts : ℕ → ℕ → Consts
consts before behind = record { before = before; behind = behind }

abbrev pub exprs : List Expr → Exprs
exprs [] = no_exprs
exprs (x ∷ xs) = with_expr x (exprs xs)

abbrev pub operands : List (Infix × Expr) → Operands
operands [] = no_operands
operands (x ∷ xs) = with_operand x.0 x.1 (operands xs)

abbrev pub suffixes : List Suffix → Suffixes
suffixes [] = no_suffixes
suffixes (x ∷ xs) = with_suffix x (suffixes xs)

abbrev pub fields : List Field → Fields
fields [] = no_fields
fields (x ∷ xs) = with_field x (fields xs)

abbrev pub constants : List Constant → Constants
constants [] = no_constants
constants (x ∷ xs) = with_constant x (constants xs)

abbrev pub declarators : List Declarator → Declarators
declarators [] = no_declarators
declarators (x ∷ xs) = with_declarator x (declarators xs)

abbrev pub brackets : List Bracket → Brackets
brackets [] = no_brackets
brackets (x ∷ xs) = with_bracket x (brackets xs)

abbrev pub params : List Param → Params
params [] = no_params
params (x ∷ xs) = with_param x (params xs)

abbrev pub initials : List Initial → Initials
initials [] = no_initials
initials (x ∷ xs) = with_initial x (initials xs)

abbrev pub stmts : List Stmt → Stmts
stmts [] = no_stmts
stmts (x ∷ xs) = with_stmt x (stmts xs)

abbrev pub entries : List SwitchEntry → SwitchEntries
entries [] = no_entries
entries (x ∷ xs) = with_entry x (entries xs)

abbrev pub entry : Declarator → Option Initial → Entry
entry d i = record { declarator = d; initial = i }

abbrev pub declaration : Option ℕ → Base → List Entry → Declaration
declaration fixed b es = record { fixed = fixed; base = b; entries = es }

abbrev pub definition : Option ℕ → Base → Declarator → List Declaration → Stmts → Definition
definition fixed b d ds ss = record { fixed = fixed; base = b; declarator = d; declarations = ds; body = ss }

-- What is said of a text that ends at a place.

-- it breaks this rule first, at this place
abbrev pub IsRefused : (end : ℕ) → TranslationUnit → Rule → (at : ℕ) → Type 0
IsRefused end u rule at = checked_unit end u ≡ Err (record { at = at; rule = rule })

abbrev pub is_ok : {A B : Type 0} → Result A B → Bool
is_ok (Ok x) = true
is_ok (Err r) = false

-- it breaks none
abbrev pub IsAccepted : (end : ℕ) → TranslationUnit → Type 0
IsAccepted end u = is_ok (checked_unit end u) ≡ true

-- it is this program
abbrev pub IsProgram : (end : ℕ) → TranslationUnit → Program → Type 0
IsProgram end u p = checked_unit end u ≡ Ok p
