-- Some small units, as trees and as tokens.
use Rattle.std.specs.Prelude.{ℕ, zero, suc, List, [], ◌∷◌, ◌++◌, codes, map, take, None}
use Rattle.porch_tree.specs.declared.word.Keyword.TheVariants as key
use Rattle.porch_tree.specs.declared.word.Mark.TheVariants as mark
use Rattle.porch_tree.specs.declared.word.Word.{Word}
use Rattle.porch_tree.specs.declared.word.Word.TheVariants as word
use Rattle.porch_tree.specs.declared.tree.Infix.TheVariants.{Sub}
use Rattle.porch_tree.specs.declared.tree.Level.TheVariants.{Sum}
use Rattle.porch_tree.specs.declared.tree.Prefix.TheVariants.{Increase}
use Rattle.porch_tree.specs.Mirror.{Name, Expr, name, whole, nested, prefixed, row, no_operands, with_operand, present, kind, declarator, named, void_list, no_brackets, with_bracket, give, no_stmts, with_stmt, Definition, function, TranslationUnit}
use Rattle.porch_tree.specs.Pieces.{Spelled, Piece}

abbrev pub name_at : ℕ → List ℕ → Name
name_at at bytes = record { at = at; bytes = bytes }

-- int main(void){return 0;}
abbrev pub small_function : Definition
small_function =
    record {
      fixed = None;
      base = kind 0 (key.Int ∷ []);
      declarator = declarator 4 [] (named (name_at 4 (codes "main"))) (with_bracket void_list no_brackets);
      declarations = [];
      body = with_stmt (give 15 (present (whole (name_at 22 (codes "0"))))) no_stmts;
    }

abbrev pub small_unit : TranslationUnit
small_unit = function small_function ∷ []

abbrev pub token : Word → ℕ → List ℕ → Spelled
token w at bytes = record { word = w; at = at; bytes = bytes }

abbrev pub small_tokens : List Spelled
small_tokens =
    token (word.Key key.Int) 0 (codes "int") ∷ token word.Name 4 (codes "main")
    ∷ token (word.Mark mark.OpenParenthesis) 8 (codes "(") ∷ token (word.Key key.Void) 9 (codes "void")
    ∷ token (word.Mark mark.CloseParenthesis) 13 (codes ")")
    ∷ token (word.Mark mark.OpenBrace) 14 (codes "{") ∷ token (word.Key key.Return) 15 (codes "return")
    ∷ token word.Whole 22 (codes "0") ∷ token (word.Mark mark.Semicolon) 23 (codes ";")
    ∷ token (word.Mark mark.CloseBrace) 24 (codes "}") ∷ []

abbrev pub uses_of : List Piece → List ℕ
uses_of ps = map (λ p. p.uses) ps

-- an expression in so many parentheses
abbrev pub in_parentheses : ℕ → Expr → Expr
in_parentheses zero e = e
in_parentheses (suc n) e = nested 0 (in_parentheses n e)

-- x, T, (T), (T)-x, ++(T)
abbrev pub x : Expr
x = name (name_at 0 (codes "x"))

abbrev pub t : Expr
t = name (name_at 0 (codes "T"))

abbrev pub difference : Expr
difference = row Sum (nested 0 t) (with_operand Sub x no_operands)

abbrev pub increased_t : Expr
increased_t = prefixed 0 Increase (nested 2 t)

-- int main(void){}
abbrev pub empty_function : Definition
empty_function =
    record {
      fixed = None;
      base = small_function.base;
      declarator = small_function.declarator;
      declarations = [];
      body = no_stmts;
    }

abbrev pub empty_unit : TranslationUnit
empty_unit = function empty_function ∷ []

-- int main(void){float
abbrev pub float_tokens : List Spelled
float_tokens = take 6 small_tokens ++ token (word.Key key.Float) 15 (codes "float") ∷ []

abbrev pub brace_tokens : List Spelled
brace_tokens = token (word.Mark mark.CloseBrace) 15 (codes "}") ∷ []
