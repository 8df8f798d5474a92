-- Some small expressions, as tokens and as trees.
use Rattle.std.specs.Prelude.{List, [], ◌∷◌, codes, None, Some}
use Rattle.porch_tree.specs.declared.tree.TagSort.TheVariants as tag_sort
use Rattle.porch_tree.specs.declared.word.Keyword.TheVariants as key
use Rattle.porch_tree.specs.declared.word.Mark.TheVariants as mark
use Rattle.porch_tree.specs.declared.word.Word.TheVariants as word
use Rattle.porch_tree.specs.declared.tree.Assigning.TheVariants as assigning
use Rattle.porch_tree.specs.declared.tree.Infix.TheVariants as infix_variant
use Rattle.porch_tree.specs.declared.tree.Level.TheVariants as level
use Rattle.porch_tree.specs.declared.tree.Prefix.TheVariants as prefix
use Rattle.porch_tree.specs.Mirror.{size_of, cast, type_name, typedef_name, tag, kind, structure, enumeration, field, no_fields, with_field, constant, no_constants, with_constant, declarator, no_declarators, with_declarator, lacking, named, inner, count, void_list, no_brackets, with_bracket, present, absent, Expr, name, whole, texts, nested, suffixed, prefixed, row, conditional, assign, sequence, no_exprs, with_expr, no_operands, with_operand, index, call, member, arrow, increased, no_suffixes, with_suffix}
use Rattle.porch_tree.specs.Pieces.{Spelled}
use Rattle.porch_tree.specs.Worked.{name_at, token}

-- a-b*c-d
abbrev pub sums_tokens : List Spelled
sums_tokens = token word.Name 0 (codes "a") ∷ token (word.Mark mark.Minus) 1 (codes "-") ∷ token word.Name 2 (codes "b") ∷ token (word.Mark mark.Star) 3 (codes "*") ∷ token word.Name 4 (codes "c") ∷ token (word.Mark mark.Minus) 5 (codes "-") ∷ token word.Name 6 (codes "d") ∷ []

abbrev pub sums : Expr
sums = row level.Sum (name (name_at 0 (codes "a"))) (with_operand infix_variant.Sub (row level.Product (name (name_at 2 (codes "b"))) (with_operand infix_variant.Mul (name (name_at 4 (codes "c"))) no_operands)) (with_operand infix_variant.Sub (name (name_at 6 (codes "d"))) no_operands))

-- a=b+=c?d:e?f:g
abbrev pub assignments_tokens : List Spelled
assignments_tokens = token word.Name 0 (codes "a") ∷ token (word.Mark mark.Equal) 1 (codes "=") ∷ token word.Name 2 (codes "b") ∷ token (word.Mark mark.PlusEqual) 3 (codes "+=") ∷ token word.Name 5 (codes "c") ∷ token (word.Mark mark.Question) 6 (codes "?") ∷ token word.Name 7 (codes "d") ∷ token (word.Mark mark.Colon) 8 (codes ":") ∷ token word.Name 9 (codes "e") ∷ token (word.Mark mark.Question) 10 (codes "?") ∷ token word.Name 11 (codes "f") ∷ token (word.Mark mark.Colon) 12 (codes ":") ∷ token word.Name 13 (codes "g") ∷ []

abbrev pub assignments : Expr
assignments = assign assigning.Plain (name (name_at 0 (codes "a"))) (assign assigning.Add (name (name_at 2 (codes "b"))) (conditional (name (name_at 5 (codes "c"))) (name (name_at 7 (codes "d"))) (conditional (name (name_at 9 (codes "e"))) (name (name_at 11 (codes "f"))) (name (name_at 13 (codes "g"))))))

-- -a[1]++.x->y(b,c=d)(),e
abbrev pub suffixes_tokens : List Spelled
suffixes_tokens = token (word.Mark mark.Minus) 0 (codes "-") ∷ token word.Name 1 (codes "a") ∷ token (word.Mark mark.OpenBracket) 2 (codes "[") ∷ token word.Whole 3 (codes "1") ∷ token (word.Mark mark.CloseBracket) 4 (codes "]") ∷ token (word.Mark mark.PlusPlus) 5 (codes "++") ∷ token (word.Mark mark.Dot) 7 (codes ".") ∷ token word.Name 8 (codes "x") ∷ token (word.Mark mark.Arrow) 9 (codes "->") ∷ token word.Name 11 (codes "y") ∷ token (word.Mark mark.OpenParenthesis) 12 (codes "(") ∷ token word.Name 13 (codes "b") ∷ token (word.Mark mark.Comma) 14 (codes ",") ∷ token word.Name 15 (codes "c") ∷ token (word.Mark mark.Equal) 16 (codes "=") ∷ token word.Name 17 (codes "d") ∷ token (word.Mark mark.CloseParenthesis) 18 (codes ")") ∷ token (word.Mark mark.OpenParenthesis) 19 (codes "(") ∷ token (word.Mark mark.CloseParenthesis) 20 (codes ")") ∷ token (word.Mark mark.Comma) 21 (codes ",") ∷ token word.Name 22 (codes "e") ∷ []

abbrev pub suffixes : Expr
suffixes = sequence (prefixed 0 prefix.Minus (suffixed (name (name_at 1 (codes "a"))) (with_suffix (index (whole (name_at 3 (codes "1")))) (with_suffix increased (with_suffix (member (name_at 8 (codes "x"))) (with_suffix (arrow (name_at 11 (codes "y"))) (with_suffix (call (with_expr (name (name_at 13 (codes "b"))) (with_expr (assign assigning.Plain (name (name_at 15 (codes "c"))) (name (name_at 17 (codes "d")))) no_exprs))) (with_suffix (call no_exprs) no_suffixes)))))))) (with_expr (name (name_at 22 (codes "e"))) no_exprs)

-- a||b&&c|d^e&f==g<h<<i+j*k
abbrev pub levels_tokens : List Spelled
levels_tokens = token word.Name 0 (codes "a") ∷ token (word.Mark mark.OrOr) 1 (codes "||") ∷ token word.Name 3 (codes "b") ∷ token (word.Mark mark.AndAnd) 4 (codes "&&") ∷ token word.Name 6 (codes "c") ∷ token (word.Mark mark.Or) 7 (codes "|") ∷ token word.Name 8 (codes "d") ∷ token (word.Mark mark.Caret) 9 (codes "^") ∷ token word.Name 10 (codes "e") ∷ token (word.Mark mark.And) 11 (codes "&") ∷ token word.Name 12 (codes "f") ∷ token (word.Mark mark.EqualEqual) 13 (codes "==") ∷ token word.Name 15 (codes "g") ∷ token (word.Mark mark.Less) 16 (codes "<") ∷ token word.Name 17 (codes "h") ∷ token (word.Mark mark.ShiftLeft) 18 (codes "<<") ∷ token word.Name 20 (codes "i") ∷ token (word.Mark mark.Plus) 21 (codes "+") ∷ token word.Name 22 (codes "j") ∷ token (word.Mark mark.Star) 23 (codes "*") ∷ token word.Name 24 (codes "k") ∷ []

abbrev pub levels : Expr
levels = row level.Any (name (name_at 0 (codes "a"))) (with_operand infix_variant.Any (row level.All (name (name_at 3 (codes "b"))) (with_operand infix_variant.All (row level.BitOr (name (name_at 6 (codes "c"))) (with_operand infix_variant.BitOr (row level.BitXor (name (name_at 8 (codes "d"))) (with_operand infix_variant.BitXor (row level.BitAnd (name (name_at 10 (codes "e"))) (with_operand infix_variant.BitAnd (row level.Equality (name (name_at 12 (codes "f"))) (with_operand infix_variant.Equal (row level.Relation (name (name_at 15 (codes "g"))) (with_operand infix_variant.Less (row level.Shift (name (name_at 17 (codes "h"))) (with_operand infix_variant.ShiftLeft (row level.Sum (name (name_at 20 (codes "i"))) (with_operand infix_variant.Add (row level.Product (name (name_at 22 (codes "j"))) (with_operand infix_variant.Mul (name (name_at 24 (codes "k"))) no_operands)) no_operands)) no_operands)) no_operands)) no_operands)) no_operands)) no_operands)) no_operands)) no_operands)) no_operands)

-- a*b+c<<d<e
abbrev pub falling_tokens : List Spelled
falling_tokens = token word.Name 0 (codes "a") ∷ token (word.Mark mark.Star) 1 (codes "*") ∷ token word.Name 2 (codes "b") ∷ token (word.Mark mark.Plus) 3 (codes "+") ∷ token word.Name 4 (codes "c") ∷ token (word.Mark mark.ShiftLeft) 5 (codes "<<") ∷ token word.Name 7 (codes "d") ∷ token (word.Mark mark.Less) 8 (codes "<") ∷ token word.Name 9 (codes "e") ∷ []

abbrev pub falling : Expr
falling = row level.Relation (row level.Shift (row level.Sum (row level.Product (name (name_at 0 (codes "a"))) (with_operand infix_variant.Mul (name (name_at 2 (codes "b"))) no_operands)) (with_operand infix_variant.Add (name (name_at 4 (codes "c"))) no_operands)) (with_operand infix_variant.ShiftLeft (name (name_at 7 (codes "d"))) no_operands)) (with_operand infix_variant.Less (name (name_at 9 (codes "e"))) no_operands)

-- sizeof"s""t"[(0,1)]
abbrev pub literals_tokens : List Spelled
literals_tokens = token (word.Key key.Sizeof) 0 (codes "sizeof") ∷ token word.Text 6 (codes "\"s\"") ∷ token word.Text 9 (codes "\"t\"") ∷ token (word.Mark mark.OpenBracket) 12 (codes "[") ∷ token (word.Mark mark.OpenParenthesis) 13 (codes "(") ∷ token word.Whole 14 (codes "0") ∷ token (word.Mark mark.Comma) 15 (codes ",") ∷ token word.Whole 16 (codes "1") ∷ token (word.Mark mark.CloseParenthesis) 17 (codes ")") ∷ token (word.Mark mark.CloseBracket) 18 (codes "]") ∷ []

abbrev pub literals : Expr
literals = prefixed 0 prefix.Sizeof (suffixed (texts (name_at 6 (codes "\"s\"")) (name_at 9 (codes "\"t\"") ∷ [])) (with_suffix (index (nested 13 (sequence (whole (name_at 14 (codes "0"))) (with_expr (whole (name_at 16 (codes "1"))) no_exprs)))) no_suffixes))

-- (T)(x)+sizeof(const struct s*[2])*sizeof(y)
abbrev pub types_tokens : List Spelled
types_tokens = token (word.Mark mark.OpenParenthesis) 0 (codes "(") ∷ token word.Name 1 (codes "T") ∷ token (word.Mark mark.CloseParenthesis) 2 (codes ")") ∷ token (word.Mark mark.OpenParenthesis) 3 (codes "(") ∷ token word.Name 4 (codes "x") ∷ token (word.Mark mark.CloseParenthesis) 5 (codes ")") ∷ token (word.Mark mark.Plus) 6 (codes "+") ∷ token (word.Key key.Sizeof) 7 (codes "sizeof") ∷ token (word.Mark mark.OpenParenthesis) 13 (codes "(") ∷ token (word.Key key.Const) 14 (codes "const") ∷ token (word.Key key.Struct) 20 (codes "struct") ∷ token word.Name 27 (codes "s") ∷ token (word.Mark mark.Star) 28 (codes "*") ∷ token (word.Mark mark.OpenBracket) 29 (codes "[") ∷ token word.Whole 30 (codes "2") ∷ token (word.Mark mark.CloseBracket) 31 (codes "]") ∷ token (word.Mark mark.CloseParenthesis) 32 (codes ")") ∷ token (word.Mark mark.Star) 33 (codes "*") ∷ token (word.Key key.Sizeof) 34 (codes "sizeof") ∷ token (word.Mark mark.OpenParenthesis) 40 (codes "(") ∷ token word.Name 41 (codes "y") ∷ token (word.Mark mark.CloseParenthesis) 42 (codes ")") ∷ []

abbrev pub types : Expr
types = row level.Sum (cast 0 (type_name (typedef_name 1 (name_at 1 (codes "T")) (record { before = 0; behind = 0 })) (declarator 0 [] lacking no_brackets)) (nested 3 (name (name_at 4 (codes "x"))))) (with_operand infix_variant.Add (row level.Product (size_of 7 (type_name (tag 14 tag_sort.Struct (name_at 27 (codes "s")) (record { before = 1; behind = 0 })) (declarator 28 (0 ∷ []) lacking (with_bracket (count (present (whole (name_at 30 (codes "2"))))) no_brackets)))) (with_operand infix_variant.Mul (prefixed 34 prefix.Sizeof (nested 40 (name (name_at 41 (codes "y"))))) no_operands)) no_operands)

-- (struct{int a,(*f)(void);enum e{A,B=1}b;}const)x
abbrev pub braces_tokens : List Spelled
braces_tokens = token (word.Mark mark.OpenParenthesis) 0 (codes "(") ∷ token (word.Key key.Struct) 1 (codes "struct") ∷ token (word.Mark mark.OpenBrace) 7 (codes "{") ∷ token (word.Key key.Int) 8 (codes "int") ∷ token word.Name 12 (codes "a") ∷ token (word.Mark mark.Comma) 13 (codes ",") ∷ token (word.Mark mark.OpenParenthesis) 14 (codes "(") ∷ token (word.Mark mark.Star) 15 (codes "*") ∷ token word.Name 16 (codes "f") ∷ token (word.Mark mark.CloseParenthesis) 17 (codes ")") ∷ token (word.Mark mark.OpenParenthesis) 18 (codes "(") ∷ token (word.Key key.Void) 19 (codes "void") ∷ token (word.Mark mark.CloseParenthesis) 23 (codes ")") ∷ token (word.Mark mark.Semicolon) 24 (codes ";") ∷ token (word.Key key.Enum) 25 (codes "enum") ∷ token word.Name 30 (codes "e") ∷ token (word.Mark mark.OpenBrace) 31 (codes "{") ∷ token word.Name 32 (codes "A") ∷ token (word.Mark mark.Comma) 33 (codes ",") ∷ token word.Name 34 (codes "B") ∷ token (word.Mark mark.Equal) 35 (codes "=") ∷ token word.Whole 36 (codes "1") ∷ token (word.Mark mark.CloseBrace) 37 (codes "}") ∷ token word.Name 38 (codes "b") ∷ token (word.Mark mark.Semicolon) 39 (codes ";") ∷ token (word.Mark mark.CloseBrace) 40 (codes "}") ∷ token (word.Key key.Const) 41 (codes "const") ∷ token (word.Mark mark.CloseParenthesis) 46 (codes ")") ∷ token word.Name 47 (codes "x") ∷ []

abbrev pub braces : Expr
braces = cast 0 (type_name (structure 1 None (with_field (field (kind 8 (key.Int ∷ [])) (with_declarator (declarator 12 [] (named (name_at 12 (codes "a"))) no_brackets) (with_declarator (declarator 14 [] (inner 14 (declarator 15 (0 ∷ []) (named (name_at 16 (codes "f"))) no_brackets)) (with_bracket void_list no_brackets)) no_declarators))) (with_field (field (enumeration 25 (Some (name_at 30 (codes "e"))) (with_constant (constant (name_at 32 (codes "A")) absent) (with_constant (constant (name_at 34 (codes "B")) (present (whole (name_at 36 (codes "1"))))) no_constants)) (record { before = 0; behind = 0 })) (with_declarator (declarator 38 [] (named (name_at 38 (codes "b"))) no_brackets) no_declarators)) no_fields)) (record { before = 0; behind = 1 })) (declarator 0 [] lacking no_brackets)) (name (name_at 47 (codes "x")))
