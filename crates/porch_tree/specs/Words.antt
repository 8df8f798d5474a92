-- How words are spelled, and which word each operator of the tree is.
use Rattle.std.specs.Prelude.{ℕ, List, [], ◌∷◌, codes}
use Rattle.porch_tree.specs.declared.word.Keyword.{Keyword}
use Rattle.porch_tree.specs.declared.word.Mark.{Mark}
use Rattle.porch_tree.specs.declared.word.Word.{Word}
use Rattle.porch_tree.specs.declared.word.Keyword.TheVariants as key
use Rattle.porch_tree.specs.declared.word.Mark.TheVariants as mark
use Rattle.porch_tree.specs.declared.word.Word.TheVariants as word
use Rattle.porch_tree.specs.declared.tree.Prefix.{Prefix}
use Rattle.porch_tree.specs.declared.tree.Prefix.TheVariants as prefix_variant
use Rattle.porch_tree.specs.declared.tree.Level.{Level}
use Rattle.porch_tree.specs.declared.tree.Level.TheVariants as level_variant
use Rattle.porch_tree.specs.declared.tree.Infix.{Infix}
use Rattle.porch_tree.specs.declared.tree.Infix.TheVariants as infix_variant
use Rattle.porch_tree.specs.declared.tree.Assigning.{Assigning}
use Rattle.porch_tree.specs.declared.tree.Assigning.TheVariants as assigning_variant
use Rattle.porch_tree.specs.declared.tree.TagSort.{TagSort}
use Rattle.porch_tree.specs.declared.tree.TagSort.TheVariants as tag_variant

-- the keywords of C90
abbrev pub keywords : List Keyword
keywords =
    key.Auto ∷ key.Break ∷ key.Case ∷ key.Char ∷ key.Const ∷ key.Continue ∷ key.Default ∷
    key.Do ∷ key.Double ∷ key.Else ∷ key.Enum ∷ key.Extern ∷ key.Float ∷ key.For ∷ key.Goto ∷
    key.If ∷ key.Int ∷ key.Long ∷ key.Register ∷ key.Return ∷ key.Short ∷ key.Signed ∷
    key.Sizeof ∷ key.Static ∷ key.Struct ∷ key.Switch ∷ key.Typedef ∷ key.Union ∷
    key.Unsigned ∷ key.Void ∷ key.Volatile ∷ key.While ∷ []

-- its operators and punctuation without `...`, `#` and `##`
abbrev pub marks : List Mark
marks =
    mark.OpenBracket ∷ mark.CloseBracket ∷ mark.OpenParenthesis ∷ mark.CloseParenthesis ∷
    mark.OpenBrace ∷ mark.CloseBrace ∷ mark.Dot ∷ mark.Arrow ∷ mark.PlusPlus ∷
    mark.MinusMinus ∷ mark.And ∷ mark.Star ∷ mark.Plus ∷ mark.Minus ∷ mark.Tilde ∷ mark.Not ∷
    mark.Slash ∷ mark.Percent ∷ mark.ShiftLeft ∷ mark.ShiftRight ∷ mark.Less ∷ mark.Greater ∷
    mark.LessEqual ∷ mark.GreaterEqual ∷ mark.EqualEqual ∷ mark.NotEqual ∷ mark.Caret ∷
    mark.Or ∷ mark.AndAnd ∷ mark.OrOr ∷ mark.Question ∷ mark.Colon ∷ mark.Semicolon ∷
    mark.Equal ∷ mark.StarEqual ∷ mark.SlashEqual ∷ mark.PercentEqual ∷ mark.PlusEqual ∷
    mark.MinusEqual ∷ mark.ShiftLeftEqual ∷ mark.ShiftRightEqual ∷ mark.AndEqual ∷
    mark.CaretEqual ∷ mark.OrEqual ∷ mark.Comma ∷ []

abbrev pub keyword_bytes : Keyword → List ℕ
keyword_bytes key.Auto = codes "auto"
keyword_bytes key.Break = codes "break"
keyword_bytes key.Case = codes "case"
keyword_bytes key.Char = codes "char"
keyword_bytes key.Const = codes "const"
keyword_bytes key.Continue = codes "continue"
keyword_bytes key.Default = codes "default"
keyword_bytes key.Do = codes "do"
keyword_bytes key.Double = codes "double"
keyword_bytes key.Else = codes "else"
keyword_bytes key.Enum = codes "enum"
keyword_bytes key.Extern = codes "extern"
keyword_bytes key.Float = codes "float"
keyword_bytes key.For = codes "for"
keyword_bytes key.Goto = codes "goto"
keyword_bytes key.If = codes "if"
keyword_bytes key.Int = codes "int"
keyword_bytes key.Long = codes "long"
keyword_bytes key.Register = codes "register"
keyword_bytes key.Return = codes "return"
keyword_bytes key.Short = codes "short"
keyword_bytes key.Signed = codes "signed"
keyword_bytes key.Sizeof = codes "sizeof"
keyword_bytes key.Static = codes "static"
keyword_bytes key.Struct = codes "struct"
keyword_bytes key.Switch = codes "switch"
keyword_bytes key.Typedef = codes "typedef"
keyword_bytes key.Union = codes "union"
keyword_bytes key.Unsigned = codes "unsigned"
keyword_bytes key.Void = codes "void"
keyword_bytes key.Volatile = codes "volatile"
keyword_bytes key.While = codes "while"

abbrev pub mark_bytes : Mark → List ℕ
mark_bytes mark.OpenBracket = codes "["
mark_bytes mark.CloseBracket = codes "]"
mark_bytes mark.OpenParenthesis = codes "("
mark_bytes mark.CloseParenthesis = codes ")"
mark_bytes mark.OpenBrace = codes "{"
mark_bytes mark.CloseBrace = codes "}"
mark_bytes mark.Dot = codes "."
mark_bytes mark.Arrow = codes "->"
mark_bytes mark.PlusPlus = codes "++"
mark_bytes mark.MinusMinus = codes "--"
mark_bytes mark.And = codes "&"
mark_bytes mark.Star = codes "*"
mark_bytes mark.Plus = codes "+"
mark_bytes mark.Minus = codes "-"
mark_bytes mark.Tilde = codes "~"
mark_bytes mark.Not = codes "!"
mark_bytes mark.Slash = codes "/"
mark_bytes mark.Percent = codes "%"
mark_bytes mark.ShiftLeft = codes "<<"
mark_bytes mark.ShiftRight = codes ">>"
mark_bytes mark.Less = codes "<"
mark_bytes mark.Greater = codes ">"
mark_bytes mark.LessEqual = codes "<="
mark_bytes mark.GreaterEqual = codes ">="
mark_bytes mark.EqualEqual = codes "=="
mark_bytes mark.NotEqual = codes "!="
mark_bytes mark.Caret = codes "^"
mark_bytes mark.Or = codes "|"
mark_bytes mark.AndAnd = codes "&&"
mark_bytes mark.OrOr = codes "||"
mark_bytes mark.Question = codes "?"
mark_bytes mark.Colon = codes ":"
mark_bytes mark.Semicolon = codes ";"
mark_bytes mark.Equal = codes "="
mark_bytes mark.StarEqual = codes "*="
mark_bytes mark.SlashEqual = codes "/="
mark_bytes mark.PercentEqual = codes "%="
mark_bytes mark.PlusEqual = codes "+="
mark_bytes mark.MinusEqual = codes "-="
mark_bytes mark.ShiftLeftEqual = codes "<<="
mark_bytes mark.ShiftRightEqual = codes ">>="
mark_bytes mark.AndEqual = codes "&="
mark_bytes mark.CaretEqual = codes "^="
mark_bytes mark.OrEqual = codes "|="
mark_bytes mark.Comma = codes ","

-- the words of the operators
abbrev pub prefix_word : Prefix → Word
prefix_word prefix_variant.Increase = word.Mark mark.PlusPlus
prefix_word prefix_variant.Decrease = word.Mark mark.MinusMinus
prefix_word prefix_variant.Address = word.Mark mark.And
prefix_word prefix_variant.Pointee = word.Mark mark.Star
prefix_word prefix_variant.Plus = word.Mark mark.Plus
prefix_word prefix_variant.Minus = word.Mark mark.Minus
prefix_word prefix_variant.Complement = word.Mark mark.Tilde
prefix_word prefix_variant.Not = word.Mark mark.Not
prefix_word prefix_variant.Sizeof = word.Key key.Sizeof

abbrev pub infix_mark : Infix → Mark
infix_mark infix_variant.Any = mark.OrOr
infix_mark infix_variant.All = mark.AndAnd
infix_mark infix_variant.BitOr = mark.Or
infix_mark infix_variant.BitXor = mark.Caret
infix_mark infix_variant.BitAnd = mark.And
infix_mark infix_variant.Equal = mark.EqualEqual
infix_mark infix_variant.NotEqual = mark.NotEqual
infix_mark infix_variant.Less = mark.Less
infix_mark infix_variant.Greater = mark.Greater
infix_mark infix_variant.LessEqual = mark.LessEqual
infix_mark infix_variant.GreaterEqual = mark.GreaterEqual
infix_mark infix_variant.ShiftLeft = mark.ShiftLeft
infix_mark infix_variant.ShiftRight = mark.ShiftRight
infix_mark infix_variant.Add = mark.Plus
infix_mark infix_variant.Sub = mark.Minus
infix_mark infix_variant.Mul = mark.Star
infix_mark infix_variant.Div = mark.Slash
infix_mark infix_variant.Rem = mark.Percent

abbrev pub assigning_mark : Assigning → Mark
assigning_mark assigning_variant.Plain = mark.Equal
assigning_mark assigning_variant.Mul = mark.StarEqual
assigning_mark assigning_variant.Div = mark.SlashEqual
assigning_mark assigning_variant.Rem = mark.PercentEqual
assigning_mark assigning_variant.Add = mark.PlusEqual
assigning_mark assigning_variant.Sub = mark.MinusEqual
assigning_mark assigning_variant.ShiftLeft = mark.ShiftLeftEqual
assigning_mark assigning_variant.ShiftRight = mark.ShiftRightEqual
assigning_mark assigning_variant.BitAnd = mark.AndEqual
assigning_mark assigning_variant.BitXor = mark.CaretEqual
assigning_mark assigning_variant.BitOr = mark.OrEqual

abbrev pub tag_keyword : TagSort → Keyword
tag_keyword tag_variant.Struct = key.Struct
tag_keyword tag_variant.Enum = key.Enum

-- The levels: how tightly the operators of each bind, and which operators are of it.
abbrev pub level_rank : Level → ℕ
level_rank level_variant.Any = 0
level_rank level_variant.All = 1
level_rank level_variant.BitOr = 2
level_rank level_variant.BitXor = 3
level_rank level_variant.BitAnd = 4
level_rank level_variant.Equality = 5
level_rank level_variant.Relation = 6
level_rank level_variant.Shift = 7
level_rank level_variant.Sum = 8
level_rank level_variant.Product = 9

abbrev pub infix_level : Infix → Level
infix_level infix_variant.Any = level_variant.Any
infix_level infix_variant.All = level_variant.All
infix_level infix_variant.BitOr = level_variant.BitOr
infix_level infix_variant.BitXor = level_variant.BitXor
infix_level infix_variant.BitAnd = level_variant.BitAnd
infix_level infix_variant.Equal = level_variant.Equality
infix_level infix_variant.NotEqual = level_variant.Equality
infix_level infix_variant.Less = level_variant.Relation
infix_level infix_variant.Greater = level_variant.Relation
infix_level infix_variant.LessEqual = level_variant.Relation
infix_level infix_variant.GreaterEqual = level_variant.Relation
infix_level infix_variant.ShiftLeft = level_variant.Shift
infix_level infix_variant.ShiftRight = level_variant.Shift
infix_level infix_variant.Add = level_variant.Sum
infix_level infix_variant.Sub = level_variant.Sum
infix_level infix_variant.Mul = level_variant.Product
infix_level infix_variant.Div = level_variant.Product
infix_level infix_variant.Rem = level_variant.Product
