-- What words are where an operand begins, and behind one.
use Rattle.porch_tree.specs.declared.word.Keyword.{Keyword}
use Rattle.porch_tree.specs.declared.word.Keyword.TheVariants as key
use Rattle.porch_tree.specs.declared.word.Mark.{Mark}
use Rattle.porch_tree.specs.declared.word.Mark.TheVariants as mark
use Rattle.porch_tree.specs.declared.word.Word.{Word}
use Rattle.porch_tree.specs.declared.word.Word.TheVariants as word
use Rattle.porch_tree.specs.declared.tree.Prefix.TheVariants as prefix
use Rattle.porch_tree.specs.declared.tree.Infix.TheVariants as infix_variant
use Rattle.porch_tree.specs.declared.tree.Assigning.TheVariants as assigning
use Rattle.porch_parse.specs.declared.part.Part.{Part}
use Rattle.porch_parse.specs.declared.part.Part.TheVariants as part
use Rattle.porch_parse.specs.declared.part.Start.{Start}
use Rattle.porch_parse.specs.declared.part.Start.TheVariants as start

abbrev pub mark_part : Mark → Part
mark_part mark.OrOr = part.Infix infix_variant.Any
mark_part mark.AndAnd = part.Infix infix_variant.All
mark_part mark.Or = part.Infix infix_variant.BitOr
mark_part mark.Caret = part.Infix infix_variant.BitXor
mark_part mark.And = part.Infix infix_variant.BitAnd
mark_part mark.EqualEqual = part.Infix infix_variant.Equal
mark_part mark.NotEqual = part.Infix infix_variant.NotEqual
mark_part mark.Less = part.Infix infix_variant.Less
mark_part mark.Greater = part.Infix infix_variant.Greater
mark_part mark.LessEqual = part.Infix infix_variant.LessEqual
mark_part mark.GreaterEqual = part.Infix infix_variant.GreaterEqual
mark_part mark.ShiftLeft = part.Infix infix_variant.ShiftLeft
mark_part mark.ShiftRight = part.Infix infix_variant.ShiftRight
mark_part mark.Plus = part.Infix infix_variant.Add
mark_part mark.Minus = part.Infix infix_variant.Sub
mark_part mark.Star = part.Infix infix_variant.Mul
mark_part mark.Slash = part.Infix infix_variant.Div
mark_part mark.Percent = part.Infix infix_variant.Rem
mark_part mark.Equal = part.Assigning assigning.Plain
mark_part mark.StarEqual = part.Assigning assigning.Mul
mark_part mark.SlashEqual = part.Assigning assigning.Div
mark_part mark.PercentEqual = part.Assigning assigning.Rem
mark_part mark.PlusEqual = part.Assigning assigning.Add
mark_part mark.MinusEqual = part.Assigning assigning.Sub
mark_part mark.ShiftLeftEqual = part.Assigning assigning.ShiftLeft
mark_part mark.ShiftRightEqual = part.Assigning assigning.ShiftRight
mark_part mark.AndEqual = part.Assigning assigning.BitAnd
mark_part mark.CaretEqual = part.Assigning assigning.BitXor
mark_part mark.OrEqual = part.Assigning assigning.BitOr
mark_part mark.Question = part.Question
mark_part mark.Colon = part.Colon
mark_part mark.Comma = part.Comma
mark_part mark.OpenParenthesis = part.Open
mark_part mark.CloseParenthesis = part.Close
mark_part mark.OpenBracket = part.OpenBracket
mark_part mark.CloseBracket = part.CloseBracket
mark_part mark.Dot = part.Dot
mark_part mark.Arrow = part.Arrow
mark_part mark.PlusPlus = part.Increase
mark_part mark.MinusMinus = part.Decrease
mark_part mark.Semicolon = part.End
mark_part mark.CloseBrace = part.End
mark_part m = part.Other

abbrev pub part_of : Word → Part
part_of word.Text = part.Text
part_of (word.Mark m) = mark_part m
part_of w = part.Other

abbrev pub mark_start : Mark → Start
mark_start mark.PlusPlus = start.Prefix prefix.Increase
mark_start mark.MinusMinus = start.Prefix prefix.Decrease
mark_start mark.And = start.Prefix prefix.Address
mark_start mark.Star = start.Prefix prefix.Pointee
mark_start mark.Plus = start.Prefix prefix.Plus
mark_start mark.Minus = start.Prefix prefix.Minus
mark_start mark.Tilde = start.Prefix prefix.Complement
mark_start mark.Not = start.Prefix prefix.Not
mark_start mark.OpenParenthesis = start.Open
mark_start mark.CloseParenthesis = start.Close
mark_start m = start.Other

abbrev pub key_start : Keyword → Start
key_start key.Sizeof = start.Prefix prefix.Sizeof
key_start k = start.Other

abbrev pub start_of : Word → Start
start_of word.Name = start.Name
start_of word.Whole = start.Whole
start_of word.Character = start.Character
start_of word.Text = start.Text
start_of (word.Key k) = key_start k
start_of (word.Mark m) = mark_start m
