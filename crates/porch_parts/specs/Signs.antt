-- What words are in a type.
use Rattle.porch_tree.specs.declared.word.Keyword.{Keyword}
use Rattle.porch_tree.specs.declared.word.Keyword.TheVariants as key
use Rattle.porch_tree.specs.declared.word.Mark.{Mark}
use Rattle.porch_tree.specs.declared.word.Mark.TheVariants as mark
use Rattle.porch_tree.specs.declared.word.Word.{Word}
use Rattle.porch_tree.specs.declared.word.Word.TheVariants as word
use Rattle.porch_tree.specs.declared.tree.TagSort.TheVariants as tag_sort
use Rattle.porch_parts.specs.declared.sign.Sign.{Sign}
use Rattle.porch_parts.specs.declared.sign.Sign.TheVariants as sign

abbrev pub key_sign : Keyword → Sign
key_sign key.Const = sign.Const
key_sign key.Char = sign.Kind key.Char
key_sign key.Short = sign.Kind key.Short
key_sign key.Int = sign.Kind key.Int
key_sign key.Long = sign.Kind key.Long
key_sign key.Signed = sign.Kind key.Signed
key_sign key.Unsigned = sign.Kind key.Unsigned
key_sign key.Void = sign.Void
key_sign key.Struct = sign.Tag tag_sort.Struct
key_sign key.Enum = sign.Tag tag_sort.Enum
key_sign k = sign.Other

abbrev pub mark_sign : Mark → Sign
mark_sign mark.Star = sign.Star
mark_sign mark.OpenParenthesis = sign.Open
mark_sign mark.CloseParenthesis = sign.Close
mark_sign mark.OpenBracket = sign.OpenBracket
mark_sign mark.CloseBracket = sign.CloseBracket
mark_sign mark.OpenBrace = sign.OpenBrace
mark_sign mark.CloseBrace = sign.CloseBrace
mark_sign mark.Comma = sign.Comma
mark_sign mark.Semicolon = sign.Semicolon
mark_sign mark.Equal = sign.Equal
mark_sign m = sign.Other

abbrev pub sign_of : Word → Sign
sign_of word.Name = sign.Name
sign_of (word.Key k) = key_sign k
sign_of (word.Mark m) = mark_sign m
sign_of w = sign.Other
