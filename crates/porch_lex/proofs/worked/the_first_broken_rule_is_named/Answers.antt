use Rattle.std.proofs.Common.{inr, true, false, refl, lit≤}
use Rattle.porch_tree.specs.declared.word.Mark.TheVariants.{Semicolon}
use Rattle.porch_tree.specs.declared.word.Keyword.TheVariants.{Int}
use Rattle.porch_lex.specs.declared.refusal.Rule.TheVariants.{Byte, Word}
use Rattle.porch_lex.specs.declared.token.TokenKind.TheVariants.{Name, Keyword, Mark}
use Rattle.porch_lex.specs.Tokens.{broken, after_gap, after_token}
use Rattle.porch_lex.proofs.worked.the_first_broken_rule_is_named.Goals as goal

pub returns-clause-word : goal.returns-clause-word
returns-clause-word c = inr (lit≤ tt, after_token (Keyword Int) 3 refl (after_gap 1 false refl (broken Word refl)))

pub returns-clause-byte : goal.returns-clause-byte
returns-clause-byte c =
    inr (
      lit≤ tt,
      after_token Name 1 refl
          (after_token (Mark Semicolon) 1 refl (after_gap 1 true refl (after_gap 4 false refl (broken Byte refl)))),
    )
