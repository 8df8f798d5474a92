use Rattle.std.proofs.Common.{true, false, refl, lit≤}
use Rattle.porch_tree.specs.declared.word.Mark.TheVariants.{PlusPlus, Plus}
use Rattle.porch_lex.specs.declared.token.TokenKind.TheVariants.{Name, Mark}
use Rattle.porch_lex.specs.Tokens.{done, gap, token}
use Rattle.porch_lex.proofs.worked.a_small_text_has_these_tokens.Goals as goal

pub returns : goal.returns
returns c = (
  lit≤ tt,
  gap 18 false refl
      (gap 1 true refl (token Name 1 refl (token (Mark PlusPlus) 2 refl (token (Mark Plus) 1 refl (token Name 1 refl (done refl)))))),
)
