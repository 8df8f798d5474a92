use Rattle.std.proofs.Common.{sym, ◌∙◌}
use Rattle.porch_lex.proofs.Within.{found, character_within}
use Rattle.porch_lex.proofs.literal.character_constant_length.Goals as goal

pub constant_end-requires : goal.constant_end-requires
constant_end-requires c = (found _ _ _ (sym c.in-Some.is ∙ c.character_length.ensures) (character_within 39 c.args.text.now)).1
