use Rattle.std.proofs.Common.{sym, ◌∙◌, rules}
use Rattle.porch_lex.proofs.Within.{found, string_within}
use Rattle.porch_lex.proofs.literal.string_lexeme.Goals as goal

pub overflow_add-result : goal.overflow_add-result
overflow_add-result c =
    let few = (found _ _ _ (sym c.in-Some.is ∙ c.string_length.ensures) (string_within c.args.text.now)).1 in
    search (rules, few)
