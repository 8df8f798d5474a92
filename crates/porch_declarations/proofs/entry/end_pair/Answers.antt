use Rattle.std.proofs.Common.{ap, ◌∙◌}
use Rattle.porch_tree.specs.Views.{declarator_of}
use Rattle.porch_declarations.specs.Declarations.{first_ended}
use Rattle.porch_declarations.proofs.Results.{when_ok}
use Rattle.porch_declarations.proofs.entry.end_pair.Goals as goal

pub returns : goal.returns
returns c = when_ok c.end_first.result (λ s h text. h text ∙ ap (λ x. first_ended c.args.nameless x (declarator_of text c.args.declarator) c.args.sign) (c.in_ok-declaration.ensures text)) c.end_first.ensures
