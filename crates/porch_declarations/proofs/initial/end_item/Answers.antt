use Rattle.std.proofs.Common.{ap, ◌∙◌}
use Rattle.porch_tree.specs.Views.{declarator_of, declaration_of}
use Rattle.porch_declarations.specs.Declarations.{item_ended}
use Rattle.porch_declarations.specs.Shown.{braces_of}
use Rattle.porch_declarations.proofs.Results.{when_ok}
use Rattle.porch_declarations.proofs.initial.end_item.Goals as goal

pub returns : goal.returns
returns c = when_ok c.end_full.result (λ s h text. h text ∙ ap (λ b. item_ended (declaration_of text c.args.declaration) (declarator_of text c.args.declarator) (braces_of text c.args.declarer.now.braces) b c.args.sign) (c.in_ok-brace.ensures text)) c.end_full.ensures
