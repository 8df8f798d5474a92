use Rattle.std.proofs.Common.{ap, ◌∙◌}
use Rattle.porch_tree.specs.Views.{base_of, core_of, declarator_of}
use Rattle.porch_parts.specs.Types.{is_lacking}
use Rattle.porch_declarations.specs.Declarations.{first_ended, opened}
use Rattle.porch_declarations.proofs.Results.{when_ok}
use Rattle.porch_declarations.proofs.entry.end_core.Goals as goal

pub returns : goal.returns
returns c =
    when_ok c.end_pair.result (λ s h text. h text
    ∙ ap (λ n. first_ended n (opened c.args.fixed (base_of text c.args.base)) (declarator_of text c.in_ok-boxed.boxed) c.args.sign) (c.is_lacking-nameless.ensures text)
    ∙ ap (λ d. first_ended (is_lacking (core_of text c.args.core)) (opened c.args.fixed (base_of text c.args.base)) d c.args.sign) (ap (declarator_of text) c.in_ok-boxed.ensures ∙ c.plain_declarator-declarator.ensures text)) c.end_pair.ensures
