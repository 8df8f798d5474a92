use Rattle.std.proofs.Common.{[], ◌∷◌, ◌++◌, map, ap, ◌∙◌}
use Rattle.porch_tree.specs.Views.{declaration_of, stmt_of}
use Rattle.porch_unit.specs.Units.{in_block}
use Rattle.porch_statements.specs.Shown.{frames_of}
use Rattle.porch_blocks.proofs.Stacks.{when_both, map_more}
use Rattle.porch_blocks.proofs.declared.add_in_block.Goals as goal

pub returns : goal.returns
returns c =
    when_both c.push_filled.result c.push-filled.result c.push_filled.ensures.filled c.push-filled.ensures.ok c.push_filled.ensures.pushed (λ x e h text. h text
    ∙ ap (λ ds. in_block c.args.at ds (map (stmt_of text) c.args.body) ∷ (frames_of text c.args.frames.now)) (ap (map (declaration_of text)) e ∙ map_more (declaration_of text) c.args.declarations c.into_inner.result
    ∙ ap (λ d. map (declaration_of text) c.args.declarations ++ declaration_of text d ∷ []) c.into_inner.ensures))
