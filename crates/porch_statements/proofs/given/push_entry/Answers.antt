use Rattle.std.proofs.Common.{[], ◌∷◌, ◌++◌, map, ap, ◌∙◌}
use Rattle.porch_tree.specs.Views.{switch_entry_of}
use Rattle.porch_statements.proofs.Stacks.{when_ok, map_more}
use Rattle.porch_statements.proofs.given.push_entry.Goals as goal

pub returns : goal.returns
returns c =
    when_ok c.push.result (λ x e text. ap (map (switch_entry_of text)) e ∙ map_more (switch_entry_of text) c.args.entries.now _
    ∙ ap (λ y. map (switch_entry_of text) c.args.entries.now ++ y ∷ []) (c.entry_of.ensures text)) c.push.ensures.ok
