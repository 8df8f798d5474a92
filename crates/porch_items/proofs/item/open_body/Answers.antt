use Rattle.std.proofs.Common.{[], ◌∷◌, map, ap, ◌∙◌}
use Rattle.porch_tree.specs.Views.{declarator_of, declaration_of, stmt_of}
use Rattle.porch_unit.specs.Units.{state, in_body, at_first}
use Rattle.porch_statements.specs.Shown.{items_of, frames_of}
use Rattle.porch_items.proofs.item.open_body.Goals as goal

pub returns : goal.returns
returns c = λ text. ap (λ fs. state (items_of text c.args.builder.now.items) fs at_first) (c.in_ok-push_frame.ensures.pushed text
    ∙ ap (λ ds. in_body (declaration_of text c.args.declaration) (declarator_of text c.args.declarator) (map (declaration_of text) ds) (map (stmt_of text) c.new-body.result) ∷ (frames_of text c.args.builder.now.frames)) c.new-declarations.ensures
    ∙ ap (λ ss. in_body (declaration_of text c.args.declaration) (declarator_of text c.args.declarator) [] (map (stmt_of text) ss) ∷ (frames_of text c.args.builder.now.frames)) c.new-body.ensures)
