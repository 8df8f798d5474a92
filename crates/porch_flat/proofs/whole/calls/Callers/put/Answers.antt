use Rattle.std.proofs.Common.{◌<◌, ◌≡◌, ◌++◌, ◌∷◌, [], length, get_or, arith, ap, ◌∙◌}
use Rattle.std.proofs.lemmas.Grind.{common_steps}
use Rattle.porch_flat.specs.inside.CallGraph.{with_caller}
use Rattle.porch_flat.proofs.CallGraph.{put_lists}
use Rattle.porch_flat.proofs.whole.calls.Callers.put.Goals as goal

pub returns-in_ok-push : goal.returns-in_ok-push
returns-in_ok-push c =
    let inside : c.args.g < length c.self.inside.lists.items = grind (arith, common_steps, c.if-g-len.true, c.len.ensures) in
    let pushed : c.push.new.self.items ≡ (get_or c.self.inside.lists.items c.args.g c.index_mut.result.now).items ++ c.args.f ∷ [] =
    grind (arith, common_steps, c.in_ok-push.ensures.items, c.index_mut.ensures.value) in
    put_lists (λ fs. fs.items) c.self.inside.lists.items c.args.g c.args.f c.push.new.self c.index_mut.result.now inside pushed
    ∙ ap (λ x. with_caller c.args.f c.args.g x) c.self.view_is
