use Rattle.std.proofs.Common.{ap, ◌∙◌}
use Rattle.std.specs.List.{list_any}
use Rattle.std.specs.Str.{bytes_eq}
use Rattle.porch_scopes.proofs.completes.Completes.contains.Goals as goal

pub returns : goal.returns
returns c =
    c.contains.ensures ∙ c.self.invariant.same c.args.tag.now ∙ ap (list_any (λ y. bytes_eq c.args.tag.now y)) c.self.view_is
