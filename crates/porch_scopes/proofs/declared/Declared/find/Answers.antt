use Rattle.std.proofs.Common.{sym, ap, ◌∙◌}
use Rattle.porch_check.specs.Scopes.{of_name}
use Rattle.porch_scopes.proofs.DeclaredByName.{declared_is}
use Rattle.porch_scopes.proofs.declared.Declared.find.Goals as goal

pub returns : goal.returns
returns c =
    c.copied.ensures ∙ c.get.ensures.value ∙ sym (declared_is c.args.name.now c.self.inside.types.entries)
    ∙ ap (of_name c.args.name.now) c.self.view_is
