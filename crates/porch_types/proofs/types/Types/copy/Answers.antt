use Rattle.std.proofs.Common.{◌∙◌, ap, sym}
use Rattle.porch_types.specs.inside.Kept.{contents}
use Rattle.porch_types.proofs.Copying.{kept_alike, same_types}
use Rattle.porch_types.proofs.types.Types.copy.Goals as goal

pub invariant_of-result : goal.invariant_of-result
invariant_of-result c =
    kept_alike c.self.inside.entries.items c.in_ok-entries.entries.items
    (sym (c.in_ok-entries.ensures ∙ ap contents c.deref.ensures.value)) c.self.invariant

pub returns : goal.returns
returns c =
    same_types c.in_ok-entries.entries.items c.self.inside.entries.items (c.in_ok-entries.ensures ∙ ap contents c.deref.ensures.value) ∙ c.self.view_is
