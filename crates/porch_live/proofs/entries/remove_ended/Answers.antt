use Rattle.std.proofs.Common.{rules}
use Rattle.std.proofs.lemmas.List.Elements.{filter_from_retain}
use Rattle.porch_live.specs.inside.Entries.{is_live}
use Rattle.porch_live.proofs.entries.remove_ended.Goals as goal

pub returns : goal.returns
returns c = filter_from_retain _ is_live (λ p x b q h. search rules) _ _ _ c.retain.ensures.filtered
