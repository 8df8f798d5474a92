use Rattle.std.proofs.Common.{◌∙◌}
use Rattle.porch_parts.proofs.Keys.{known}
use Rattle.porch_parts.proofs.types.names_type.Goals as goal

pub returns : goal.returns
returns c = c.contains.ensures ∙ known c.args.bytes.now c.args.types.now.keys
