use Rattle.std.proofs.Common.{◌∙◌}
use Rattle.porch_layout.proofs.FileLemmas.{all_keys}
use Rattle.porch_layout.proofs.file.has_layout_keys.Goals as goal

pub returns : goal.returns
returns c = c.is_each_key_known.ensures ∙ all_keys c.args.table.now.entries
