use Rattle.std.proofs.Common.{◌≡◌, take}
use Rattle.porch_types.specs.inside.Kept.{contents}
use Rattle.porch_types.proofs.entries.copy_entries.Given as goal

abbrev pub invariant-loop-entry : goal.invariant-loop-entry
invariant-loop-entry l = contents l.copies.items ≡ take l.entry-index (contents l.entries)
