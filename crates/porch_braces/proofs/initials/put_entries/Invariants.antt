-- The tags that what is left puts behind those so far are those of all.
use Rattle.std.proofs.Common.{◌≡◌, map, drop}
use Rattle.porch_tree.specs.Views.{entry_of}
use Rattle.porch_braces.specs.inside.Puts.{put_entries}
use Rattle.porch_braces.proofs.initials.put_entries.Given as goal

abbrev pub invariant-loop-entry : goal.invariant-loop-entry
invariant-loop-entry l =
    put_entries (map (entry_of l.text) (drop l.entry-index l.entries)) l.tags
    ≡ put_entries (map (entry_of l.text) l.entries) l.initial.tags
