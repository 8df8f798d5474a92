-- The tags that what is left puts behind those so far are those of all.
use Rattle.std.proofs.Common.{◌≡◌, map, drop}
use Rattle.porch_tree.specs.Views.{item_of}
use Rattle.porch_braces.specs.inside.Puts.{put_unit}
use Rattle.porch_braces.proofs.units.put_items.Given as goal

abbrev pub invariant-loop-item : goal.invariant-loop-item
invariant-loop-item l =
    put_unit (map (item_of l.text) (drop l.item-index l.items)) l.tags ≡ put_unit (map (item_of l.text) l.items) l.initial.tags
