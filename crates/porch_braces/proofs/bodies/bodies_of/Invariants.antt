-- The names so far, with those of what is left, are those of all.
use Rattle.std.proofs.Common.{◌≡◌, ◌++◌, map, drop}
use Rattle.porch_tree.specs.Views.{item_of}
use Rattle.porch_check.specs.Units.{bodies_of}
use Rattle.porch_braces.proofs.bodies.bodies_of.Given as goal

abbrev pub invariant-loop-item : goal.invariant-loop-item
invariant-loop-item l =
    l.bodies ++ bodies_of (map (item_of l.text) (drop l.item-index l.tree.items)) ≡ bodies_of (map (item_of l.text) l.tree.items)
