-- The tags that what is left puts behind those so far are those of all.
use Rattle.std.proofs.Common.{◌≡◌, map, drop}
use Rattle.porch_tree.specs.Views.{initial_of, initials_of}
use Rattle.porch_braces.specs.inside.Puts.{put_initials}
use Rattle.porch_braces.proofs.initials.+put_initial.Given as goal

abbrev pub invariant-put_initials-loop-part : goal.invariant-put_initials-loop-part
invariant-put_initials-loop-part l =
    put_initials (initials_of (map (initial_of l.text) (drop l.part-index l.initials))) l.tags
    ≡ put_initials (initials_of (map (initial_of l.text) l.initials)) l.initial.tags
