-- The tags that what is left puts behind those so far are those of all.
use Rattle.std.proofs.Common.{◌≡◌, map, drop}
use Rattle.porch_tree.specs.Views.{param_of, params_of}
use Rattle.porch_braces.specs.inside.Puts.{put_params}
use Rattle.porch_braces.proofs.tags.put_params.Given as goal

abbrev pub invariant-loop-p : goal.invariant-loop-p
invariant-loop-p l =
    put_params (params_of (map (param_of l.text) (drop l.p-index l.params))) l.tags
    ≡ put_params (params_of (map (param_of l.text) l.params)) l.initial.tags
