use Rattle.std.proofs.Common.{◌≡◌, take, map}
use Rattle.porch_flat.specs.declared.flat.GlobalObject.{GlobalObject}
use Rattle.porch_map.proofs.objects.types_of_globals.Given as goal

abbrev pub invariant-loop-global : goal.invariant-loop-global
invariant-loop-global l = l.types.items ≡ map (λ (g : GlobalObject). g.ty) (take l.global-index l.globals)
