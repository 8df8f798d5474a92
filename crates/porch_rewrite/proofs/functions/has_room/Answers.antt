use Rattle.std.proofs.Common.{◌≡◌, ◌↔◌, sym, subst, IsTrue, Bool, arith}
use Rattle.std.specs.List.{list_all}
use Rattle.std.proofs.lemmas.Grind.{common_steps}
use Rattle.porch_flat.specs.declared.whole.Function.{Function}
use Rattle.porch_rewrite.specs.Laws.{HasRoom, HasFew}
use Rattle.porch_rewrite.specs.inside.Room.{leaves_room}
use Rattle.porch_rewrite.proofs.Room.{room_is}
use Rattle.porch_rewrite.proofs.functions.has_room.Goals as goal

pub returns : goal.returns
returns c =
    let same : c.all_leave_room.result ≡ list_all (λ (f : Function). leaves_room f.commands) c.args.flat.now.functions = grind (arith, common_steps, c.all_leave_room.ensures, c.as_slice.ensures) in
    subst (λ (b : Bool). IsTrue b ↔ (HasRoom c.args.flat.now × HasFew c.args.flat.now)) (sym same) (room_is c.args.flat.now)
