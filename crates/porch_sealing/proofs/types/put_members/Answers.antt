use Rattle.std.proofs.Common.{◌++◌, ◌∷◌, [], ◌+◌, map, drop, ap, ◌∙◌}
use Rattle.porch_check.specs.Shapes.{members_of}
use Rattle.porch_sealing.specs.Numbers.{last_in}
use Rattle.porch_sealing.specs.inside.Types.{member_types}
use Rattle.porch_sealing.proofs.MemberTypes.{one_more, all_there}
use Rattle.porch_sealing.proofs.types.put_members.Goals as goal

pub returns-in-None : goal.returns-in-None
returns-in-None c =
    all_there (last_in c.args.numbers.now) (member_types (members_of c.args.shapes.now c.args.number)) c.loop-place.members.items _ c.loop-place.place
    c.in-None.ensures c.loop-place.invariant

pub loop-place-preserved : goal.loop-place-preserved
loop-place-preserved c =
    let xs = member_types (members_of c.args.shapes.now c.args.number) in
    ap (λ is. is ++ map (last_in c.args.numbers.now) (drop (c.loop-place.place + 1) xs))
    (c.in_ok-push-in-Some.ensures.items ∙ ap (λ n. c.loop-place.members.items ++ n ∷ []) c.find.ensures)
    ∙ one_more (last_in c.args.numbers.now) xs c.loop-place.members.items _ c.loop-place.place c.in-Some.ty c.in-Some.ensures c.loop-place.invariant
