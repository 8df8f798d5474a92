use Rattle.porch_sealing.proofs.MemberTypes.{struct_type}
use Rattle.porch_sealing.proofs.types.type_in.Goals as goal

pub returns-in_ok-last_members-in-Structure : goal.returns-in_ok-last_members-in-Structure
returns-in_ok-last_members-in-Structure c =
    struct_type c.args.numbers.now c.args.shapes.now c.args.shape.now _ c.args.number _ c.in-Structure.is c.in_ok-last_members-in-Structure.ensures
