use Rattle.porch_sound.proofs.Changes.{keeps}
use Rattle.porch_sound.proofs.laws.operations_keep_types.Goals as goal

pub returns : goal.returns
returns c = λ types widths made s are typed.
    let lawful : Rattle.porch_sound.proofs.Lawful.AreLawful types =
    record {
      are = are;
      together = λ number ty e. c.leaves_add_up.ensures.together types number ty are e;
      some = λ number known. c.leaves_add_up.ensures.some types number are known;
      scalar = λ root leaf known. c.leaves_are_scalars.ensures.scalar types root leaf are known;
      only = λ root count leaf ty known sub scalar. c.leaves_are_scalars.ensures.only types root count leaf ty are known sub scalar;
      subobjects = λ root count place ty leaf sub less. c.leaves_are_scalars.ensures.subobjects types root count place ty leaf are sub less;
      inside = λ root count place ty sub. c.rows_lie_inside.ensures.subobjects types root count place ty are sub;
      nest = λ root count place ty inner pointee sub deep. c.subobjects_nest.ensures.subobjects types root count place ty inner pointee are sub deep;
      known = λ root count place ty known sub. c.rows_lie_inside.ensures.known types root count place ty are known sub;
      found = λ root count place pointee row known e. (c.rows_are_found.ensures.some types root count place pointee row are known).0 e;
    } in
    keeps types widths made lawful s typed
