use Rattle.porch_declarations.proofs.Built.{Readers, built}
use Rattle.porch_declarations.proofs.laws.declarations_are_built.Goals as goal

pub returns : goal.returns
returns c =
    let readers : Readers = record {
      singles = c.single_expressions_end.ensures.ends;
      typed = c.typed_declarators_end.ensures.ends;
      bases = c.bases_end.ensures.ends;
      declared = c.declarators_end.ensures.ends;
    } in
    record { built = λ types inside d w y uses ts m. built readers types inside d w y uses ts m }
