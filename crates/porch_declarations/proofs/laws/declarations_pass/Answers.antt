use Rattle.porch_declarations.proofs.Built.{Readers, declarations_pass}
use Rattle.porch_declarations.proofs.laws.declarations_pass.Goals as goal

pub returns : goal.returns
returns c =
    let readers : Readers = record {
      singles = c.single_expressions_end.ensures.ends;
      typed = c.typed_declarators_end.ensures.ends;
      bases = c.bases_end.ensures.ends;
      declared = c.declarators_end.ensures.ends;
    } in
    record { pass = declarations_pass readers }
