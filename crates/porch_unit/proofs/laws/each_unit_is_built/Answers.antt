use Rattle.porch_unit.proofs.Statements.{Readers}
use Rattle.porch_unit.proofs.Items.{unit_built}
use Rattle.porch_unit.proofs.laws.each_unit_is_built.Goals as goal

pub returns : goal.returns
returns c =
    let readers : Readers = record {
      wholes = c.whole_expressions_end.ensures.ends;
      singles = c.single_expressions_end.ensures.ends;
      bases = c.bases_start.ensures.start;
      plains = c.plains_start.ensures.start;
      declarations = c.declarations_pass.ensures.pass;
      heads = c.heads_pass.ensures.pass;
    } in
    record { built = λ ts u d. unit_built readers ts u d }
