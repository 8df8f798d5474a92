use Rattle.porch_reader.proofs.Alone.{grammar_fault_alone, one_unit, unit_or_fault}
use Rattle.porch_reader.proofs.laws.a_text_has_one_answer.Goals as goal

pub returns : goal.returns
returns c = record {
  unit = one_unit c.each_unit_is_built.ensures.built;
  fault = grammar_fault_alone;
  unit_or_fault = unit_or_fault c.each_unit_is_read_whole.ensures;
}
