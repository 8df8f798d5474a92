use Rattle.porch_lex.specs.Words.{spelled}
use Rattle.porch_reader.proofs.Answering.{OneAnswer, only_for, fault_for}
use Rattle.porch_reader.proofs.reading.parse.Goals as goal

pub returns : goal.returns
returns c =
    let text = c.args.text.now in
    let ts = c.args.tokens.now in
    let law = c.a_text_has_one_answer.ensures in
    let one : OneAnswer text ts = record { unit = law.unit (spelled text ts); fault = law.fault text ts; unit_or_fault = law.unit_or_fault text ts } in
    record {
      read = c.read.ensures.read;
      refused = c.read.ensures.refused;
      only = only_for text ts one c.read.result c.read.ensures.read c.read.ensures.refused;
      fault = fault_for text ts one c.read.result c.read.ensures.read c.read.ensures.refused;
    }
