use Rattle.porch_source.proofs.Answering.{OneAnswer, only_for, fault_for, built_for}
use Rattle.porch_source.proofs.source.read_program.Goals as goal

pub returns : goal.returns
returns c =
    let text = c.args.text.now in
    let law = c.a_text_has_one_answer.ensures in
    let one : OneAnswer text = record {
      program = law.program text;
      fault = law.fault text;
      program_or_fault = law.program_or_fault text;
      program_or_unbuilt = law.program_or_unbuilt text;
      unbuilt_or_fault = law.unbuilt_or_fault text;
    } in
    record {
      read = c.read.ensures.read;
      refused = c.read.ensures.refused;
      only = only_for text one c.read.result c.read.ensures.read c.read.ensures.refused;
      fault = fault_for text one c.read.result c.read.ensures.read c.read.ensures.refused;
      unbuilt = built_for text one c.read.result c.read.ensures.read c.read.ensures.refused;
    }
