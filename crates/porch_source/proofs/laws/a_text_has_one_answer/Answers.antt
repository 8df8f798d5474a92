use Rattle.porch_source.proofs.Alone.{Alone, one_program, one_fault, program_or_fault, program_or_unbuilt, unbuilt_or_fault}
use Rattle.porch_source.proofs.laws.a_text_has_one_answer.Goals as goal

pub returns : goal.returns
returns c =
    let alone : Alone = record {
      tokens = c.a_text_is_read_in_one_way.ensures.tokens;
      fault = c.a_text_is_read_in_one_way.ensures.fault;
      either = c.a_text_is_read_in_one_way.ensures.either;
      program = c.a_text_is_one_program.ensures;
    } in
    record {
      program = λ text. one_program alone text;
      fault = λ text. one_fault alone text;
      program_or_fault = λ text. program_or_fault alone text;
      program_or_unbuilt = λ text. program_or_unbuilt alone text;
      unbuilt_or_fault = λ text. unbuilt_or_fault alone text;
    }
