use Rattle.std.proofs.Common.{refl}
use Rattle.porch_flat.specs.whole.Lines.{function_line}
use Rattle.porch_flat.specs.whole.Rules.{in_line}
use Rattle.porch_flat.specs.whole.Worked.{saving_main}
use Rattle.porch_flat.proofs.worked.a_saving_program_is_not_plain.Goals as goal

pub returns : goal.returns
returns c = in_line (function_line 0 saving_main) refl refl
