use Rattle.std.proofs.Common.{rules}
use Rattle.porch_tree.specs.Worked.{empty_unit, brace_tokens}
use Rattle.porch_tree.proofs.worked.a_small_unit_is_one.Goals as goal

pub returns-clause-outside : goal.returns-clause-outside
returns-clause-outside c = record {
  unit = empty_unit;
  begins = record { rest = brace_tokens; unit = search rules };
  outside = search rules;
}
