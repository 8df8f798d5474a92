use Rattle.std.proofs.Common.{sym, subst, ◌∙◌}
use Rattle.porch_syntax.specs.Tree.{program_of}
use Rattle.porch_flat.specs.Valid.{IsValid}
use Rattle.porch_lower.specs.Lowered.{MeansTheSame, IsLowered}
use Rattle.porch_lower.proofs.Few.{lowered}
use Rattle.porch_lower.proofs.Fine.{valid, only_memory}
use Rattle.porch_lower.proofs.Same.{means_the_same}
use Rattle.porch_lower.proofs.program.lower.Goals as goal

pub no_memory-requires : goal.no_memory-requires
no_memory-requires c =
    only_memory c.in_ok-flat.flat c.in-Err.fault (subst IsValid (sym c.in_ok-flat.ensures) (valid (program_of c.args.tree.now) c.requires)) c.in-Err.ensures.refused

pub returns-in-Ok-clause-meaning : goal.returns-in-Ok-clause-meaning
returns-in-Ok-clause-meaning c = subst (λ flat. MeansTheSame (program_of c.args.tree.now) flat) (sym (c.in-Ok.ensures.same ∙ c.in_ok-flat.ensures)) (means_the_same c.silent_steps_tell_nothing.ensures (program_of c.args.tree.now) c.requires)

pub returns-in-Ok-clause-lowered : goal.returns-in-Ok-clause-lowered
returns-in-Ok-clause-lowered c = subst (λ flat. IsLowered (program_of c.args.tree.now) flat) (sym (c.in-Ok.ensures.same ∙ c.in_ok-flat.ensures)) (lowered (program_of c.args.tree.now))
