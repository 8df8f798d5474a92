use Rattle.std.proofs.Common.{◌≤◌, ◌^◌, arith}
use Rattle.porch_syntax.specs.Tree.{program_of}
use Rattle.porch_cli.specs.Answers.{setting_of}
use Rattle.porch_cli.proofs.Reasons.{run_compiled, is_setting}
use Rattle.porch_cli.proofs.compiled.run_tree.Goals as goal

pub run_program-requires-clause-setting : goal.run_program-requires-clause-setting
run_program-requires-clause-setting g c = is_setting c.args.layout.now c.args.limits.now c.requires.built c.requires.limited

pub run_program-requires-clause-few : goal.run_program-requires-clause-few
run_program-requires-clause-few g c = let k = c.requires.limited.turns.high in omega (arith, k)

pub returns-in-Ok-clause-runs : goal.returns-in-Ok-clause-runs
returns-in-Ok-clause-runs g c =
    run_compiled (program_of c.args.tree.now) c.in-Ok.program (setting_of c.args.layout.now c.args.limits.now) c.args.limits.now.turns c.in-Ok.ensures
    (is_setting c.args.layout.now c.args.limits.now c.requires.built c.requires.limited) c.runs_agree.ensures c.runs_end.ensures
    (g.O.Sink.held c.args.out.now) (g.O.Sink.held c.run_program.new.out) (g.O.Sink.faults c.args.out.now) (g.O.Sink.faults c.run_program.new.out) c.run_program.result c.run_program.ensures.runs
