use Rattle.std.proofs.Common.{arith}
use Rattle.porch_ucf.proofs.FoundRuns.{found_more, put_there, was_there}
use Rattle.porch_ucf.proofs.runs.find_runs.Goals as goal

pub returns-in_ok-runs-clause-found : goal.returns-in_ok-runs-clause-found
returns-in_ok-runs-clause-found c =
    found_more c.args.sought c.args.metrics.now.types c.args.found.now.items c.args.ty c.in_ok-runs.runs c.requires.found c.in_ok-runs.ensures

pub returns-in_ok-runs-clause-here : goal.returns-in_ok-runs-clause-here
returns-in_ok-runs-clause-here c =
    put_there c.args.found.now.items c.args.ty c.in_ok-runs.runs (omega (arith, c.requires.known, c.requires.found.all))

pub returns-else-is_none-clause-here : goal.returns-else-is_none-clause-here
returns-else-is_none-clause-here c =
    was_there c.args.found.now.items c.args.ty c.index.result.now (omega (arith, c.requires.known, c.requires.found.all)) c.index.ensures c.if-is_none.ensures
