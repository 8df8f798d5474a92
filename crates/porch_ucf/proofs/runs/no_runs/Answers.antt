use Rattle.std.proofs.Common.{◌≡◌, length, ap, ◌∙◌, arith}
use Rattle.porch_ucf.proofs.FoundRuns.{none_found}
use Rattle.porch_ucf.proofs.runs.no_runs.Goals as goal

pub returns : goal.returns
returns c = λ sought.
    let types = c.args.metrics.now.types in
    let len : c.len-len.result ≡ length types = c.len-len.ensures.length ∙ ap (λ ts. length ts) c.types.ensures in
    none_found sought types c.loop.found.items c.loop.invariant.none (omega (arith, c.loop.invariant.all, c.loop-test.false, c.loop.auto, len))
