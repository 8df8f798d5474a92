use Rattle.std.proofs.Common.{◌≡◌, take, refl, rules}
use Rattle.std.proofs.lemmas.Result.{on_ok_weaker}
use Rattle.porch_edge.specs.Files.{file_of}
use Rattle.porch_edge.proofs.Logs.{relogged}
use Rattle.porch_edge.proofs.memory_calls.cut.Goals as goal

pub returns-clause-ok : goal.returns-clause-ok
returns-clause-ok c =
    let bytes : c.in_ok-next.next.items ≡ take c.args.len (file_of c.args.file c.args.files.now) = search rules in
    on_ok_weaker c.exchange.result (relogged bytes refl) c.exchange.ensures.ok
