use Rattle.std.proofs.Common.{◌≡◌, ◌+◌, length, min, rules}
use Rattle.std.proofs.lemmas.Result.{on_ok_weaker}
use Rattle.porch_edge.specs.Files.{file_of, written}
use Rattle.porch_edge.specs.declared.memory_calls.Change.TheVariants.{Write}
use Rattle.porch_edge.proofs.Logs.{relogged}
use Rattle.porch_edge.proofs.memory_calls.write.Goals as goal

pub returns-clause-ok : goal.returns-clause-ok
returns-clause-ok c =
    let bytes : c.in_ok-next.next.items ≡ written (file_of c.args.file c.args.files.now) c.args.at c.args.bytes.now = search rules in
    let same : Write c.min-from.result (c.args.at + length c.args.bytes.now) ≡ Write (min c.args.at (length (file_of c.args.file c.args.files.now))) (c.args.at + length c.args.bytes.now) = search rules in
    on_ok_weaker c.exchange.result (relogged bytes same) c.exchange.ensures.ok
