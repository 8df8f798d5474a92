use Rattle.std.proofs.Common.{◌≡◌, rules}
use Rattle.porch_values.specs.Integers.{applied}
use Rattle.porch_values.proofs.Valid.{applied_valid}
use Rattle.porch_values.proofs.results.apply.Goals as goal

pub returns-clause-valid : goal.returns-clause-valid
returns-clause-valid c =
    let value : c.computed.result ≡ applied c.args.op c.args.kind c.args.widths c.args.a c.args.b = search (rules, c.computed.ensures) in
    rw value (applied_valid c.args.op c.args.kind c.args.widths c.args.a c.args.b)
