use Rattle.std.proofs.Common.{◌+◌, ◌-◌, ◌/◌, ◌%◌, is_some, ap, ◌∙◌}
use Rattle.porch_types.specs.Rows.{row_at}
use Rattle.porch_types.specs.Entries.{types_of}
use Rattle.porch_types.proofs.Shifted.{shifted}
use Rattle.porch_types.proofs.search.shares_end.Goals as goal

pub returns : goal.returns
returns c =
    let types = types_of c.args.entries.now in
    let l = c.leaves_at-leaves.result in
    c.is_some.ensures ∙ ap is_some c.row_in.ensures
    ∙ ap (λ x. is_some (row_at types c.args.root (c.args.count - c.args.place / l) (c.args.place % l + x) c.args.pointee)) c.leaves_at.ensures.value
    ∙ shifted types c.args.root c.args.count c.args.place _ c.args.pointee l c.leaves_at-leaves.ensures.value c.leaves_at-leaves.ensures.some c.if-element-count.false
