use Rattle.std.proofs.Common.{sym, ap, ◌∙◌}
use Rattle.porch_check.specs.Shapes.{array}
use Rattle.porch_shape.specs.Views.{as_shape}
use Rattle.porch_scopes.specs.declared.row.Row as code_row
use Rattle.porch_scopes.specs.inside.Rows.{rows_of}
use Rattle.porch_scopes.proofs.Kept.{function_added, small_added}
use Rattle.porch_scopes.proofs.shapes.Shapes.array.Goals as goal

pub invariant_of-self-2 : goal.invariant_of-self-2
invariant_of-self-2 c =
    let rows = c.self.inside.rows.items in (
      function_added rows c.has_room.new.rows.items c.put.new.rows.items c.new.result c.self.inside.numbers c.add_array.new.self
          (array c.args.of c.args.count) c.in_ok-number.number
          (ap (λ (r : code_row.Row). as_shape r.shape) c.new.ensures)
          c.in_ok-number.ensures.number
          (sym (c.array.ensures (rows_of rows) c.self.invariant.0) ∙ c.in-None.is)
          c.in_ok-add_array.ensures.added
          c.self.invariant.0 c.in_ok-number.ensures.rows c.put.ensures.rows,
      c.self.invariant.1,
      small_added rows c.has_room.new.rows.items c.put.new.rows.items c.new.result c.self.invariant.2
          (ap (λ (r : code_row.Row). r.members.list) c.new.ensures)
          c.in_ok-number.ensures.rows c.put.ensures.rows,
    )
