use Rattle.std.proofs.Common.{ap}
use Rattle.porch_shape.specs.Views.{as_shape}
use Rattle.porch_scopes.specs.declared.row.Row as code_row
use Rattle.porch_scopes.proofs.Kept.{structure_added, small_added}
use Rattle.porch_scopes.proofs.shapes.Shapes.structure.Goals as goal

pub invariant_of-self-2 : goal.invariant_of-self-2
invariant_of-self-2 c = (
  structure_added c.self.inside.rows.items c.has_room.new.rows.items c.put.new.rows.items _ c.self.inside.numbers c.in_ok-number.number
      (ap (λ (r : code_row.Row). as_shape r.shape) c.new-row.ensures)
      c.self.invariant.0 c.in_ok-number.ensures.rows c.put.ensures.rows,
  c.self.invariant.1,
  small_added c.self.inside.rows.items c.has_room.new.rows.items c.put.new.rows.items _ c.self.invariant.2
      (ap (λ (r : code_row.Row). r.members.list) c.new-row.ensures)
      c.in_ok-number.ensures.rows c.put.ensures.rows,
)
