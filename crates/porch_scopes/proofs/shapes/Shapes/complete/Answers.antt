use Rattle.std.proofs.Common.{◌++◌, ◌∷◌, [], refl, ap, ◌∙◌, slice_set, Some, false}
use Rattle.porch_check.specs.Shapes.{Shapes, shape_of, structure}
use Rattle.porch_scopes.proofs.Kept.{structure_set, rows_set, small_completed}
use Rattle.porch_scopes.proofs.SmallMembers.{within_wider}
use Rattle.porch_types.specs.Leaves.{MOST_LEAVES}
use Rattle.porch_scopes.proofs.shapes.Shapes.complete.Goals as goal

pub invariant_of-self-2 : goal.invariant_of-self-2
invariant_of-self-2 c = (
  structure_set c.self.inside.rows.items c.set.new.rows.items _ c.self.inside.numbers c.args.number (structure c.args.number)
      (ap (λ (s : Shapes). shape_of s c.args.number) c.self.view_is ∙ c.requires.structure) refl
      c.self.invariant.0 c.set.ensures,
  c.self.invariant.1,
  small_completed c.self.inside.rows.items c.set.new.rows.items _ c.args.number c.self.invariant.2
      (within_wider c.args.members.list c.args.members.leaves MOST_LEAVES c.leaves-leaves.ensures.within c.requires.small)
      c.set.ensures,
)

pub returns-clause-completed : goal.returns-clause-completed
returns-clause-completed c = λ i. record {
  rows =
      (rows_set c.self.inside.rows.items c.set.new.rows.items _ c.args.number c.set.ensures
      ∙ (λ j. slice_set (c.self.view_is j).rows c.args.number
      (record { shape = structure c.args.number; leaves = Some (c.leaves-leaves.ensures.value j); members = c.args.members.list; awaited = false }))) i;
  complete = (c.in_ok-push.ensures.items ∙ ap (λ (s : Shapes). s.complete ++ c.args.number ∷ []) c.self.view_is) i;
}
