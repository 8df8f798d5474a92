use Rattle.std.proofs.Common.{◌<◌, ◌≤◌, length, IfSome, ap, sym, ◌∙◌, subst, arith}
use Rattle.std.specs.Option.{option_map}
use Rattle.porch_types.specs.declared.parts.Part.{Part}
use Rattle.porch_types.specs.Rows.{row_within, moved_row}
use Rattle.porch_types.specs.Entries.{types_of}
use Rattle.porch_types.proofs.Depth.{depth_of, goes_on}
use Rattle.porch_types.proofs.Looked.{some_still}
use Rattle.porch_types.proofs.search.row_in.Goals as goal

pub down-preserved : goal.down-preserved
down-preserved c =
    let types = types_of c.args.entries.now in
    let part = c.in-Some.part in
    let begun : part.first ≤ c.down.inner = subst (λ o. IfSome o (λ (p : Part). p.first ≤ c.down.inner)) c.in-Some.is c.down.invariant.begun in
    let known : part.ty < length c.args.entries.now = subst (λ o. IfSome o (λ (p : Part). p.ty < length c.args.entries.now)) c.in-Some.is c.down.invariant.known in
    record {
      sum = omega (arith, begun, c.down.invariant.sum);
      begun = c.part_in-found.ensures.begun;
      row = c.part_in-found.ensures.row;
      known = some_still (λ (p : Part). p.ty < part.ty) (λ (p : Part). p.ty < length c.args.entries.now) c.part_in-found.result
          (λ p h. omega (arith, h, known)) c.part_in-found.ensures.earlier;
      same = c.down.invariant.same
          ∙ ap (λ o. option_map (moved_row c.down.base) (row_within (depth_of o) types o c.down.inner c.args.pointee)) c.in-Some.is
          ∙ goes_on types part c.part_in-found.result c.down.base c.down.inner c.args.pointee c.requires.kept.formed
          (sym c.is_at.ensures ∙ c.if-is_at.false) c.part_in-found.ensures.value;
    }
