use Rattle.std.proofs.Common.{rules, subst}
use Rattle.std.specs.List.{fold, flat_map}
use Rattle.porch_ucf.specs.declared.image.FrameRow.{FrameRow}
use Rattle.porch_ucf.specs.Objects.{single, frame_objects, put_behind}
use Rattle.porch_ucf.specs.inside.Placing.{IsFull}
use Rattle.porch_ucf.proofs.Walks.{full_at}
use Rattle.porch_ucf.proofs.placing.Placing.put_frames.Goals as goal

pub returns-in_err-put_variables-clause-full : goal.returns-in_err-put_variables-clause-full
returns-in_err-put_variables-clause-full c =
    let types = c.args.metrics.now.types in
    let q = c.loop-frame.self in
    let none : FrameRow = record { function = 0; call = 0 } in
    let here = subst (λ tys. IsFull c.args.most (fold (put_behind types) q (flat_map single tys)).end c.in_err-put_variables.field-0.0) c.variables_of-variables.ensures c.in_err-put_variables.ensures.full in
    let found = full_at types (frame_objects c.args.program.now) c.args.frames.now c.args.self.now c.loop-frame.frame-index none q c.args.most _ c.loop-frame-test.true c.loop-frame.invariant.walked here in
    search (rules, found)
