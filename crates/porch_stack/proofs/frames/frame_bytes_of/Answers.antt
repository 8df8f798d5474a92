use Rattle.std.proofs.Common.{List, ◌≡◌, subst, slice_get, Some}
use Rattle.porch_load.specs.declared.body.Body.{Body}
use Rattle.porch_stack.proofs.InFrame.{size_of}
use Rattle.porch_stack.proofs.frames.frame_bytes_of.Goals as goal

pub returns : goal.returns
returns c =
    size_of c.args.loaded.now c.requires.loaded c.args.function c.body_at.result.now
    (subst (λ (xs : List Body). slice_get xs c.args.function ≡ Some c.body_at.result.now) c.deref.ensures.value c.body_at.ensures)
