use Rattle.std.proofs.Common.{ap, sym, ◌∙◌}
use Rattle.porch_tree.specs.Views.{stmt_of}
use Rattle.porch_unit.specs.Units.{Closed, ended_all}
use Rattle.porch_statements.specs.Shown.{frames_of}
use Rattle.porch_blocks.proofs.Stacks.{ends_none, ends_one}
use Rattle.porch_blocks.proofs.ended.end_frames.Goals as goal

pub frames-preserved : goal.frames-preserved
frames-preserved c = λ text. c.frames.invariant text
    ∙ ends_one c.args.is_else (frames_of text c.frames.frames) (stmt_of text c.frames.statement) (sym (c.ends_innermost.ensures.ends text) ∙ c.frames-test.true)
    ∙ ap (λ (z : Closed). ended_all c.args.is_else z.frames z.value) (c.in_ok-statement.ensures.ended text)

pub returns : goal.returns
returns c = λ text. c.frames.invariant text
    ∙ ends_none c.args.is_else (frames_of text c.frames.frames) (stmt_of text c.frames.statement) (sym (c.ends_innermost.ensures.ends text) ∙ c.frames-test.false)
