use Rattle.std.proofs.Common.{◌≤◌, ◌∙◌, sym, subst, arith}
use Rattle.porch_heap.specs.inside.Searching.{Head}
use Rattle.porch_heap.proofs.Chunked.{read_blocks}
use Rattle.porch_heap.proofs.Linking.{begun_set, begun_same, begun_past}
use Rattle.porch_heap.proofs.edits.begin_at.Goals as goal
use Rattle.porch_heap.proofs.edits.begin_at.Goals.{else-number-chunks-via-then-number-chunks+else-from, else-number-chunks-via-else-number-chunks}

pub begin_at-requires-clause-low : goal.begin_at-requires-clause-low
begin_at-requires-clause-low c =
    let here = read_blocks c.args.chunks.now c.args.number c.index-chunks-number-then-from.result (omega arith) in
    subst (Head (λ b. c.args.from ≤ b.at)) (sym here) c.requires.low

pub returns-then-from : goal.returns-then-from
returns-then-from c = begun_set c.args.chunks.now c.args.number c.args.from c.index-chunks-number-then-from.result c.begin_at.new.self (omega arith) c.begin_at.ensures

pub returns-else-number-chunks : goal.returns-else-number-chunks
returns-else-number-chunks c =
    elim c.else-number-chunks.branch [
      | else-number-chunks-via-then-number-chunks+else-from w ↦ begun_same c.args.chunks.now c.args.number c.args.from w.index-chunks-number.result (sym w.if-from.false ∙ w.from.ensures)
      | else-number-chunks-via-else-number-chunks w ↦ begun_past c.args.chunks.now c.args.number c.args.from (omega arith)
    ]
