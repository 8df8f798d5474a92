use Rattle.std.proofs.Common.{ap, ◌∙◌}
use Rattle.porch_live.specs.inside.Entries.{blocks_of, is_live}
use Rattle.porch_live.proofs.Ended.{ended_without, rising_end, below_end, live_blocks, rising_filter, below_filter}
use Rattle.porch_live.proofs.entries.end_block.Goals as goal

pub returns-then-freed-len-clause-blocks : goal.returns-then-freed-len-clause-blocks
returns-then-freed-len-clause-blocks c =
    let es = c.args.entries.now.items in
    ap (λ xs. blocks_of xs) c.remove_ended.ensures ∙ live_blocks c.end.new.entries.items
    ∙ ap (λ xs. blocks_of xs) c.end.ensures ∙ ended_without 0 es c.args.number c.requires

pub returns-then-freed-len-clause-rising : goal.returns-then-freed-len-clause-rising
returns-then-freed-len-clause-rising c =
    rw (c.remove_ended.ensures, c.end.ensures) (rising_filter is_live 0 _ (rising_end 0 c.args.entries.now.items c.args.number c.requires))

pub returns-then-freed-len-clause-below : goal.returns-then-freed-len-clause-below
returns-then-freed-len-clause-below c = λ high below.
    rw (c.remove_ended.ensures, c.end.ensures) (below_filter is_live high _ (below_end high c.args.entries.now.items c.args.number below))

pub returns-clause-blocks : goal.returns-clause-blocks
returns-clause-blocks c =
    ap (λ xs. blocks_of xs) c.end.ensures ∙ ended_without 0 c.args.entries.now.items c.args.number c.requires

pub returns-clause-rising : goal.returns-clause-rising
returns-clause-rising c = rw c.end.ensures (rising_end 0 c.args.entries.now.items c.args.number c.requires)

pub returns-clause-below : goal.returns-clause-below
returns-clause-below c = λ high below. rw c.end.ensures (below_end high c.args.entries.now.items c.args.number below)
