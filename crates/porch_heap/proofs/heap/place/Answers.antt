use Rattle.std.proofs.Common.{inl, arith}
use Rattle.porch_heap.specs.declared.hint.Hint.{Hint}
use Rattle.porch_heap.specs.inside.Searching.{state}
use Rattle.porch_heap.specs.Chunks.{blocks_of}
use Rattle.porch_heap.proofs.HeapKept.{start_keeps, hinted_keeps, none_for, none_before}
use Rattle.porch_heap.proofs.heap.place.Goals as goal

pub first_place-requires-clause-none : goal.first_place-requires-clause-none
first_place-requires-clause-none c at below g =
    let d : Hint = record { bytes = 0; align = 0; low = 0 } in
    let number = c.class_of-class.ensures.number in
    let s = start_keeps c.args.live.now.base c.args.size (blocks_of c.args.live.now.chunks) c.args.hints.now c.class_of-class.result.bytes c.class_of-class.result.align c.class_of-class.result.number d c.requires.keeps c.class_of-class.ensures.align (omega arith) in
    s.none at (rw (c.start_of-from.ensures, c.base.ensures) at below) g

pub first_place-requires-in-Some-clause-none : goal.first_place-requires-in-Some-clause-none
first_place-requires-in-Some-clause-none c at below g =
    none_before (state c.args.live.now.base c.args.size (blocks_of c.args.live.now.chunks)) c.args.bytes c.class_of-class.result.bytes c.args.align c.class_of-class.result.align c.in-Some.first.at c.requires.align c.class_of-class.ensures.align c.class_of-class.ensures.bytes c.class_of-class.ensures.below c.in-Some.ensures.first at below (rw c.first_place.ensures.same at g)

pub returns-in-None-clause-full : goal.returns-in-None-clause-full
returns-in-None-clause-full c =
    inl (none_for (state c.args.live.now.base c.args.size (blocks_of c.args.live.now.chunks)) c.args.bytes c.class_of-class.result.bytes c.args.align c.class_of-class.result.align c.requires.align c.class_of-class.ensures.align c.class_of-class.ensures.bytes c.class_of-class.ensures.below c.in-None.ensures.full)

pub returns-then-class-align-clause-keeps : goal.returns-then-class-align-clause-keeps
returns-then-class-align-clause-keeps c =
    hinted_keeps c.args.live.now.base c.args.size (blocks_of c.args.live.now.chunks) c.args.hints.now c.class_of-class.result.number c.class_of-class.result.bytes c.class_of-class.result.align c.in-Some.first.at c.requires.keeps c.class_of-class.ensures.align c.in-Some.ensures.first

pub returns-else-class-bytes-clause-keeps : goal.returns-else-class-bytes-clause-keeps
returns-else-class-bytes-clause-keeps c =
    hinted_keeps c.args.live.now.base c.args.size (blocks_of c.args.live.now.chunks) c.args.hints.now c.class_of-class.result.number c.class_of-class.result.bytes c.class_of-class.result.align c.in-Some.first.at c.requires.keeps c.class_of-class.ensures.align c.in-Some.ensures.first
