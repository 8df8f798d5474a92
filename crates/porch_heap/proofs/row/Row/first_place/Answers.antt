use Rattle.std.proofs.Common.{◌≡◌, ◌≤◌, ◌+◌, ◌<◌, drop, length, ℕ, ◌∙◌}
use Rattle.std.specs.Prelude.{IfSome, IfNone}
use Rattle.std.proofs.lemmas.List.{with_items_is}
use Rattle.porch_heap.specs.Blocks.{Each, IsHeap, IsGap}
use Rattle.porch_heap.specs.inside.Searching.{EndsBefore, state}
use Rattle.porch_heap.specs.Chunks.{blocks_of}
use Rattle.porch_heap.specs.inside.ChunkRow.{NoRoom, HasNoRoom, IsFound, IsBehind, after, blocks_at, rank}
use Rattle.porch_heap.specs.inside.Seats.{blocks_before}
use Rattle.porch_heap.proofs.Ranks.{blocks_split_at}
use Rattle.porch_heap.proofs.Places.{found_gap, found_divides, hint_room, last_first, last_number, last_none}
use Rattle.porch_heap.proofs.row.Row.first_place.Goals as goal

pub first_seat-found-requires-clause-index : goal.first_seat-found-requires-clause-index
first_seat-found-requires-clause-index c = rw (c.as_mut_slice.ensures.value, ← c.as_slice.ensures.value) c.seat_behind-start.ensures.index

pub first_seat-found-requires-clause-none : goal.first_seat-found-requires-clause-none
first_seat-found-requires-clause-none c =
    let cs = c.self.inside.chunks.items in
    let start = c.seat_behind-start.result in
    let index : start.index ≤ length (blocks_at cs start.chunk) = rw c.as_slice.ensures.value at c.seat_behind-start.ensures.index in
    let parts = blocks_split_at cs start.chunk start.index index in
    let heap : IsHeap (state c.self.inside.base c.args.size (blocks_of cs)) = rw (← c.self.view_is) at c.requires.heap in
    let none : (at : ℕ) → at < c.args.from → IsGap (state c.self.inside.base c.args.size (blocks_of cs)) c.args.bytes c.args.align at → ⊥ = rw (← c.self.view_is) at c.requires.none in
    let before : Each (EndsBefore c.args.from) (blocks_before cs start) = rw c.as_slice.ensures.value at c.seat_behind-start.ensures.before in
    rw c.as_mut_slice.ensures.value
    (hint_room c.self.inside.base c.args.size c.args.from c.args.bytes c.args.align (blocks_before cs start) (drop (rank cs start.chunk start.index) (blocks_of cs)) (rw parts at heap) before (rw parts at none))

pub returns-in-Some-clause-first : goal.returns-in-Some-clause-first
returns-in-Some-clause-first c =
    let cs = c.self.inside.chunks.items in
    let heap : IsHeap (state c.self.inside.base c.args.size (blocks_of cs)) = rw (← c.self.view_is) at c.requires.heap in
    let found : IsFound (blocks_of cs) c.self.inside.base c.args.bytes c.args.align (rank cs c.in-Some.seat.chunk c.in-Some.seat.index) c.in-Some.at = rw c.as_mut_slice.ensures.value at c.in-Some.ensures.found in
    rw (← c.self.view_is) (found_gap c.self.inside.base c.args.size (blocks_of cs) c.args.bytes c.args.align _ c.in-Some.at heap found)

pub returns-in-Some-clause-index : goal.returns-in-Some-clause-index
returns-in-Some-clause-index c =
    let cs = c.self.inside.chunks.items in
    let heap : IsHeap (state c.self.inside.base c.args.size (blocks_of cs)) = rw (← c.self.view_is) at c.requires.heap in
    let found : IsFound (blocks_of cs) c.self.inside.base c.args.bytes c.args.align (rank cs c.in-Some.seat.chunk c.in-Some.seat.index) c.in-Some.at = rw c.as_mut_slice.ensures.value at c.in-Some.ensures.found in
    rw (← c.self.view_is) (found_divides c.self.inside.base c.args.size (blocks_of cs) c.args.bytes c.args.align _ c.in-Some.at heap found)

pub returns-clause-first : goal.returns-clause-first
returns-clause-first c =
    let cs = c.self.inside.chunks.items in
    let heap : IsHeap (state c.self.inside.base c.args.size (blocks_of cs)) = rw (← c.self.view_is) at c.requires.heap in
    let end : c.behind_all.result ≡ after c.self.inside.base (blocks_of cs) = rw (c.as_slice-2.ensures.value, with_items_is c.self.inside.chunks c.first_seat-found.new.chunks (c.first_seat-found.auto.chunks ∙ c.as_mut_slice.ensures.len), c.first_seat-found.ensures.same, c.as_mut_slice.ensures.value) at c.behind_all.ensures.behind in
    let none : NoRoom c.args.align c.args.bytes c.self.inside.base (blocks_of cs) = rw c.as_mut_slice.ensures.value at c.in_default.ensures.none in
    let place : IfSome c.behind.result (λ p. IsBehind (after c.self.inside.base (blocks_of cs)) (c.self.inside.base + c.args.size) c.args.bytes c.args.align p.at) = rw end at c.behind.ensures.place in
    rw (← c.self.view_is) (last_first c.self.inside.base c.args.size (blocks_of cs) c.args.bytes c.args.align c.behind.result heap none place)

pub returns-clause-index : goal.returns-clause-index
returns-clause-index c =
    let cs = c.self.inside.chunks.items in
    let heap : IsHeap (state c.self.inside.base c.args.size (blocks_of cs)) = rw (← c.self.view_is) at c.requires.heap in
    let end : c.behind_all.result ≡ after c.self.inside.base (blocks_of cs) = rw (c.as_slice-2.ensures.value, with_items_is c.self.inside.chunks c.first_seat-found.new.chunks (c.first_seat-found.auto.chunks ∙ c.as_mut_slice.ensures.len), c.first_seat-found.ensures.same, c.as_mut_slice.ensures.value) at c.behind_all.ensures.behind in
    let place : IfSome c.behind.result (λ p. IsBehind (after c.self.inside.base (blocks_of cs)) (c.self.inside.base + c.args.size) c.args.bytes c.args.align p.at) = rw end at c.behind.ensures.place in
    rw (← c.self.view_is) (last_number c.self.inside.base c.args.size cs c.args.bytes c.args.align c.behind.result heap place c.behind.ensures.last)

pub returns-clause-full : goal.returns-clause-full
returns-clause-full c =
    let cs = c.self.inside.chunks.items in
    let heap : IsHeap (state c.self.inside.base c.args.size (blocks_of cs)) = rw (← c.self.view_is) at c.requires.heap in
    let end : c.behind_all.result ≡ after c.self.inside.base (blocks_of cs) = rw (c.as_slice-2.ensures.value, with_items_is c.self.inside.chunks c.first_seat-found.new.chunks (c.first_seat-found.auto.chunks ∙ c.as_mut_slice.ensures.len), c.first_seat-found.ensures.same, c.as_mut_slice.ensures.value) at c.behind_all.ensures.behind in
    let none : NoRoom c.args.align c.args.bytes c.self.inside.base (blocks_of cs) = rw c.as_mut_slice.ensures.value at c.in_default.ensures.none in
    let full : IfNone c.behind.result (HasNoRoom c.args.align c.args.bytes (after c.self.inside.base (blocks_of cs)) (c.self.inside.base + c.args.size)) = rw end at c.behind.ensures.full in
    rw (← c.self.view_is) (last_none c.self.inside.base c.args.size (blocks_of cs) c.args.bytes c.args.align c.behind.result none full)
