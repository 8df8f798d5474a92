use Rattle.std.proofs.Common.{◌≡◌, ◌-◌, ◌+◌, ℕ, [], length, Some, slice_get, arith, refl, sym, ap, ◌∙◌}
use Rattle.std.proofs.lemmas.Option.{slice_get_read}
use Rattle.porch_live.specs.inside.Entries.{with_variables}
use Rattle.porch_live.proofs.Innermost.{variables_first, stacked_last_set, rising_set, below_set}
use Rattle.porch_live.proofs.entries.take_last.Goals as goal

pub returns-then-len-gt0-clause-objects : goal.returns-then-len-gt0-clause-objects
returns-then-len-gt0-clause-objects c =
    let es = c.args.entries.now.items in
    let found = c.index_mut-entry.result.now in
    let k : ℕ = c.len-len.result - 1 in
    let last : k + 1 ≡ length es = omega (arith, c.len-len.ensures, c.args.entries.now.ok.0, c.if-len-gt0.true) in
    let there : slice_get es k ≡ Some found = slice_get_read es (length es) k found refl (omega (arith, last)) c.index_mut-entry.ensures.value in
    ap (λ vs. Some vs) c.take.ensures.objects ∙ sym (variables_first es [] k found last there)

pub returns-then-len-gt0-clause-calls : goal.returns-then-len-gt0-clause-calls
returns-then-len-gt0-clause-calls c =
    let es = c.args.entries.now.items in
    let found = c.index_mut-entry.result.now in
    let k : ℕ = c.len-len.result - 1 in
    let last : k + 1 ≡ length es = omega (arith, c.len-len.ensures, c.args.entries.now.ok.0, c.if-len-gt0.true) in
    let there : slice_get es k ≡ Some found = slice_get_read es (length es) k found refl (omega (arith, last)) c.index_mut-entry.ensures.value in
    rw c.take.ensures.rest (stacked_last_set es [] k found (with_variables found []) last there refl)

pub returns-then-len-gt0-clause-rising : goal.returns-then-len-gt0-clause-rising
returns-then-len-gt0-clause-rising c = λ low rising.
    let es = c.args.entries.now.items in
    let found = c.index_mut-entry.result.now in
    let k : ℕ = c.len-len.result - 1 in
    let last : k + 1 ≡ length es = omega (arith, c.len-len.ensures, c.args.entries.now.ok.0, c.if-len-gt0.true) in
    let there : slice_get es k ≡ Some found = slice_get_read es (length es) k found refl (omega (arith, last)) c.index_mut-entry.ensures.value in
    rw c.take.ensures.rest (rising_set low es k found (with_variables found []) there refl rising)

pub returns-then-len-gt0-clause-below : goal.returns-then-len-gt0-clause-below
returns-then-len-gt0-clause-below c = λ high below.
    let es = c.args.entries.now.items in
    let found = c.index_mut-entry.result.now in
    let k : ℕ = c.len-len.result - 1 in
    let last : k + 1 ≡ length es = omega (arith, c.len-len.ensures, c.args.entries.now.ok.0, c.if-len-gt0.true) in
    let there : slice_get es k ≡ Some found = slice_get_read es (length es) k found refl (omega (arith, last)) c.index_mut-entry.ensures.value in
    rw c.take.ensures.rest (below_set high es k found (with_variables found []) there refl below)
