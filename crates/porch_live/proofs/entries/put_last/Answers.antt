use Rattle.std.proofs.Common.{◌≡◌, ◌-◌, ◌+◌, ℕ, [], length, Some, slice_get, arith, refl}
use Rattle.std.proofs.lemmas.Option.{slice_get_read}
use Rattle.porch_live.specs.inside.Entries.{with_variables}
use Rattle.porch_live.proofs.Innermost.{stacked_last_set, rising_set, below_set}
use Rattle.porch_live.proofs.entries.put_last.Goals as goal

pub returns-then-len-gt0-clause-calls : goal.returns-then-len-gt0-clause-calls
returns-then-len-gt0-clause-calls c =
    let es = c.args.entries.now.items in
    let found = c.index_mut-entry.result.now in
    let k : ℕ = c.len-len.result - 1 in
    let last : k + 1 ≡ length es = omega (arith, c.len-len.ensures, c.args.entries.now.ok.0, c.if-len-gt0.true) in
    let there : slice_get es k ≡ Some found = slice_get_read es (length es) k found refl (omega (arith, last)) c.index_mut-entry.ensures.value in
    rw c.put.ensures (stacked_last_set es [] k found (with_variables found c.args.objects.items) last there refl)

pub returns-then-len-gt0-clause-rising : goal.returns-then-len-gt0-clause-rising
returns-then-len-gt0-clause-rising c = λ low rising.
    let es = c.args.entries.now.items in
    let found = c.index_mut-entry.result.now in
    let k : ℕ = c.len-len.result - 1 in
    let last : k + 1 ≡ length es = omega (arith, c.len-len.ensures, c.args.entries.now.ok.0, c.if-len-gt0.true) in
    let there : slice_get es k ≡ Some found = slice_get_read es (length es) k found refl (omega (arith, last)) c.index_mut-entry.ensures.value in
    rw c.put.ensures (rising_set low es k found (with_variables found c.args.objects.items) there refl rising)

pub returns-then-len-gt0-clause-below : goal.returns-then-len-gt0-clause-below
returns-then-len-gt0-clause-below c = λ high below.
    let es = c.args.entries.now.items in
    let found = c.index_mut-entry.result.now in
    let k : ℕ = c.len-len.result - 1 in
    let last : k + 1 ≡ length es = omega (arith, c.len-len.ensures, c.args.entries.now.ok.0, c.if-len-gt0.true) in
    let there : slice_get es k ≡ Some found = slice_get_read es (length es) k found refl (omega (arith, last)) c.index_mut-entry.ensures.value in
    rw c.put.ensures (below_set high es k found (with_variables found c.args.objects.items) there refl below)
