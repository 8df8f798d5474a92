use Rattle.std.proofs.Common.{◌≤◌, [], ◌∷◌, length}
use Rattle.porch_gate.specs.Gates.{WholeOrClosed}
use Rattle.porch_gate.proofs.Bytes.{opening, not_yet}
use Rattle.porch_edge.specs.Runs.{run_sync, run_touches}
use Rattle.porch_gate.proofs.Moments.{first_write}
use Rattle.porch_gate.proofs.calls.open_gate.Goals as goal

pub returns-in_err-write_at-clause-moments : goal.returns-in_err-write_at-clause-moments
returns-in_err-write_at-clause-moments g c =
    let Q = WholeOrClosed c.args.gate in
    let s0 = g.D.Disk.state c.args.disk.now in
    let s1 = g.D.Disk.state c.write_at.new.self in
    let wrote = first_write s0 c.args.file c.requires.settled (g.met.D.Disk.only_now c.args.disk.now) Q (λ old. c.args.gate.least ≤ length old) c.requires.long (λ old some. not_yet c.args.gate old)
    s1 0 (c.args.gate.letter ∷ []) c.write_at.result Q (λ old x m. m) (λ now old y long some w. opening c.args.gate now old y w) c.write_at.ensures.step in
    run_touches s0 s1 c.args.file Q Q (λ old x m. m) wrote

pub returns-clause-moments : goal.returns-clause-moments
returns-clause-moments g c =
    let Q = WholeOrClosed c.args.gate in
    let s0 = g.D.Disk.state c.args.disk.now in
    let s1 = g.D.Disk.state c.write_at.new.self in
    let wrote = first_write s0 c.args.file c.requires.settled (g.met.D.Disk.only_now c.args.disk.now) Q (λ old. c.args.gate.least ≤ length old) c.requires.long (λ old some. not_yet c.args.gate old)
    s1 0 (c.args.gate.letter ∷ []) c.write_at.result Q (λ old x m. m) (λ now old y long some w. opening c.args.gate now old y w) c.write_at.ensures.step in
    let s2 = g.D.Disk.state c.sync.new.self in
    let synced = run_sync s0 s1 s2 c.args.file c.sync.result Q Q (λ old x m. m) wrote c.sync.ensures.step in
    run_touches s0 s2 c.args.file Q Q (λ old x m. m) synced
