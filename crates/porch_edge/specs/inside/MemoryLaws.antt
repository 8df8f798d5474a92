-- What a disk in memory tells keeps the laws of a disk.
use Rattle.std.specs.Prelude.{ℕ, ◌≤◌, List, [], ◌∷◌, refl}
use Rattle.std.proofs.Common.{inl, inr, arith}
use Rattle.std.proofs.Math.Nat.{le_refl}
use Rattle.porch_edge.specs.declared.disk.FileName.{FileName}
use Rattle.porch_edge.specs.declared.memory_calls.Change.{Change}
use Rattle.porch_edge.specs.declared.memory_calls.Change.TheVariants.{Nothing, Synced, Write, Cut, Put}
use Rattle.porch_edge.specs.declared.memory_calls.Call.{Call}
use Rattle.porch_edge.specs.Files.{Files, file_of}
use Rattle.porch_edge.specs.Disk.{Moment, IsBy, since}
use Rattle.porch_edge.specs.Calls.{change_on, bytes_before, LeavesBy, FileLeaves, Leaves, LeftAt, memory_state}
use Rattle.porch_edge.specs.inside.Kept.{Did, FileKept, Kept, last_moment}

reads_by : (x : Change) (before now : List ℕ) (past : List ℕ → Type 0) → Did x before now → past (bytes_before x before now) → LeavesBy x now past now
reads_by Nothing before now past did here = here
reads_by Synced before now past did here = refl
reads_by (Write from to) before now past did here = (before, here, did)
reads_by (Cut len) before now past did here = (before, here, did.0)
reads_by Put before now past did here = refl

-- a file as it reads is one that a crash may leave
pub reads : (file : FileName) (now : List ℕ) (log : List Call) → FileKept file now log → FileLeaves file now log now
reads file now [] kept = refl
reads file now (call ∷ log) kept =
    reads_by (change_on file call) call.before.items now (FileLeaves file (bytes_before (change_on file call) call.before.items now) log) kept.0
    (reads file (bytes_before (change_on file call) call.before.items now) log kept.1)

pub reads_leave : (fs : Files) (log : List Call) → Kept fs log → Leaves fs log fs
reads_leave fs log kept = λ file. reads file (file_of file fs) log (kept.each file)

-- a moment from the last call on
pub left_now : (fs : Files) (log : List Call) (m : ℕ) (c : Files) → last_moment log ≤ m → Leaves fs log c → LeftAt fs log m c
left_now fs [] m c le left = left
left_now fs (call ∷ log) m c le left = inl (le, left)

pub now_left : (fs : Files) (log : List Call) (m : ℕ) (c : Files) → last_moment log ≤ m → LeftAt fs log m c → Leaves fs log c
now_left fs [] m c le left = left
now_left fs (call ∷ log) m c le (inl here) = here.1
now_left fs (call ∷ log) m c le (inr past) = absurd (omega (arith, le, past.0))

pub counts_now : (fs : Files) (log : List Call) (now : ℕ) → last_moment log ≤ now → (c : Files) → Leaves fs log c → (memory_state fs log now).at (λ _. now) c
counts_now fs log now le c left = (λ clock. refl, le_refl now, left_now fs log now c le left)

pub up_to_now : (fs : Files) (log : List Call) (now : ℕ) (m : Moment) (c : Files) → (memory_state fs log now).at m c → IsBy m (λ _. now)
up_to_now fs log now m c left = λ clock. omega (arith, left.0 clock, left.1)

pub only_now : (fs : Files) (log : List Call) (now : ℕ) → last_moment log ≤ now → (c : Files) → since (memory_state fs log now) (λ _. now) c → Leaves fs log c
only_now fs log now le c left = now_left fs log (left.0 0) c (omega (arith, le, left.1 0)) left.2.2
