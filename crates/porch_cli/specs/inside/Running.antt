-- How the run of a flat program goes on, step by step.
use Rattle.std.specs.Prelude.{ℕ, suc, ◌≡◌, ◌≤◌, ◌<◌, List, [], ◌++◌, Option, Some, None}
use Rattle.porch_edge.specs.Causes.{Rose}
use Rattle.porch_edge.specs.Streams.{Grew, GrewByPrefix}
use Rattle.porch_flat.specs.declared.flat.Flat.{Flat}
use Rattle.porch_machine.specs.Column.{Bytes, Setting}
use Rattle.porch_machine.specs.ByteRun.{ByteEnd, Ended, Trap, StackFull, Paused, ByteRun, run_to, RunsTo}
use Rattle.porch_machine.specs.Steps.{left_of}
use Rattle.porch_cli.specs.declared.status.Status.{Status}
use Rattle.porch_cli.specs.declared.status.Status.TheVariants as status
use Rattle.porch_cli.specs.Answers.{run_by, RanBytes}

-- A beginning of the output of its run was written, and a write failed.
pub record RanPartly (flat : Flat) (on : Setting) (budget : ℕ) (out out' : Option (List ℕ)) (faults faults' : ℕ) : Type 0 where
  pub rose : Rose faults faults'
  pub part : (r : ByteRun) → RunsTo flat on budget r → GrewByPrefix out out' r.output

-- what a run answers
abbrev pub RunsFlat : Flat → Setting → ℕ → Option (List ℕ) → Option (List ℕ) → ℕ → ℕ → Status → Type 0
RunsFlat flat on budget out out' faults faults' (status.Done value turns) = RanBytes flat on budget out out' (Ended value) turns
RunsFlat flat on budget out out' faults faults' (status.Trap a turns) = RanBytes flat on budget out out' (Trap a) turns
RunsFlat flat on budget out out' faults faults' (status.Paused turns) = RanBytes flat on budget out out' Paused turns
RunsFlat flat on budget out out' faults faults' (status.StackFull asked left) = (turns : ℕ) × RanBytes flat on budget out out' (StackFull asked left) turns
RunsFlat flat on budget out out' faults faults' status.WriteFault = RanPartly flat on budget out out' faults faults'
RunsFlat flat on budget out out' faults faults' _ = ⊥

-- One step more: the run from there is the run from here without it.
pub record StepsOn (flat : Flat) (on : Setting) (budget : ℕ) (m m' : Bytes) (out out' : Option (List ℕ)) : Type 0 where
  pub more : List ℕ
  pub grew : Grew out out' more
  pub within : m'.turns ≤ budget
  pub nearer : left_of flat on budget m' < left_of flat on budget m
  pub goes : (k : ℕ) (shown : List ℕ) → run_to flat on budget (suc k) m shown ≡ run_to flat on budget k m' (shown ++ more)

-- The run is over here, with nothing more shown.
pub record StopsHere (flat : Flat) (on : Setting) (budget : ℕ) (m : Bytes) (out out' : Option (List ℕ)) (ending : ByteEnd) (turns : ℕ) : Type 0 where
  pub grew : Grew out out' []
  pub ends : (k : ℕ) (shown : List ℕ) → run_to flat on budget (suc k) m shown ≡ Some (run_by ending turns shown)

-- Bytes are shown here, of which a beginning was written.
pub record BreaksOff (flat : Flat) (on : Setting) (budget : ℕ) (m : Bytes) (out out' : Option (List ℕ)) (faults faults' : ℕ) : Type 0 where
  pub bytes : List ℕ
  pub next : Bytes
  pub grew : GrewByPrefix out out' bytes
  pub rose : Rose faults faults'
  pub goes : (k : ℕ) (shown : List ℕ) → run_to flat on budget (suc k) m shown ≡ run_to flat on budget k next (shown ++ bytes)

abbrev pub Advances : Flat → Setting → ℕ → Bytes → Bytes → Option (List ℕ) → Option (List ℕ) → ℕ → ℕ → Option Status → Type 0
Advances flat on budget m m' out out' faults faults' None = StepsOn flat on budget m m' out out'
Advances flat on budget m m' out out' faults faults' (Some (status.Done value turns)) = StopsHere flat on budget m out out' (Ended value) turns
Advances flat on budget m m' out out' faults faults' (Some (status.Trap a turns)) = StopsHere flat on budget m out out' (Trap a) turns
Advances flat on budget m m' out out' faults faults' (Some (status.Paused turns)) = StopsHere flat on budget m out out' Paused turns
Advances flat on budget m m' out out' faults faults' (Some (status.StackFull asked left)) = (turns : ℕ) × StopsHere flat on budget m out out' (StackFull asked left) turns
Advances flat on budget m m' out out' faults faults' (Some status.WriteFault) = BreaksOff flat on budget m out out' faults faults'
Advances flat on budget m m' out out' faults faults' (Some _) = ⊥
