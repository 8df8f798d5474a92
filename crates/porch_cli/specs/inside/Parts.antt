-- What the parts of the top call do: they read the source, compile the tree, and run the program.
use Rattle.std.specs.Prelude.{ℕ, ◌≡◌, ◌≤◌, List, [], ◌++◌, ⊤, Result, Ok, Err, IsErrOf}
use Rattle.std.specs.declared.alloc.AllocError.{AllocError}
use Rattle.std.specs.declared.option.Option.{Option}
use Rattle.std.specs.declared.option.Option.TheVariants.{Some, None}
use Rattle.porch_edge.specs.Causes.{Rose}
use Rattle.porch_edge.specs.Streams.{Grew}
use Rattle.porch_syntax.specs.Tree.{Program}
use Rattle.porch_source.specs.declared.fault.SourceFault.{SourceFault}
use Rattle.porch_source.specs.declared.fault.SourceFault.TheVariants.{Refused, Unbuilt, NoMemory}
use Rattle.porch_source.specs.Sources.{IsFirstRefusal}
use Rattle.porch_flat.specs.declared.flat.Flat.{Flat}
use Rattle.porch_machine.specs.Column.{Setting}
use Rattle.porch_machine.specs.ByteRun.{Ended, Trap, StackFull, Paused}
use Rattle.porch_cli.specs.declared.reading.ReadStop.{ReadStop}
use Rattle.porch_cli.specs.declared.reading.ReadStop.TheVariants as stop
use Rattle.porch_cli.specs.declared.naming.NamingStop.{NamingStop}
use Rattle.porch_cli.specs.declared.naming.NamingStop.TheVariants as naming
use Rattle.porch_cli.specs.declared.status.Status.{Status}
use Rattle.porch_cli.specs.declared.status.Status.TheVariants as status
use Rattle.porch_cli.specs.Answers.{HasRead, IsCompiled, RanProgram, RanProgramPartly, RanText, RanTextPartly, IsBuilt, IsLeftOut}
use Rattle.porch_cli.specs.inside.Running.{RunsFlat}

-- so much was taken from the source
abbrev pub HasTaken : Option (List ℕ) → Option (List ℕ) → List ℕ → Type 0
HasTaken None left' text = left' ≡ None
HasTaken (Some held) None text = ⊥
HasTaken (Some held) (Some rest) text = held ≡ text ++ rest

-- a source wasn't read for want of memory, or as a read failed
pub record HasReadCause (before now : ℕ) (r : Result (Unit {0}) ReadStop) : Type 0 where
  pub later : before ≤ now
  pub rose : IsErrOf r stop.ReadFault → Rose before now

-- what a run of a text gives
abbrev pub RunsText : List ℕ → Setting → ℕ → Option (List ℕ) → Option (List ℕ) → ℕ → ℕ → Status → Type 0
RunsText text on budget out out' faults faults' (status.Done value turns) = IsBuilt on × RanText text on budget out out' (Ended value) turns
RunsText text on budget out out' faults faults' (status.Trap a turns) = IsBuilt on × RanText text on budget out out' (Trap a) turns
RunsText text on budget out out' faults faults' (status.Paused turns) = IsBuilt on × RanText text on budget out out' Paused turns
RunsText text on budget out out' faults faults' (status.StackFull asked left) = IsBuilt on × ((turns : ℕ) × RanText text on budget out out' (StackFull asked left) turns)
RunsText text on budget out out' faults faults' (status.Refused r) = IsFirstRefusal text r × Grew out out' []
RunsText text on budget out out' faults faults' status.Unbuilt = IsLeftOut text on × Grew out out' []
RunsText text on budget out out' faults faults' status.WriteFault = IsBuilt on × Rose faults faults' × RanTextPartly text on budget out out'
RunsText text on budget out out' faults faults' status.NoMemory = Grew out out' []
RunsText text on budget out out' faults faults' _ = ⊥

-- the same of a tree, and of a flat program
abbrev pub RunsTree : Program → Setting → ℕ → Option (List ℕ) → Option (List ℕ) → ℕ → ℕ → Status → Type 0
RunsTree p on budget out out' faults faults' (status.Done value turns) = RanProgram p on budget out out' (Ended value) turns
RunsTree p on budget out out' faults faults' (status.Trap a turns) = RanProgram p on budget out out' (Trap a) turns
RunsTree p on budget out out' faults faults' (status.Paused turns) = RanProgram p on budget out out' Paused turns
RunsTree p on budget out out' faults faults' (status.StackFull asked left) = (turns : ℕ) × RanProgram p on budget out out' (StackFull asked left) turns
RunsTree p on budget out out' faults faults' status.WriteFault = Rose faults faults' × RanProgramPartly p on budget out out'
RunsTree p on budget out out' faults faults' status.NoMemory = Grew out out' []
RunsTree p on budget out out' faults faults' _ = ⊥

abbrev pub RunsProgram : Flat → Setting → ℕ → Option (List ℕ) → Option (List ℕ) → ℕ → ℕ → Status → Type 0
RunsProgram flat on budget out out' faults faults' status.NoMemory = Grew out out' []
RunsProgram flat on budget out out' faults faults' s = RunsFlat flat on budget out out' faults faults' s

-- what a run of a tree gives under a layout under which programs run, or not
abbrev pub RunsUnder : Program → Setting → ℕ → Option (List ℕ) → Option (List ℕ) → ℕ → ℕ → Status → Type 0
RunsUnder p on budget out out' faults faults' status.Unbuilt = (IsBuilt on → ⊥) × Grew out out' []
RunsUnder p on budget out out' faults faults' s = IsBuilt on × RunsTree p on budget out out' faults faults' s

-- what the run of a source gives, of which this text was read
abbrev pub RunsSource : Setting → ℕ → Option (List ℕ) → Option (List ℕ) → ℕ → ℕ → List ℕ → Option (List ℕ) → Option (List ℕ) → ℕ → ℕ → Status → Type 0
RunsSource on budget left left' read_faults read_faults' text out out' faults faults' status.ReadFault = Rose read_faults read_faults' × Grew out out' []
RunsSource on budget left left' read_faults read_faults' text out out' faults faults' status.NoMemory = Grew out out' []
RunsSource on budget left left' read_faults read_faults' text out out' faults faults' s = HasRead left left' text × RunsText text on budget out out' faults faults' s

abbrev pub IsCompiledFor : Program → Result Flat AllocError → Type 0
IsCompiledFor p (Ok flat) = IsCompiled p flat
IsCompiledFor p (Err e) = ⊤

abbrev pub refused_for : SourceFault → Status
refused_for (Refused r) = status.Refused r
refused_for Unbuilt = status.Unbuilt
refused_for NoMemory = status.NoMemory

abbrev pub stopped_for : ReadStop → Status
stopped_for stop.ReadFault = status.ReadFault
stopped_for stop.NoMemory = status.NoMemory

abbrev pub unnamed_for : NamingStop → Status
unnamed_for (naming.BadLayout key rule) = status.BadLayout key rule
unnamed_for naming.DiskFault = status.DiskFault
unnamed_for naming.NoMemory = status.NoMemory
