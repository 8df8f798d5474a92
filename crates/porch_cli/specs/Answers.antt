-- What each answer of the top call says.
use Rattle.std.specs.Prelude.{ℕ, ◌≡◌, ◌≤◌, ◌^◌, ◌⊎◌, List, [], ◌++◌, length, Result, Ok, Err}
use Rattle.std.specs.declared.option.Option.{Option}
use Rattle.std.specs.declared.option.Option.TheVariants.{Some, None}
use Rattle.porch_edge.specs.Causes.{Rose}
use Rattle.porch_edge.specs.Disk.{DiskState}
use Rattle.porch_edge.specs.Files.{Files}
use Rattle.porch_edge.specs.Streams.{Grew, GrewByPrefix}
use Rattle.porch_session.specs.declared.limits.Limits.{Limits}
use Rattle.porch_lex.specs.declared.refusal.Refusal.{Refusal}
use Rattle.porch_syntax.specs.Tree.{Program}
use Rattle.porch_source.specs.Sources.{IsSourceOf, IsFirstRefusal, IsUnbuilt}
use Rattle.porch_types.specs.Leaves.{kind_types}
use Rattle.porch_values.specs.declared.acts.Act.{Act}
use Rattle.porch_objects.specs.Meaning as meaning
use Rattle.porch_objects.specs.Meaning.{Meaning, without_input}
use Rattle.porch_meaning.specs.Mean.{mean}
use Rattle.porch_flat.specs.declared.flat.Flat.{Flat}
use Rattle.porch_flat.specs.Valid.{IsValid}
use Rattle.porch_lower.specs.Lowered.{IsLowered, MeansTheSame}
use Rattle.porch_layout.specs.declared.layout.Layout.{Layout}
use Rattle.porch_layout.specs.declared.fault.LayoutKey.{LayoutKey}
use Rattle.porch_layout.specs.declared.fault.LayoutRule.{LayoutRule}
use Rattle.porch_layout.specs.declared.fault.LayoutFault.{LayoutFault}
use Rattle.porch_layout.specs.declared.fault.LayoutFault.TheVariants.{BadLayout}
use Rattle.porch_layout.specs.Layouts.{le64, IsLayout}
use Rattle.porch_machine.specs.Column.{Setting, widths_of}
use Rattle.porch_machine.specs.ByteRun.{ByteEnd, Ended, Trap, StackFull, Paused, ByteRun, RunsTo}
use Rattle.porch_machine.specs.Laws.{EndAgrees}
use Rattle.porch_cli.specs.declared.status.Status.{Status}
use Rattle.porch_cli.specs.declared.status.Status.TheVariants as status
use Rattle.porch_cli.specs.Words.{RunOrder, IsExec}
use Rattle.porch_cli.specs.Layouts.{layout_told, IsAsTold}
use Rattle.porch_cli.specs.Lines.{line_of}

-- what a run is on: a layout, and a stack and a heap of so many bytes
abbrev pub setting_of : Layout → Limits → Setting
setting_of layout limits = record { layout = layout; stack = limits.stack; heap = limits.heap }

-- Programs run under the layout le64 alone so far.
abbrev pub IsBuilt : Setting → Type 0
IsBuilt on = on.layout ≡ le64

-- The words order a run on this and for at most so many turns, under the layout that their name stands for.
pub record Orders (words : List (List ℕ)) (files : Option Files) (on : Setting) (budget : ℕ) : Type 0 where
  pub order : RunOrder
  pub ordered : IsExec words order
  pub layout : IsAsTold (layout_told files order.layout) (Ok on.layout)
  pub allowed : IsLayout on.layout
  pub on_is : on ≡ setting_of on.layout order.limits
  pub budget_is : budget ≡ order.limits.turns

-- They order a run.
pub record OrdersRun (words : List (List ℕ)) (files : Option Files) : Type 0 where
  pub on : Setting
  pub budget : ℕ
  pub orders : Orders words files on budget

-- the meaning of a program that takes no input, for the width of long in a layout
abbrev pub meaning_on : Setting → Program → ℕ → Meaning
meaning_on on p turns = mean kind_types p (without_input (widths_of on.layout)) turns

-- This much of the source was read: to its end, or past 1,048,576 bytes.
abbrev pub HasRead : Option (List ℕ) → Option (List ℕ) → List ℕ → Type 0
HasRead None left' text = left' ≡ None
HasRead (Some held) None text = ⊥
HasRead (Some held) (Some rest) text = (held ≡ text ++ rest) × (length text ≤ 2 ^ 20 → rest ≡ [])

-- The text is the source of that one program.
pub record IsProgram (text : List ℕ) (p : Program) : Type 0 where
  pub is : IsSourceOf text p
  pub only : (q : Program) → IsSourceOf text q → q ≡ p

-- The flat program of a tree: it is valid, has the tree's variables, and means what the tree means.
pub record IsCompiled (p : Program) (flat : Flat) : Type 0 where
  pub valid : IsValid flat
  pub lowered : IsLowered p flat
  pub same : MeansTheSame p flat

-- a run by its end, its turns and its output
abbrev pub run_by : ByteEnd → ℕ → List ℕ → ByteRun
run_by ending turns output = record { ending = ending; turns = turns; output = output }

-- The flat program was run to this end, and its output was written.
pub record RanBytes (flat : Flat) (on : Setting) (budget : ℕ) (out out' : Option (List ℕ)) (ending : ByteEnd) (turns : ℕ) : Type 0 where
  pub output : List ℕ
  pub run : RunsTo flat on budget (run_by ending turns output)
  pub grew : Grew out out' output

-- A program was compiled and run over bytes to this end within a budget, and all of its output was written. Unless the
-- program's meaning meets an undefined act by then, end, turns and output are the meaning's.
pub record RanProgram (program : Program) (on : Setting) (budget : ℕ) (out out' : Option (List ℕ)) (ending : ByteEnd) (turns : ℕ) : Type 0 where
  pub flat : Flat
  pub compiled : IsCompiled program flat
  pub ran : RanBytes flat on budget out out' ending turns
  pub agrees : EndAgrees (meaning_on on program budget) (run_by ending turns ran.output) ending

-- The text is a program, which was run so.
pub record RanText (text : List ℕ) (on : Setting) (budget : ℕ) (out out' : Option (List ℕ)) (ending : ByteEnd) (turns : ℕ) : Type 0 where
  pub program : Program
  pub source : IsProgram text program
  pub ran : RanProgram program on budget out out' ending turns

-- The words order a run, and the program was run so.
pub record Ran (words : List (List ℕ)) (files : Option Files) (text : List ℕ) (out out' : Option (List ℕ)) (ending : ByteEnd) (turns : ℕ) : Type 0 where
  pub on : Setting
  pub budget : ℕ
  pub ordered : Orders words files on budget
  pub built : IsBuilt on
  pub ran : RanText text on budget out out' ending turns

-- A program was compiled, and a beginning of the output of its run was written.
pub record RanProgramPartly (program : Program) (on : Setting) (budget : ℕ) (out out' : Option (List ℕ)) : Type 0 where
  pub flat : Flat
  pub compiled : IsCompiled program flat
  pub run : ByteRun
  pub runs : RunsTo flat on budget run
  pub grew : GrewByPrefix out out' run.output
  pub agrees : EndAgrees (meaning_on on program budget) run run.ending

pub record RanTextPartly (text : List ℕ) (on : Setting) (budget : ℕ) (out out' : Option (List ℕ)) : Type 0 where
  pub program : Program
  pub source : IsProgram text program
  pub ran : RanProgramPartly program on budget out out'

-- They do, and a beginning of the program's output was written.
pub record RanInto (words : List (List ℕ)) (files : Option Files) (text : List ℕ) (out out' : Option (List ℕ)) : Type 0 where
  pub on : Setting
  pub budget : ℕ
  pub ordered : Orders words files on budget
  pub built : IsBuilt on
  pub ran : RanTextPartly text on budget out out'

-- What a call changed: the source and out, and how often each and the disk failed. The disk's files stay.
pub record Changes : Type 0 where
  pub left : Option (List ℕ)
  pub left' : Option (List ℕ)
  pub read_faults : ℕ
  pub read_faults' : ℕ
  pub files : Option Files
  pub disk_faults : ℕ
  pub disk_faults' : ℕ
  pub held : Option (List ℕ)
  pub held' : Option (List ℕ)
  pub write_faults : ℕ
  pub write_faults' : ℕ

-- the same, from what the source, the disk and the sink tell, and how often they failed
abbrev pub changes : {A B : Type 0} {C : Type 0} → (A → Option (List ℕ)) → (A → ℕ) → A → A → (C → DiskState) → (C → ℕ) → C → C → (B → Option (List ℕ)) → (B → ℕ) → B → B → Changes
changes left read_faults source source' state disk_faults disk disk' held write_faults out out' =
    record {
      left = left source;
      left' = left source';
      read_faults = read_faults source;
      read_faults' = read_faults source';
      files = (state disk).files;
      disk_faults = disk_faults disk;
      disk_faults' = disk_faults disk';
      held = held out;
      held' = held out';
      write_faults = write_faults out;
      write_faults' = write_faults out';
    }

-- The source breaks no rule that is looked at, and it isn't in the part of the language that runs yet, or nothing runs
-- under the layout yet.
pub data IsLeftOut (text : List ℕ) (on : Setting) : Type 0 where
  by_text : IsUnbuilt text → IsLeftOut text on
  by_layout : (p : Program) → IsSourceOf text p → (IsBuilt on → ⊥) → IsLeftOut text on

-- The words order a run, and its source is left out.
pub record IsLeft (words : List (List ℕ)) (c : Changes) (text : List ℕ) : Type 0 where
  pub on : Setting
  pub budget : ℕ
  pub orders : Orders words c.files on budget
  pub left_out : IsLeftOut text on

-- The words order a run under a layout whose name stands for none.
pub record HasBadLayout (words : List (List ℕ)) (files : Option Files) (key : LayoutKey) (rule : LayoutRule) : Type 0 where
  pub order : RunOrder
  pub ordered : IsExec words order
  pub refused : IsAsTold (layout_told files order.layout) (Err (BadLayout key rule))

-- nothing was read or written
pub record IsUntouched (c : Changes) : Type 0 where
  pub unread : c.left' ≡ c.left
  pub unwritten : Grew c.held c.held' []

-- The reason of each answer before its closing line is written, for the text that was read.
abbrev pub HasReason : List (List ℕ) → Changes → List ℕ → Status → Type 0
HasReason words c text (status.Done value turns) = HasRead c.left c.left' text × Ran words c.files text c.held c.held' (Ended value) turns
HasReason words c text (status.Trap a turns) = HasRead c.left c.left' text × Ran words c.files text c.held c.held' (Trap a) turns
HasReason words c text (status.Paused turns) = HasRead c.left c.left' text × Ran words c.files text c.held c.held' Paused turns
HasReason words c text (status.StackFull asked left) = HasRead c.left c.left' text × ((turns : ℕ) × Ran words c.files text c.held c.held' (StackFull asked left) turns)
HasReason words c text status.Usage = ((o : RunOrder) → IsExec words o → ⊥) × IsUntouched c
HasReason words c text (status.BadLayout key rule) = HasBadLayout words c.files key rule × IsUntouched c
HasReason words c text (status.Refused r) = OrdersRun words c.files × HasRead c.left c.left' text × IsFirstRefusal text r × Grew c.held c.held' []
HasReason words c text status.Unbuilt = IsLeft words c text × HasRead c.left c.left' text × Grew c.held c.held' []
HasReason words c text status.ReadFault = OrdersRun words c.files × Rose c.read_faults c.read_faults' × Grew c.held c.held' []
HasReason words c text status.DiskFault = ((o : RunOrder) × IsExec words o) × Rose c.disk_faults c.disk_faults' × IsUntouched c
HasReason words c text status.WriteFault = HasRead c.left c.left' text × Rose c.write_faults c.write_faults' × RanInto words c.files text c.held c.held'
HasReason words c text status.NoMemory = ((o : RunOrder) × IsExec words o) × Grew c.held c.held' []

-- The closing line is written, or a beginning of it where the count of err rose, which is then the answer.
abbrev pub Closes : Option (List ℕ) → Option (List ℕ) → ℕ → ℕ → List ℕ → Status → Status → Type 0
Closes err err' faults faults' line inner answer =
    ((answer ≡ inner) × Grew err err' line)
    ⊎ ((answer ≡ status.WriteFault) × Rose faults faults' × GrewByPrefix err err' line)

-- Why the top call gave its answer: a reason for the answer before its closing line, and that line.
pub record HasAnswered (words : List (List ℕ)) (c : Changes) (err err' : Option (List ℕ)) (faults faults' : ℕ) (answer : Status) : Type 0 where
  pub inner : Status
  -- what was read of the source
  pub text : List ℕ
  pub reason : HasReason words c text inner
  pub closed : Closes err err' faults faults' (line_of text inner) inner answer

-- The source was read and its program run to this end.
pub record RanSource (words : List (List ℕ)) (c : Changes) (ending : ByteEnd) (turns : ℕ) : Type 0 where
  pub text : List ℕ
  pub read : HasRead c.left c.left' text
  pub ran : Ran words c.files text c.held c.held' ending turns

-- The words aren't a command; nothing was read or written.
pub record IsUsage (words : List (List ℕ)) (c : Changes) : Type 0 where
  pub unordered : (o : RunOrder) → IsExec words o → ⊥
  pub untouched : IsUntouched c

-- The words order a run under a layout whose name stands for none; nothing was read or written.
pub record IsBadLayout (words : List (List ℕ)) (c : Changes) (key : LayoutKey) (rule : LayoutRule) : Type 0 where
  pub bad : HasBadLayout words c.files key rule
  pub untouched : IsUntouched c

-- The source was read, and this is the first rule that it breaks; nothing was written.
pub record IsRefused (words : List (List ℕ)) (c : Changes) (r : Refusal) : Type 0 where
  pub text : List ℕ
  pub ordered : OrdersRun words c.files
  pub read : HasRead c.left c.left' text
  pub fault : IsFirstRefusal text r
  pub unwritten : Grew c.held c.held' []

-- The source was read and breaks no rule that is looked at, and it or its run isn't built yet; nothing was written.
pub record IsLeftUnbuilt (words : List (List ℕ)) (c : Changes) : Type 0 where
  pub text : List ℕ
  pub left : IsLeft words c text
  pub read : HasRead c.left c.left' text
  pub unwritten : Grew c.held c.held' []

-- A beginning of the program's output was written, and a write of it or of the closing line failed; or nothing was
-- written, and the closing line failed.
abbrev pub IsWriteFault : List (List ℕ) → Changes → Type 0
IsWriteFault words c = Grew c.held c.held' [] ⊎ ((text : List ℕ) × HasRead c.left c.left' text × RanInto words c.files text c.held c.held')

-- The line of this status was written, for the text that was read.
pub record HasLine (words : List (List ℕ)) (c : Changes) (err err' : Option (List ℕ)) (s : Status) : Type 0 where
  pub text : List ℕ
  pub reason : HasReason words c text s
  pub line : Grew err err' (line_of text s)

-- A beginning of the line of some status was written, for which there was a reason.
pub record HasLinePrefix (words : List (List ℕ)) (c : Changes) (err err' : Option (List ℕ)) : Type 0 where
  pub inner : Status
  pub text : List ℕ
  pub reason : HasReason words c text inner
  pub line : GrewByPrefix err err' (line_of text inner)

-- the status of a run's end
abbrev pub status_of_end : ℕ → ByteEnd → Status
status_of_end turns (Ended value) = status.Done value turns
status_of_end turns (Trap a) = status.Trap a turns
status_of_end turns (StackFull asked left) = status.StackFull asked left
status_of_end turns Paused = status.Paused turns

-- the status of a meaning that meets no act
abbrev pub status_of_meaning : ℕ → meaning.Ending → Status
status_of_meaning turns (meaning.Ended value) = status.Done value turns
status_of_meaning turns (meaning.Met a) = status.Trap a turns
status_of_meaning turns meaning.Paused = status.Paused turns

-- A program was answered with the end of its run over bytes.
pub record IsRun (p : Program) (on : Setting) (budget : ℕ) (answer : Status) : Type 0 where
  pub flat : Flat
  pub compiled : IsCompiled p flat
  pub run : ByteRun
  pub runs : RunsTo flat on budget run
  pub answer_is : answer ≡ status_of_end run.turns run.ending
  pub agrees : EndAgrees (meaning_on on p budget) run run.ending

-- The words order a run on this, for at most so many turns, and what their layout is is told.
pub record Tells (words : List (List ℕ)) (files : Option Files) (on : Setting) (budget : ℕ) : Type 0 where
  pub order : RunOrder
  pub ordered : IsExec words order
  pub layout : layout_told files order.layout ≡ Some (Ok on.layout)
  pub on_is : on ≡ setting_of on.layout order.limits
  pub budget_is : budget ≡ order.limits.turns

-- The words order a text to be run, a source tells it, and no read, no call on the disk and not the closing line fails.
abbrev pub WhereTold : List (List ℕ) → Changes → ℕ → ℕ → (Setting → ℕ → List ℕ → Type 0) → Type 0
WhereTold words c faults faults' Answers =
    (on : Setting) (budget : ℕ) (text : List ℕ) → Tells words c.files on budget → c.left ≡ Some text
    → (Rose c.read_faults c.read_faults' → ⊥) → (Rose c.disk_faults c.disk_faults' → ⊥) → (Rose faults faults' → ⊥) → Answers on budget text

-- The same of a program's source, under a layout that programs run under; no write fails either.
abbrev pub WhereOrdered : List (List ℕ) → Changes → ℕ → ℕ → (Setting → ℕ → Program → Type 0) → Type 0
WhereOrdered words c faults faults' Answers =
    WhereTold words c faults faults' (λ on budget text. (p : Program) → IsSourceOf text p → IsBuilt on
    → (Rose c.write_faults c.write_faults' → ⊥) → Answers on budget p)

-- the end of the program's run, unless memory is refused
abbrev pub Completes : List (List ℕ) → Changes → ℕ → ℕ → Status → Type 0
Completes words c faults faults' answer = WhereOrdered words c faults faults' (λ on budget p. IsRun p on budget answer ⊎ (answer ≡ status.NoMemory))

-- Where the program's meaning meets no act within the budget, its end; only the frame of main may not fit the stack.
abbrev pub CompletesAsMeant : List (List ℕ) → Changes → ℕ → ℕ → Status → Type 0
CompletesAsMeant words c faults faults' answer =
    WhereOrdered words c faults faults' (λ on budget p. ((a : Act) → (meaning_on on p budget).ending ≡ meaning.Met a → ⊥)
    → (answer ≡ status_of_meaning (meaning_on on p budget).turns (meaning_on on p budget).ending) ⊎ ((asked left : ℕ) × (answer ≡ status.StackFull asked left)) ⊎ (answer ≡ status.NoMemory))

-- Words that order no run are answered by Usage, unless the line fails.
abbrev pub Unordered : List (List ℕ) → ℕ → ℕ → Status → Type 0
Unordered words faults faults' answer = ((o : RunOrder) → IsExec words o → ⊥) → (answer ≡ status.Usage) ⊎ ((answer ≡ status.WriteFault) × Rose faults faults')

-- A name that stands for no layout is refused with the first rule that is broken on the way to it, unless memory is refused.
abbrev pub RefusesLayout : List (List ℕ) → Changes → ℕ → ℕ → Status → Type 0
RefusesLayout words c faults faults' answer =
    (o : RunOrder) (key : LayoutKey) (rule : LayoutRule) → IsExec words o → layout_told c.files o.layout ≡ Some (Err (BadLayout key rule))
    → (Rose c.disk_faults c.disk_faults' → ⊥) → (Rose faults faults' → ⊥) → (answer ≡ status.BadLayout key rule) ⊎ (answer ≡ status.NoMemory)

-- A text that breaks a rule is refused with the first one that it breaks, unless memory is refused.
abbrev pub Refuses : List (List ℕ) → Changes → ℕ → ℕ → Status → Type 0
Refuses words c faults faults' answer =
    WhereTold words c faults faults' (λ on budget text. (r : Refusal) → IsFirstRefusal text r
    → (answer ≡ status.Refused r) ⊎ (answer ≡ status.NoMemory))

-- One that breaks none is left out where it, or a run under the layout, isn't built yet.
abbrev pub LeavesUnbuilt : List (List ℕ) → Changes → ℕ → ℕ → Status → Type 0
LeavesUnbuilt words c faults faults' answer =
    WhereTold words c faults faults' (λ on budget text. IsLeftOut text on
    → (answer ≡ status.Unbuilt) ⊎ (answer ≡ status.NoMemory))

-- One that is the source of no program is either of these.
abbrev pub Excludes : List (List ℕ) → Changes → ℕ → ℕ → Status → Type 0
Excludes words c faults faults' answer =
    WhereTold words c faults faults' (λ on budget text. ((p : Program) → IsSourceOf text p → ⊥)
    → ((r : Refusal) × (answer ≡ status.Refused r)) ⊎ (answer ≡ status.Unbuilt) ⊎ (answer ≡ status.NoMemory))
