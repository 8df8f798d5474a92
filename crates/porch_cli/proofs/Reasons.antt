-- From the answers of the parts to those of the top call.
use Rattle.std.proofs.Common.{◌≡◌, ◌≤◌, ◌<◌, ◌^◌, ◌⊎◌, ◌++◌, ℕ, ℤ, List, length, inl, inr, refl, sym, ap, subst, ◌∙◌, arith}
use Rattle.std.proofs.lemmas.List.{append-nil, length-append}
use Rattle.std.specs.Prelude.{Result, Ok, Err, IsErrOf, [], ◌∷◌}
use Rattle.std.specs.declared.option.Option.{Option}
use Rattle.std.specs.declared.option.Option.TheVariants.{Some, None}
use Rattle.porch_edge.specs.Causes.{Rose}
use Rattle.porch_edge.specs.Files.{Files}
use Rattle.porch_edge.specs.Streams.{Grew, GrewByPrefix}
use Rattle.porch_session.specs.declared.limits.Limits.{Limits}
use Rattle.porch_session.specs.Limits.{AreLimits}
use Rattle.porch_layout.specs.declared.layout.Layout.{Layout}
use Rattle.porch_layout.specs.declared.fault.LayoutKey.{LayoutKey}
use Rattle.porch_layout.specs.declared.fault.LayoutRule.{LayoutRule}
use Rattle.porch_layout.specs.declared.fault.LayoutFault.{LayoutFault}
use Rattle.porch_layout.specs.declared.fault.LayoutFault.TheVariants.{BadLayout}
use Rattle.porch_layout.specs.Layouts.{le64, IsLayout}
use Rattle.std.proofs.lemmas.Bool.{cases_order}
use Rattle.porch_lex.specs.declared.refusal.Refusal.{Refusal}
use Rattle.porch_syntax.specs.Tree.{Program}
use Rattle.porch_source.specs.declared.fault.SourceFault.{SourceFault}
use Rattle.porch_source.specs.declared.fault.SourceFault.TheVariants.{Refused, Unbuilt, NoMemory}
use Rattle.porch_source.specs.Sources.{IsSourceOf, IsFirstRefusal, in_tokens, in_grammar, IsUnbuilt, IsFault}
use Rattle.porch_values.specs.declared.acts.Act.{Act}
use Rattle.porch_objects.specs.Meaning as meaning
use Rattle.porch_objects.specs.Meaning.{Meaning, without_input}
use Rattle.porch_flat.specs.declared.flat.Flat.{Flat}
use Rattle.porch_machine.specs.Column.{Setting, widths_of}
use Rattle.porch_machine.specs.ByteRun.{ByteEnd, Ended, Trap, StackFull, Paused, ByteRun, RunsTo}
use Rattle.porch_machine.specs.Steps.{IsSetting}
use Rattle.porch_machine.specs.Laws.{RunsAgree, RunsEnd, EndAgrees}
use Rattle.porch_cli.specs.declared.reading.ReadStop.{ReadStop}
use Rattle.porch_cli.specs.declared.reading.ReadStop.TheVariants as stop
use Rattle.porch_cli.specs.declared.status.Status.{Status}
use Rattle.porch_cli.specs.declared.status.Status.TheVariants as status
use Rattle.porch_cli.specs.Answers.{run_by, RanBytes, setting_of, IsBuilt, Orders, OrdersRun, Tells, meaning_on, HasRead, IsProgram, IsCompiled, Ran, RanProgram, RanProgramPartly, RanInto, Changes, IsUntouched, IsLeftOut, by_text, by_layout, IsLeft, HasBadLayout, HasReason, HasAnswered, RanSource, IsUsage, IsBadLayout, IsRefused, IsLeftUnbuilt, IsWriteFault, HasLine, HasLinePrefix, status_of_end, status_of_meaning, IsRun, Completes, CompletesAsMeant, Unordered, RefusesLayout, Refuses, LeavesUnbuilt, Excludes}
use Rattle.porch_cli.specs.declared.naming.NamingStop.{NamingStop}
use Rattle.porch_cli.specs.declared.naming.NamingStop.TheVariants as naming
use Rattle.porch_cli.specs.Words.{RunOrder, IsExec}
use Rattle.porch_cli.specs.Layouts.{layout_told, IsAsTold}
use Rattle.porch_cli.specs.inside.Naming.{IsNamed}
use Rattle.porch_cli.specs.inside.Parts.{RunsText, RunsTree, RunsUnder, RunsSource, RunsProgram, refused_for, stopped_for, unnamed_for}
use Rattle.porch_cli.specs.inside.Running.{RunsFlat}
use Rattle.porch_cli.proofs.Runs.{unchanged}

-- what the run of a machine answers is what the run of its program does
pub run_of_machine : (flat : Flat) (on : Setting) (budget : ℕ) (out out' : Option (List ℕ)) (f f' : ℕ) (s : Status) → RunsFlat flat on budget out out' f f' s → RunsProgram flat on budget out out' f f' s
run_of_machine flat on budget out out' f f' (status.Done value turns) r = r
run_of_machine flat on budget out out' f f' (status.Trap a turns) r = r
run_of_machine flat on budget out out' f f' (status.StackFull asked left) r = r
run_of_machine flat on budget out out' f f' (status.Paused turns) r = r
run_of_machine flat on budget out out' f f' (status.Refused x) r = r
run_of_machine flat on budget out out' f f' (status.BadLayout key rule) r = r
run_of_machine flat on budget out out' f f' status.Unbuilt r = r
run_of_machine flat on budget out out' f f' status.WriteFault r = r
run_of_machine flat on budget out out' f f' status.DiskFault r = r
run_of_machine flat on budget out out' f f' status.NoMemory r = absurd r
run_of_machine flat on budget out out' f f' status.Usage r = r
run_of_machine flat on budget out out' f f' status.ReadFault r = r

-- a setting under a layout that is built
pub is_setting : (layout : Layout) (limits : Limits) → layout ≡ le64 → AreLimits limits → IsSetting (setting_of layout limits)
is_setting layout limits is within = record {
  layout_is = is;
  stack_least = let k = within.stack.low in omega (arith, k);
  stack_most = let k = within.stack.high in omega (arith, k);
  heap_least = let k = within.heap.low in omega (arith, k);
  heap_most = let k = within.heap.high in omega (arith, k);
}

module _ (p : Program) (flat : Flat) (on : Setting) (budget : ℕ) (compiled : IsCompiled p flat) (allowed : IsSetting on) (law : RunsAgree) (ends : RunsEnd) where
  agrees_with : (r : ByteRun) → RunsTo flat on budget r → EndAgrees (meaning_on on p budget) r r.ending
  agrees_with r run = law flat on budget r (meaning_on on p budget) compiled.valid allowed run (compiled.same (without_input (widths_of on.layout)) budget)

  ran_program : (out out' : Option (List ℕ)) (ending : ByteEnd) (turns : ℕ) → RanBytes flat on budget out out' ending turns → RanProgram p on budget out out' ending turns
  ran_program out out' ending turns ran = record { flat = flat; compiled = compiled; ran = ran; agrees = agrees_with (run_by ending turns ran.output) ran.run }

  -- the run of a program of whose output a beginning was written
  ran_partly : (out out' : Option (List ℕ)) → ((r : ByteRun) → RunsTo flat on budget r → GrewByPrefix out out' r.output) → RanProgramPartly p on budget out out'
  ran_partly out out' part =
      let its = ends flat on budget compiled.valid allowed in
      record { flat = flat; compiled = compiled; run = its.0; runs = its.1; grew = part its.0 its.1; agrees = agrees_with its.0 its.1 }

  -- a compiled program was run
  pub run_compiled : (out out' : Option (List ℕ)) (f f' : ℕ) (s : Status) → RunsProgram flat on budget out out' f f' s → RunsTree p on budget out out' f f' s
  run_compiled out out' f f' (status.Done value turns) r = ran_program out out' (Ended value) turns r
  run_compiled out out' f f' (status.Trap a turns) r = ran_program out out' (Trap a) turns r
  run_compiled out out' f f' (status.StackFull asked left) r = (r.0, ran_program out out' (StackFull asked left) r.0 r.1)
  run_compiled out out' f f' (status.Paused turns) r = ran_program out out' Paused turns r
  run_compiled out out' f f' (status.Refused x) r = absurd r
  run_compiled out out' f f' (status.BadLayout key rule) r = absurd r
  run_compiled out out' f f' status.Unbuilt r = absurd r
  run_compiled out out' f f' status.WriteFault r = (r.rose, ran_partly out out' r.part)
  run_compiled out out' f f' status.DiskFault r = absurd r
  run_compiled out out' f f' status.NoMemory r = r
  run_compiled out out' f f' status.Usage r = absurd r
  run_compiled out out' f f' status.ReadFault r = absurd r

-- a run of a tree under a layout that is built
pub run_built : (p : Program) (on : Setting) (budget : ℕ) (out out' : Option (List ℕ)) (f f' : ℕ) (s : Status) → IsBuilt on → RunsTree p on budget out out' f f' s → RunsUnder p on budget out out' f f' s
run_built p on budget out out' f f' (status.Done value turns) is r = (is, r)
run_built p on budget out out' f f' (status.Trap a turns) is r = (is, r)
run_built p on budget out out' f f' (status.StackFull asked left) is r = (is, r)
run_built p on budget out out' f f' (status.Paused turns) is r = (is, r)
run_built p on budget out out' f f' (status.Refused x) is r = absurd r
run_built p on budget out out' f f' (status.BadLayout key rule) is r = absurd r
run_built p on budget out out' f f' status.Unbuilt is r = absurd r
run_built p on budget out out' f f' status.WriteFault is r = (is, r)
run_built p on budget out out' f f' status.DiskFault is r = absurd r
run_built p on budget out out' f f' status.NoMemory is r = (is, r)
run_built p on budget out out' f f' status.Usage is r = absurd r
run_built p on budget out out' f f' status.ReadFault is r = absurd r

-- a run of the program that a text is
pub run_ended : (text : List ℕ) (p : Program) (on : Setting) (budget : ℕ) (out out' : Option (List ℕ)) (f f' : ℕ) (s : Status) → IsProgram text p → RunsUnder p on budget out out' f f' s → RunsText text on budget out out' f f' s
run_ended text p on budget out out' f f' (status.Done value turns) is r = (r.0, record { program = p; source = is; ran = r.1 })
run_ended text p on budget out out' f f' (status.Trap a turns) is r = (r.0, record { program = p; source = is; ran = r.1 })
run_ended text p on budget out out' f f' (status.StackFull asked left) is r = (r.0, (r.1.0, record { program = p; source = is; ran = r.1.1 }))
run_ended text p on budget out out' f f' (status.Paused turns) is r = (r.0, record { program = p; source = is; ran = r.1 })
run_ended text p on budget out out' f f' (status.Refused x) is r = absurd r.1
run_ended text p on budget out out' f f' (status.BadLayout key rule) is r = absurd r.1
run_ended text p on budget out out' f f' status.Unbuilt is r = (by_layout p is.is r.0, r.1)
run_ended text p on budget out out' f f' status.WriteFault is r = (r.0, r.1.0, record { program = p; source = is; ran = r.1.1 })
run_ended text p on budget out out' f f' status.DiskFault is r = absurd r.1
run_ended text p on budget out out' f f' status.NoMemory is r = r.1
run_ended text p on budget out out' f f' status.Usage is r = absurd r.1
run_ended text p on budget out out' f f' status.ReadFault is r = absurd r.1

pub named_with : (s : NamingStop) → s ≡ naming.DiskFault → IsErrOf (let r : Result Layout NamingStop = Err s in r) naming.DiskFault
named_with s e = ap (λ (x : NamingStop). let r : Result Layout NamingStop = Err x in r) e

pub stopped_with : (s : ReadStop) → s ≡ stop.ReadFault → IsErrOf (let r : Result (Unit {0}) ReadStop = Err s in r) stop.ReadFault
stopped_with s e = ap (λ (x : ReadStop). let r : Result (Unit {0}) ReadStop = Err x in r) e

-- a text that has no program
pub run_refused : (text : List ℕ) (on : Setting) (budget : ℕ) (out : Option (List ℕ)) (f : ℕ) (e : SourceFault) → IsFault text e → RunsText text on budget out out f f (refused_for e)
run_refused text on budget out f (Refused r) h = (h, unchanged out)
run_refused text on budget out f Unbuilt h = (by_text h, unchanged out)
run_refused text on budget out f NoMemory h = unchanged out

-- a source whose text was run, and one that wasn't read
pub run_of_text : (on : Setting) (budget : ℕ) (left left' : Option (List ℕ)) (rf rf' : ℕ) (text : List ℕ) (out out' : Option (List ℕ)) (f f' : ℕ) (s : Status)
    → HasRead left left' text → RunsText text on budget out out' f f' s → RunsSource on budget left left' rf rf' text out out' f f' s
run_of_text on budget left left' rf rf' text out out' f f' (status.Done value turns) h r = (h, r)
run_of_text on budget left left' rf rf' text out out' f f' (status.Trap a turns) h r = (h, r)
run_of_text on budget left left' rf rf' text out out' f f' (status.StackFull asked left_bytes) h r = (h, r)
run_of_text on budget left left' rf rf' text out out' f f' (status.Paused turns) h r = (h, r)
run_of_text on budget left left' rf rf' text out out' f f' (status.Refused x) h r = (h, r)
run_of_text on budget left left' rf rf' text out out' f f' (status.BadLayout key rule) h r = absurd r
run_of_text on budget left left' rf rf' text out out' f f' status.Unbuilt h r = (h, r)
run_of_text on budget left left' rf rf' text out out' f f' status.WriteFault h r = (h, r)
run_of_text on budget left left' rf rf' text out out' f f' status.DiskFault h r = absurd r
run_of_text on budget left left' rf rf' text out out' f f' status.NoMemory h r = r
run_of_text on budget left left' rf rf' text out out' f f' status.Usage h r = absurd r
run_of_text on budget left left' rf rf' text out out' f f' status.ReadFault h r = absurd r

pub run_of_stop : (on : Setting) (budget : ℕ) (left left' : Option (List ℕ)) (rf rf' : ℕ) (text : List ℕ) (out : Option (List ℕ)) (f : ℕ) (s : ReadStop)
    → (s ≡ stop.ReadFault → Rose rf rf') → RunsSource on budget left left' rf rf' text out out f f (stopped_for s)
run_of_stop on budget left left' rf rf' text out f stop.ReadFault rose = (rose refl, unchanged out)
run_of_stop on budget left left' rf rf' text out f stop.NoMemory rose = unchanged out

-- an order whose layout was found
pub orders_with : (words : List (List ℕ)) (files : Option Files) (o : RunOrder) (layout : Layout) → IsExec words o → IsAsTold (layout_told files o.layout) (Ok layout) → IsLayout layout
    → Orders words files (setting_of layout o.limits) o.limits.turns
orders_with words files o layout ordered told allowed = record { order = o; ordered = ordered; layout = told; allowed = allowed; on_is = refl; budget_is = refl }

module _ (words : List (List ℕ)) (c : Changes) where
  -- the reason of an answer where the layout wasn't found
  pub reason_of_naming : (text : List ℕ) (o : RunOrder) (s : NamingStop) → IsExec words o → IsNamed c.files o.layout (Err s) → (s ≡ naming.DiskFault → Rose c.disk_faults c.disk_faults')
      → IsUntouched c → HasReason words c text (unnamed_for s)
  reason_of_naming text o (naming.BadLayout key rule) w named rose still = (record { order = o; ordered = w; refused = named }, still)
  reason_of_naming text o naming.DiskFault w named rose still = ((o, w), rose refl, still)
  reason_of_naming text o naming.NoMemory w named rose still = ((o, w), still.unwritten)

  -- the reason of an answer that a run gave
  pub reason_of_run : (text : List ℕ) (on : Setting) (budget : ℕ) (s : Status) → Orders words c.files on budget
      → RunsSource on budget c.left c.left' c.read_faults c.read_faults' text c.held c.held' c.write_faults c.write_faults' s → HasReason words c text s
  reason_of_run text on budget (status.Done value turns) o k = (k.0, record { on = on; budget = budget; ordered = o; built = k.1.0; ran = k.1.1 })
  reason_of_run text on budget (status.Trap a turns) o k = (k.0, record { on = on; budget = budget; ordered = o; built = k.1.0; ran = k.1.1 })
  reason_of_run text on budget (status.Paused turns) o k = (k.0, record { on = on; budget = budget; ordered = o; built = k.1.0; ran = k.1.1 })
  reason_of_run text on budget (status.StackFull asked left) o k = (k.0, (k.1.1.0, record { on = on; budget = budget; ordered = o; built = k.1.0; ran = k.1.1.1 }))
  reason_of_run text on budget (status.Refused x) o k = (record { on = on; budget = budget; orders = o }, k.0, k.1.0, k.1.1)
  reason_of_run text on budget (status.BadLayout key rule) o k = absurd k.1
  reason_of_run text on budget status.Unbuilt o k = (record { on = on; budget = budget; orders = o; left_out = k.1.0 }, k.0, k.1.1)
  reason_of_run text on budget status.WriteFault o k = (k.0, k.1.1, record { on = on; budget = budget; ordered = o; built = k.1.0; ran = k.1.2 })
  reason_of_run text on budget status.DiskFault o k = absurd k.1
  reason_of_run text on budget status.NoMemory o k = ((o.order, o.ordered), k)
  reason_of_run text on budget status.Usage o k = absurd k.1
  reason_of_run text on budget status.ReadFault o k = (record { on = on; budget = budget; orders = o }, k.0, k.1)

-- what was read is what the source told, where it isn't too long
same_text : (told text : List ℕ) (a b : Option (List ℕ)) → a ≡ Some told → length told ≤ 2 ^ 20 → HasRead a b text → text ≡ told
same_text told text None b e small r = absurd (let k : ⊥ = cc in k)
same_text told text (Some held) None e small r = absurd r
same_text told text (Some held) (Some rest) e small r =
    let whole : told ≡ text ++ rest = cc in
    let short : length text ≤ 2 ^ 20 = let l = length-append text rest in let k = ap length whole in omega arith in
    sym (whole ∙ ap (λ (x : List ℕ). text ++ x) (r.1 short) ∙ append-nil text)

-- nor where what was read isn't
no_program : (told text : List ℕ) (a b : Option (List ℕ)) → a ≡ Some told → HasRead a b text → ((p : Program) → IsSourceOf told p → ⊥) → (p : Program) → IsSourceOf text p → ⊥
no_program told text None b e r never p source = absurd (let k : ⊥ = cc in k)
no_program told text (Some held) None e r never p source = r
no_program told text (Some held) (Some rest) e r never p source =
    let whole : told ≡ text ++ rest = cc in
    let same = sym (whole ∙ ap (λ (x : List ℕ). text ++ x) (r.1 source.accepted.tokens.0) ∙ append-nil text) in
    never p (let P : List ℕ → Type 0 = λ x. IsSourceOf x p in subst P same source)

read_short : (told text rest : List ℕ) → told ≡ text ++ rest → rest ≡ [] → 2 ^ 20 < length told → length text ≤ 2 ^ 20 → 2 ^ 20 < length text
read_short told text rest whole none long short =
    let same : told ≡ text = whole ∙ ap (λ x. text ++ x) none ∙ append-nil text in
    let k = ap length same in
    absurd (omega arith)

-- what was read is too long where what the source told is
read_long : (told text rest : List ℕ) → told ≡ text ++ rest → (length text ≤ 2 ^ 20 → rest ≡ []) → 2 ^ 20 < length told → 2 ^ 20 < length text
read_long told text rest whole short long = elim (cases_order (length text) (2 ^ 20)) [
  | inl e ↦ read_short told text rest whole (short (omega arith)) long (omega arith)
  | inr o ↦ elim o [ inl l ↦ read_short told text rest whole (short (omega arith)) long (omega arith) | inr l ↦ l ]
]

long_fault : (told text : List ℕ) (a b : Option (List ℕ)) → a ≡ Some told → HasRead a b text → 2 ^ 20 < length told → 2 ^ 20 < length text
long_fault told text None b e r l = absurd (let k : ⊥ = cc in k)
long_fault told text (Some held) None e r l = absurd r
long_fault told text (Some held) (Some rest) e r l =
    let whole : told ≡ text ++ rest = cc in
    read_long told text rest whole r.1 l

-- the first rule that it breaks is that of what was told
same_fault : (told text : List ℕ) (a b : Option (List ℕ)) (r : Refusal) → a ≡ Some told → HasRead a b text → IsFirstRefusal told r → IsFirstRefusal text r
same_fault told text a b r e h (in_tokens (inl l)) = in_tokens (inl (long_fault told text a b e h l.0, l.1))
same_fault told text a b r e h (in_tokens (inr f)) = subst (λ x. IsFirstRefusal x r) (sym (same_text told text a b e f.0 h)) (in_tokens (inr f))
same_fault told text a b r e h (in_grammar ts t g) = subst (λ x. IsFirstRefusal x r) (sym (same_text told text a b e t.0 h)) (in_grammar ts t g)

same_unbuilt : (told text : List ℕ) (a b : Option (List ℕ)) → a ≡ Some told → HasRead a b text → IsUnbuilt told → IsUnbuilt text
same_unbuilt told text a b e h u = subst IsUnbuilt (sym (same_text told text a b e u.accepted.tokens.0 h)) u

-- that words order one run
abbrev pub OneOrder : List (List ℕ) → Type 0
OneOrder words = (o p : RunOrder) → IsExec words o → IsExec words p → o ≡ p

ok_layout : (a b : Layout) → (let r : Result Layout LayoutFault = Ok a in r) ≡ Ok b → a ≡ b
ok_layout a b e = cc

-- what was found is what was told
found_told : (t : Option (Result Layout LayoutFault)) (a b : Result Layout LayoutFault) → IsAsTold t a → t ≡ Some b → a ≡ b
found_told None a b k e = absurd (let x : ⊥ = cc in x)
found_told (Some told) a b k e = let same : told ≡ b = cc in k ∙ same

-- so what words order, and on what it runs, is what was told
record IsTold (on on' : Setting) (budget budget' : ℕ) : Type 0 where
  on_is : on ≡ on'
  budget_is : budget ≡ budget'

told_once : (words : List (List ℕ)) (files : Option Files) (on on' : Setting) (budget budget' : ℕ) → OneOrder words → Orders words files on budget → Tells words files on' budget' → IsTold on on' budget budget'
told_once words files on on' budget budget' once o t =
    let same : o.order ≡ t.order = once o.order t.order o.ordered t.ordered in
    let told : layout_told files o.order.layout ≡ Some (Ok on'.layout) = ap (λ (x : RunOrder). layout_told files x.layout) same ∙ t.layout in
    let layout : on.layout ≡ on'.layout = ok_layout on.layout on'.layout (found_told (layout_told files o.order.layout) (Ok on.layout) (Ok on'.layout) o.layout told) in
    record {
      on_is = o.on_is ∙ ap (λ (l : Layout). setting_of l o.order.limits) layout ∙ ap (λ (x : RunOrder). setting_of on'.layout x.limits) same ∙ sym t.on_is;
      budget_is = o.budget_is ∙ ap (λ (x : RunOrder). x.limits.turns) same ∙ sym t.budget_is;
    }

-- all of the output is a beginning of it
into : (words : List (List ℕ)) (files : Option Files) (text : List ℕ) (out out' : Option (List ℕ)) (e : ByteEnd) (t : ℕ) → Ran words files text out out' e t → RanInto words files text out out'
into words files text out out' e t k = record {
  on = k.on;
  budget = k.budget;
  ordered = k.ordered;
  built = k.built;
  ran = record {
    program = k.ran.program;
    source = k.ran.source;
    ran = record {
      flat = k.ran.ran.flat;
      compiled = k.ran.ran.compiled;
      run = run_by e t k.ran.ran.ran.output;
      runs = k.ran.ran.ran.run;
      grew = record { more = k.ran.ran.ran.output; missing = []; split = sym (append-nil k.ran.ran.ran.output); grew = k.ran.ran.ran.grew };
      agrees = k.ran.ran.agrees;
    };
  };
}

-- That a text has one answer.
pub record OneAnswer : Type 0 where
  pub fault : (text : List ℕ) (r s : Refusal) → IsFirstRefusal text r → IsFirstRefusal text s → r ≡ s
  pub program_or_fault : (text : List ℕ) (p : Program) (r : Refusal) → IsSourceOf text p → IsFirstRefusal text r → ⊥
  pub program_or_unbuilt : (text : List ℕ) (p : Program) → IsSourceOf text p → IsUnbuilt text → ⊥
  pub unbuilt_or_fault : (text : List ℕ) (r : Refusal) → IsUnbuilt text → IsFirstRefusal text r → ⊥

pub one_answer : ((text : List ℕ) (r s : Refusal) → IsFirstRefusal text r → IsFirstRefusal text s → r ≡ s)
    → ((text : List ℕ) (p : Program) (r : Refusal) → IsSourceOf text p → IsFirstRefusal text r → ⊥)
    → ((text : List ℕ) (p : Program) → IsSourceOf text p → IsUnbuilt text → ⊥)
    → ((text : List ℕ) (r : Refusal) → IsUnbuilt text → IsFirstRefusal text r → ⊥) → OneAnswer
one_answer a b c d = record { fault = a; program_or_fault = b; program_or_unbuilt = c; unbuilt_or_fault = d }

-- Whatever is left out is no program that runs, and breaks no rule.
left_out_or_fault : OneAnswer → (text : List ℕ) (on : Setting) (r : Refusal) → IsLeftOut text on → IsFirstRefusal text r → ⊥
left_out_or_fault one text on r (by_text u) f = one.unbuilt_or_fault text r u f
left_out_or_fault one text on r (by_layout p source never) f = one.program_or_fault text p r source f

built_or_left_out : OneAnswer → (text : List ℕ) (p : Program) (on : Setting) → IsSourceOf text p → IsBuilt on → IsLeftOut text on → ⊥
built_or_left_out one text p on source built (by_text u) = one.program_or_unbuilt text p source u
built_or_left_out one text p on source built (by_layout q other never) = never built

same_left_out : (told text : List ℕ) (a b : Option (List ℕ)) (on : Setting) → a ≡ Some told → HasRead a b text → IsLeftOut told on → IsLeftOut text on
same_left_out told text a b on e h (by_text u) = by_text (same_unbuilt told text a b e h u)
same_left_out told text a b on e h (by_layout p source never) =
    let same = same_text told text a b e source.accepted.tokens.0 h in
    by_layout p (let P : List ℕ → Type 0 = λ x. IsSourceOf x p in subst P (sym same) source) never

-- A program that ran isn't left out.
ran_or_left_out : (words : List (List ℕ)) (files : Option Files) (on : Setting) (budget : ℕ) → OneOrder words → OneAnswer → (told text : List ℕ) (a b : Option (List ℕ)) → a ≡ Some told → HasRead a b text
    → Tells words files on budget → IsLeftOut told on → (on' : Setting) (budget' : ℕ) → Orders words files on' budget' → IsBuilt on' → (p : Program) → IsSourceOf text p → ⊥
ran_or_left_out words files on budget once one told text a b e h t u on' budget' o built p source =
    let within = told_once words files on' on budget' budget once o t in
    built_or_left_out one text p on source (subst IsBuilt within.on_is built) (same_left_out told text a b on e h u)

ok_or_bad : (l : Layout) (e : LayoutFault) → (let r : Result Layout LayoutFault = Ok l in r) ≡ Err e → ⊥
ok_or_bad l e k = cc

same_bad : (k key : LayoutKey) (x rule : LayoutRule) → (let r : Result Layout LayoutFault = Err (BadLayout k x) in r) ≡ Err (BadLayout key rule) → status.BadLayout k x ≡ status.BadLayout key rule
same_bad k key x rule e = cc

-- A name that stands for no layout orders no run,
no_layout : (words : List (List ℕ)) (files : Option Files) (on : Setting) (budget : ℕ) (key : LayoutKey) (rule : LayoutRule) → OneOrder words → Orders words files on budget
    → (o : RunOrder) → IsExec words o → layout_told files o.layout ≡ Some (Err (BadLayout key rule)) → ⊥
no_layout words files on budget key rule once orders o w t =
    let same : orders.order ≡ o = once orders.order o orders.ordered w in
    let told : layout_told files orders.order.layout ≡ Some (Err (BadLayout key rule)) = ap (λ (x : RunOrder). layout_told files x.layout) same ∙ t in
    ok_or_bad on.layout (BadLayout key rule) (found_told (layout_told files orders.order.layout) (Ok on.layout) (Err (BadLayout key rule)) orders.layout told)

-- and one that stands for one isn't refused.
bad_layout_told : (words : List (List ℕ)) (files : Option Files) (on : Setting) (budget : ℕ) (key : LayoutKey) (rule : LayoutRule) → OneOrder words → HasBadLayout words files key rule → Tells words files on budget → ⊥
bad_layout_told words files on budget key rule once bad t =
    let same : bad.order ≡ t.order = once bad.order t.order bad.ordered t.ordered in
    let told : layout_told files bad.order.layout ≡ Some (Ok on.layout) = ap (λ (x : RunOrder). layout_told files x.layout) same ∙ t.layout in
    ok_or_bad on.layout (BadLayout key rule) (sym (found_told (layout_told files bad.order.layout) (Err (BadLayout key rule)) (Ok on.layout) bad.refused told))

same_refusal : (words : List (List ℕ)) (files : Option Files) (k key : LayoutKey) (x rule : LayoutRule) → OneOrder words → HasBadLayout words files k x → (o : RunOrder) → IsExec words o
    → layout_told files o.layout ≡ Some (Err (BadLayout key rule)) → status.BadLayout k x ≡ status.BadLayout key rule
same_refusal words files k key x rule once bad o w t =
    let same : bad.order ≡ o = once bad.order o bad.ordered w in
    let told : layout_told files bad.order.layout ≡ Some (Err (BadLayout key rule)) = ap (λ (y : RunOrder). layout_told files y.layout) same ∙ t in
    same_bad k key x rule (found_told (layout_told files bad.order.layout) (Err (BadLayout k x)) (Err (BadLayout key rule)) bad.refused told)

-- Statuses differ, and so do their parts.
done_write : (value : ℤ) (turns : ℕ) → status.WriteFault ≡ status.Done value turns → ⊥
done_write value turns e = cc

trap_write : (a : Act) (turns : ℕ) → status.WriteFault ≡ status.Trap a turns → ⊥
trap_write a turns e = cc

stack_write : (asked left : ℕ) → status.WriteFault ≡ status.StackFull asked left → ⊥
stack_write asked left e = cc

paused_write : (turns : ℕ) → status.WriteFault ≡ status.Paused turns → ⊥
paused_write turns e = cc

usage_write : status.WriteFault ≡ status.Usage → ⊥
usage_write e = cc

unbuilt_write : status.WriteFault ≡ status.Unbuilt → ⊥
unbuilt_write e = cc

refused_write : (r : Refusal) → status.WriteFault ≡ status.Refused r → ⊥
refused_write r e = cc

memory_write : status.WriteFault ≡ status.NoMemory → ⊥
memory_write e = cc

bad_layout_write : (key : LayoutKey) (rule : LayoutRule) → status.WriteFault ≡ status.BadLayout key rule → ⊥
bad_layout_write key rule e = cc

disk_write : status.WriteFault ≡ status.DiskFault → ⊥
disk_write e = cc

read_write : status.WriteFault ≡ status.ReadFault → ⊥
read_write e = cc

module _ (words : List (List ℕ)) (c : Changes) (err err' : Option (List ℕ)) (faults faults' : ℕ) (answer : Status) (h : HasAnswered words c err err' faults faults' answer) where
  -- an answer that is no write fault has its own reason
  own_reason : (s : Status) → (status.WriteFault ≡ s → ⊥) → answer ≡ s → HasReason words c h.text s
  own_reason s other e = elim h.closed [
    | inl w ↦ (let P : Status → Type 0 = λ x. HasReason words c h.text x in subst P (sym w.0 ∙ e) h.reason)
    | inr w ↦ absurd (other (sym w.0 ∙ e))
  ]

  pub has_done : (value : ℤ) (turns : ℕ) → answer ≡ status.Done value turns → RanSource words c (Ended value) turns
  has_done value turns e = let r = own_reason (status.Done value turns) (done_write value turns) e in record { text = h.text; read = r.0; ran = r.1 }

  pub has_trap : (a : Act) (turns : ℕ) → answer ≡ status.Trap a turns → RanSource words c (Trap a) turns
  has_trap a turns e = let r = own_reason (status.Trap a turns) (trap_write a turns) e in record { text = h.text; read = r.0; ran = r.1 }

  pub has_stack_full : (asked left : ℕ) → answer ≡ status.StackFull asked left → (turns : ℕ) × RanSource words c (StackFull asked left) turns
  has_stack_full asked left e = let r = own_reason (status.StackFull asked left) (stack_write asked left) e in (r.1.0, record { text = h.text; read = r.0; ran = r.1.1 })

  pub has_paused : (turns : ℕ) → answer ≡ status.Paused turns → RanSource words c Paused turns
  has_paused turns e = let r = own_reason (status.Paused turns) (paused_write turns) e in record { text = h.text; read = r.0; ran = r.1 }

  pub has_usage : answer ≡ status.Usage → IsUsage words c
  has_usage e = let r = own_reason status.Usage usage_write e in record { unordered = r.0; untouched = r.1 }

  pub has_bad_layout : (key : LayoutKey) (rule : LayoutRule) → answer ≡ status.BadLayout key rule → IsBadLayout words c key rule
  has_bad_layout key rule e = let r = own_reason (status.BadLayout key rule) (bad_layout_write key rule) e in record { bad = r.0; untouched = r.1 }

  pub has_refused : (x : Refusal) → answer ≡ status.Refused x → IsRefused words c x
  has_refused x e = let r = own_reason (status.Refused x) (refused_write x) e in record { text = h.text; ordered = r.0; read = r.1; fault = r.2; unwritten = r.3 }

  pub has_left_unbuilt : answer ≡ status.Unbuilt → IsLeftUnbuilt words c
  has_left_unbuilt e = let r = own_reason status.Unbuilt unbuilt_write e in record { text = h.text; left = r.0; read = r.1; unwritten = r.2 }

  pub has_read_fault : answer ≡ status.ReadFault → Rose c.read_faults c.read_faults' × Grew c.held c.held' []
  has_read_fault e = let r = own_reason status.ReadFault read_write e in (r.1, r.2)

  pub has_disk_fault : answer ≡ status.DiskFault → Rose c.disk_faults c.disk_faults' × Grew c.held c.held' []
  has_disk_fault e = let r = own_reason status.DiskFault disk_write e in (r.1, r.2.unwritten)

  pub has_no_memory : answer ≡ status.NoMemory → Grew c.held c.held' []
  has_no_memory e = (own_reason status.NoMemory memory_write e).1

  pub has_write_fault : answer ≡ status.WriteFault → Rose c.write_faults c.write_faults' ⊎ Rose faults faults'
  has_write_fault e = elim h.closed [
    | inl w ↦ (let P : Status → Type 0 = λ x. HasReason words c h.text x in inl (subst P (sym w.0 ∙ e) h.reason).1)
    | inr w ↦ inr w.1
  ]

  written_by : (s : Status) → HasReason words c h.text s → IsWriteFault words c
  written_by (status.Done value turns) r = inr (h.text, r.0, into words c.files h.text c.held c.held' (Ended value) turns r.1)
  written_by (status.Trap a turns) r = inr (h.text, r.0, into words c.files h.text c.held c.held' (Trap a) turns r.1)
  written_by (status.StackFull asked left) r = inr (h.text, r.0, into words c.files h.text c.held c.held' (StackFull asked left) r.1.0 r.1.1)
  written_by (status.Paused turns) r = inr (h.text, r.0, into words c.files h.text c.held c.held' Paused turns r.1)
  written_by status.Usage r = inl r.1.unwritten
  written_by (status.BadLayout key rule) r = inl r.1.unwritten
  written_by status.DiskFault r = inl r.2.unwritten
  written_by (status.Refused x) r = inl r.3
  written_by status.Unbuilt r = inl r.2
  written_by status.ReadFault r = inl r.2
  written_by status.WriteFault r = inr (h.text, r.0, r.2)
  written_by status.NoMemory r = inl r.1

  pub has_written : IsWriteFault words c
  has_written = written_by h.inner h.reason

  ordered_by : (s : Status) → HasReason words c h.text s → ((o : RunOrder) → IsExec words o → ⊥) → s ≡ status.Usage
  ordered_by (status.Done value turns) r never = absurd (never r.1.ordered.order r.1.ordered.ordered)
  ordered_by (status.Trap a turns) r never = absurd (never r.1.ordered.order r.1.ordered.ordered)
  ordered_by (status.Paused turns) r never = absurd (never r.1.ordered.order r.1.ordered.ordered)
  ordered_by (status.StackFull asked left) r never = absurd (never r.1.1.ordered.order r.1.1.ordered.ordered)
  ordered_by status.Usage r never = refl
  ordered_by (status.BadLayout key rule) r never = absurd (never r.0.order r.0.ordered)
  ordered_by (status.Refused x) r never = absurd (never r.0.orders.order r.0.orders.ordered)
  ordered_by status.Unbuilt r never = absurd (never r.0.orders.order r.0.orders.ordered)
  ordered_by status.ReadFault r never = absurd (never r.0.orders.order r.0.orders.ordered)
  ordered_by status.WriteFault r never = absurd (never r.2.ordered.order r.2.ordered.ordered)
  ordered_by status.DiskFault r never = absurd (never r.0.0 r.0.1)
  ordered_by status.NoMemory r never = absurd (never r.0.0 r.0.1)

  pub has_unordered : Unordered words faults faults' answer
  has_unordered never = elim h.closed [ inl w ↦ inl (w.0 ∙ ordered_by h.inner h.reason never) | inr w ↦ inr (w.0, w.1) ]

  module _ (once : OneOrder words) where
    refused_layout_by : (s : Status) → HasReason words c h.text s → (o : RunOrder) (key : LayoutKey) (rule : LayoutRule) → IsExec words o → layout_told c.files o.layout ≡ Some (Err (BadLayout key rule))
        → (Rose c.disk_faults c.disk_faults' → ⊥) → (s ≡ status.BadLayout key rule) ⊎ (s ≡ status.NoMemory)
    refused_layout_by (status.Done value turns) r o key rule w t calm = absurd (no_layout words c.files r.1.on r.1.budget key rule once r.1.ordered o w t)
    refused_layout_by (status.Trap a turns) r o key rule w t calm = absurd (no_layout words c.files r.1.on r.1.budget key rule once r.1.ordered o w t)
    refused_layout_by (status.Paused turns) r o key rule w t calm = absurd (no_layout words c.files r.1.on r.1.budget key rule once r.1.ordered o w t)
    refused_layout_by (status.StackFull asked left) r o key rule w t calm = absurd (no_layout words c.files r.1.1.on r.1.1.budget key rule once r.1.1.ordered o w t)
    refused_layout_by status.Usage r o key rule w t calm = absurd (r.0 o w)
    refused_layout_by (status.BadLayout k x) r o key rule w t calm = inl (same_refusal words c.files k key x rule once r.0 o w t)
    refused_layout_by (status.Refused x) r o key rule w t calm = absurd (no_layout words c.files r.0.on r.0.budget key rule once r.0.orders o w t)
    refused_layout_by status.Unbuilt r o key rule w t calm = absurd (no_layout words c.files r.0.on r.0.budget key rule once r.0.orders o w t)
    refused_layout_by status.ReadFault r o key rule w t calm = absurd (no_layout words c.files r.0.on r.0.budget key rule once r.0.orders o w t)
    refused_layout_by status.WriteFault r o key rule w t calm = absurd (no_layout words c.files r.2.on r.2.budget key rule once r.2.ordered o w t)
    refused_layout_by status.DiskFault r o key rule w t calm = absurd (calm r.1)
    refused_layout_by status.NoMemory r o key rule w t calm = inr refl

    pub has_refuses_layout : RefusesLayout words c faults faults' answer
    has_refuses_layout o key rule w t calm quiet = elim h.closed [
      | inl x ↦ elim (refused_layout_by h.inner h.reason o key rule w t calm) [ inl e ↦ inl (x.0 ∙ e) | inr e ↦ inr (x.0 ∙ e) ]
      | inr x ↦ absurd (quiet x.1)
    ]

    excluded_by : (s : Status) → HasReason words c h.text s → (on : Setting) (budget : ℕ) (text : List ℕ) → Tells words c.files on budget → c.left ≡ Some text → ((p : Program) → IsSourceOf text p → ⊥)
        → (Rose c.read_faults c.read_faults' → ⊥) → (Rose c.disk_faults c.disk_faults' → ⊥) → ((r : Refusal) × (s ≡ status.Refused r)) ⊎ (s ≡ status.Unbuilt) ⊎ (s ≡ status.NoMemory)
    excluded_by (status.Done value turns) r on budget text t told never calm still = absurd (no_program text h.text c.left c.left' told r.0 never r.1.ran.program r.1.ran.source.is)
    excluded_by (status.Trap a turns) r on budget text t told never calm still = absurd (no_program text h.text c.left c.left' told r.0 never r.1.ran.program r.1.ran.source.is)
    excluded_by (status.Paused turns) r on budget text t told never calm still = absurd (no_program text h.text c.left c.left' told r.0 never r.1.ran.program r.1.ran.source.is)
    excluded_by (status.StackFull asked left) r on budget text t told never calm still = absurd (no_program text h.text c.left c.left' told r.0 never r.1.1.ran.program r.1.1.ran.source.is)
    excluded_by status.Usage r on budget text t told never calm still = absurd (r.0 t.order t.ordered)
    excluded_by (status.BadLayout key rule) r on budget text t told never calm still = absurd (bad_layout_told words c.files on budget key rule once r.0 t)
    excluded_by (status.Refused y) r on budget text t told never calm still = inl (y, refl)
    excluded_by status.Unbuilt r on budget text t told never calm still = inr (inl refl)
    excluded_by status.ReadFault r on budget text t told never calm still = absurd (calm r.1)
    excluded_by status.DiskFault r on budget text t told never calm still = absurd (still r.1)
    excluded_by status.WriteFault r on budget text t told never calm still = absurd (no_program text h.text c.left c.left' told r.0 never r.2.ran.program r.2.ran.source.is)
    excluded_by status.NoMemory r on budget text t told never calm still = inr (inr refl)

    pub has_excludes : Excludes words c faults faults' answer
    has_excludes on budget text t told calm still quiet never = elim h.closed [
      | inl w ↦ elim (excluded_by h.inner h.reason on budget text t told never calm still) [
        | inl x ↦ inl (x.0, w.0 ∙ x.1)
        | inr e ↦ elim e [ inl k ↦ inr (inl (w.0 ∙ k)) | inr k ↦ inr (inr (w.0 ∙ k)) ]
      ]
      | inr w ↦ absurd (quiet w.1)
    ]

    module _ (one : OneAnswer) where
      refused_by : (s : Status) → HasReason words c h.text s → (on : Setting) (budget : ℕ) (text : List ℕ) → Tells words c.files on budget → c.left ≡ Some text → (x : Refusal) → IsFirstRefusal text x
          → (Rose c.read_faults c.read_faults' → ⊥) → (Rose c.disk_faults c.disk_faults' → ⊥) → (s ≡ status.Refused x) ⊎ (s ≡ status.NoMemory)
      refused_by (status.Done value turns) r on budget text t told x f calm still = absurd (one.program_or_fault h.text r.1.ran.program x r.1.ran.source.is (same_fault text h.text c.left c.left' x told r.0 f))
      refused_by (status.Trap a turns) r on budget text t told x f calm still = absurd (one.program_or_fault h.text r.1.ran.program x r.1.ran.source.is (same_fault text h.text c.left c.left' x told r.0 f))
      refused_by (status.Paused turns) r on budget text t told x f calm still = absurd (one.program_or_fault h.text r.1.ran.program x r.1.ran.source.is (same_fault text h.text c.left c.left' x told r.0 f))
      refused_by (status.StackFull asked left) r on budget text t told x f calm still = absurd (one.program_or_fault h.text r.1.1.ran.program x r.1.1.ran.source.is (same_fault text h.text c.left c.left' x told r.0 f))
      refused_by status.Usage r on budget text t told x f calm still = absurd (r.0 t.order t.ordered)
      refused_by (status.BadLayout key rule) r on budget text t told x f calm still = absurd (bad_layout_told words c.files on budget key rule once r.0 t)
      refused_by (status.Refused y) r on budget text t told x f calm still = inl (ap status.Refused (one.fault h.text y x r.2 (same_fault text h.text c.left c.left' x told r.1 f)))
      refused_by status.Unbuilt r on budget text t told x f calm still = absurd (left_out_or_fault one h.text r.0.on x r.0.left_out (same_fault text h.text c.left c.left' x told r.1 f))
      refused_by status.ReadFault r on budget text t told x f calm still = absurd (calm r.1)
      refused_by status.DiskFault r on budget text t told x f calm still = absurd (still r.1)
      refused_by status.WriteFault r on budget text t told x f calm still = absurd (one.program_or_fault h.text r.2.ran.program x r.2.ran.source.is (same_fault text h.text c.left c.left' x told r.0 f))
      refused_by status.NoMemory r on budget text t told x f calm still = inr refl

      pub has_refuses : Refuses words c faults faults' answer
      has_refuses on budget text t told calm still quiet x f = elim h.closed [
        | inl w ↦ elim (refused_by h.inner h.reason on budget text t told x f calm still) [ inl e ↦ inl (w.0 ∙ e) | inr e ↦ inr (w.0 ∙ e) ]
        | inr w ↦ absurd (quiet w.1)
      ]

      unbuilt_by : (s : Status) → HasReason words c h.text s → (on : Setting) (budget : ℕ) (text : List ℕ) → Tells words c.files on budget → c.left ≡ Some text → IsLeftOut text on
          → (Rose c.read_faults c.read_faults' → ⊥) → (Rose c.disk_faults c.disk_faults' → ⊥) → (s ≡ status.Unbuilt) ⊎ (s ≡ status.NoMemory)
      unbuilt_by (status.Done value turns) r on budget text t told u calm still = absurd (ran_or_left_out words c.files on budget once one text h.text c.left c.left' told r.0 t u r.1.on r.1.budget r.1.ordered r.1.built r.1.ran.program r.1.ran.source.is)
      unbuilt_by (status.Trap a turns) r on budget text t told u calm still = absurd (ran_or_left_out words c.files on budget once one text h.text c.left c.left' told r.0 t u r.1.on r.1.budget r.1.ordered r.1.built r.1.ran.program r.1.ran.source.is)
      unbuilt_by (status.Paused turns) r on budget text t told u calm still = absurd (ran_or_left_out words c.files on budget once one text h.text c.left c.left' told r.0 t u r.1.on r.1.budget r.1.ordered r.1.built r.1.ran.program r.1.ran.source.is)
      unbuilt_by (status.StackFull asked left) r on budget text t told u calm still = absurd (ran_or_left_out words c.files on budget once one text h.text c.left c.left' told r.0 t u r.1.1.on r.1.1.budget r.1.1.ordered r.1.1.built r.1.1.ran.program r.1.1.ran.source.is)
      unbuilt_by status.Usage r on budget text t told u calm still = absurd (r.0 t.order t.ordered)
      unbuilt_by (status.BadLayout key rule) r on budget text t told u calm still = absurd (bad_layout_told words c.files on budget key rule once r.0 t)
      unbuilt_by (status.Refused y) r on budget text t told u calm still = absurd (left_out_or_fault one h.text on y (same_left_out text h.text c.left c.left' on told r.1 u) r.2)
      unbuilt_by status.Unbuilt r on budget text t told u calm still = inl refl
      unbuilt_by status.ReadFault r on budget text t told u calm still = absurd (calm r.1)
      unbuilt_by status.DiskFault r on budget text t told u calm still = absurd (still r.1)
      unbuilt_by status.WriteFault r on budget text t told u calm still = absurd (ran_or_left_out words c.files on budget once one text h.text c.left c.left' told r.0 t u r.2.on r.2.budget r.2.ordered r.2.built r.2.ran.program r.2.ran.source.is)
      unbuilt_by status.NoMemory r on budget text t told u calm still = inr refl

      pub has_leaves_unbuilt : LeavesUnbuilt words c faults faults' answer
      has_leaves_unbuilt on budget text t told calm still quiet u = elim h.closed [
        | inl w ↦ elim (unbuilt_by h.inner h.reason on budget text t told u calm still) [ inl e ↦ inl (w.0 ∙ e) | inr e ↦ inr (w.0 ∙ e) ]
        | inr w ↦ absurd (quiet w.1)
      ]

      module _ (on : Setting) (budget : ℕ) (text : List ℕ) (p : Program) (t : Tells words c.files on budget) (told : c.left ≡ Some text) (source : IsSourceOf text p) (built : IsBuilt on) where
        ran_so : (e : ByteEnd) (turns : ℕ) (s : Status) → s ≡ status_of_end turns e → HasRead c.left c.left' h.text → Ran words c.files h.text c.held c.held' e turns → IsRun p on budget s
        ran_so e turns s is_end r k =
            let same = same_text text h.text c.left c.left' told source.accepted.tokens.0 r in
            let is : IsSourceOf h.text p = (let P : List ℕ → Type 0 = λ x. IsSourceOf x p in subst P (sym same) source) in
            let program : p ≡ k.ran.program = k.ran.source.only p is in
            let within = told_once words c.files k.on on k.budget budget once k.ordered t in
            let there : IsRun k.ran.program k.on k.budget s = record {
              flat = k.ran.ran.flat;
              compiled = k.ran.ran.compiled;
              run = run_by e turns k.ran.ran.ran.output;
              runs = k.ran.ran.ran.run;
              answer_is = is_end;
              agrees = k.ran.ran.agrees;
            } in
            let P : Program → Type 0 = λ q. IsRun q k.on k.budget s in
            let Q : Setting → Type 0 = λ x. IsRun p x k.budget s in
            let R : ℕ → Type 0 = λ b. IsRun p on b s in
            subst R within.budget_is (subst Q within.on_is (subst P (sym program) there))

        completed_by : (s : Status) → HasReason words c h.text s → (Rose c.read_faults c.read_faults' → ⊥) → (Rose c.disk_faults c.disk_faults' → ⊥) → (Rose c.write_faults c.write_faults' → ⊥) → IsRun p on budget s ⊎ (s ≡ status.NoMemory)
        completed_by (status.Done value turns) r calm still quiet = inl (ran_so (Ended value) turns (status.Done value turns) refl r.0 r.1)
        completed_by (status.Trap a turns) r calm still quiet = inl (ran_so (Trap a) turns (status.Trap a turns) refl r.0 r.1)
        completed_by (status.Paused turns) r calm still quiet = inl (ran_so Paused turns (status.Paused turns) refl r.0 r.1)
        completed_by (status.StackFull asked left) r calm still quiet = inl (ran_so (StackFull asked left) r.1.0 (status.StackFull asked left) refl r.0 r.1.1)
        completed_by status.Usage r calm still quiet = absurd (r.0 t.order t.ordered)
        completed_by (status.BadLayout key rule) r calm still quiet = absurd (bad_layout_told words c.files on budget key rule once r.0 t)
        completed_by (status.Refused x) r calm still quiet =
            let same = same_text text h.text c.left c.left' told source.accepted.tokens.0 r.1 in
            absurd (one.program_or_fault h.text p x (let P : List ℕ → Type 0 = λ x. IsSourceOf x p in subst P (sym same) source) r.2)
        completed_by status.Unbuilt r calm still quiet =
            let same = same_text text h.text c.left c.left' told source.accepted.tokens.0 r.1 in
            let within = told_once words c.files r.0.on on r.0.budget budget once r.0.orders t in
            absurd (built_or_left_out one h.text p r.0.on (let P : List ℕ → Type 0 = λ x. IsSourceOf x p in subst P (sym same) source) (subst IsBuilt (sym within.on_is) built) r.0.left_out)
        completed_by status.ReadFault r calm still quiet = absurd (calm r.1)
        completed_by status.DiskFault r calm still quiet = absurd (still r.1)
        completed_by status.WriteFault r calm still quiet = absurd (quiet r.1)
        completed_by status.NoMemory r calm still quiet = inr refl

      pub has_completes : Completes words c faults faults' answer
      has_completes on budget text t told calm still quiet p source built dry = elim h.closed [
        | inl w ↦ (let P : Status → Type 0 = λ s. IsRun p on budget s ⊎ (s ≡ status.NoMemory) in subst P (sym w.0) (completed_by on budget text p t told source built h.inner h.reason calm still dry))
        | inr w ↦ absurd (quiet w.1)
      ]

      -- an end that agrees with a meaning without an act is the meaning's
      as_meant : (m : Meaning) (r : ByteRun) (e : ByteEnd) → ((a : Act) → m.ending ≡ meaning.Met a → ⊥) → EndAgrees m r e
          → (status_of_end r.turns e ≡ status_of_meaning m.turns m.ending) ⊎ ((asked left : ℕ) × (status_of_end r.turns e ≡ status.StackFull asked left))
      as_meant m r (Ended z) never (inl act) = absurd (never act.act act.meets)
      as_meant m r (Ended z) never (inr same) = inl (rw (same.ending_is, same.turns_are) refl)
      as_meant m r (Trap a) never act = absurd (never act.act act.meets)
      as_meant m r (StackFull asked left) never agrees = inr (asked, left, refl)
      as_meant m r Paused never (inl act) = absurd (never act.act act.meets)
      as_meant m r Paused never (inr same) = inl (rw (same.ending_is, same.turns_are) refl)

      pub has_completes_as_meant : CompletesAsMeant words c faults faults' answer
      has_completes_as_meant on budget text t told calm still quiet p source built dry never = elim (has_completes on budget text t told calm still quiet p source built dry) [
        | inl run ↦ elim (as_meant (meaning_on on p budget) run.run run.run.ending never run.agrees) [ inl e ↦ inl (run.answer_is ∙ e) | inr e ↦ inr (inl (e.0, e.1, run.answer_is ∙ e.2)) ]
        | inr e ↦ inr (inr e)
      ]

  pub has_line_or_prefix : HasLine words c err err' answer ⊎ (Rose faults faults' × HasLinePrefix words c err err')
  has_line_or_prefix = elim h.closed [
    | inl w ↦ (let P : Status → Type 0 = λ x. HasLine words c err err' x in inl (subst P (sym w.0) (record { text = h.text; reason = h.reason; line = w.1 })))
    | inr w ↦ inr (w.1, record { inner = h.inner; text = h.text; reason = h.reason; line = w.2 })
  ]

  pub has_line : (Rose faults faults' → ⊥) → HasLine words c err err' answer
  has_line calm = elim has_line_or_prefix [ inl l ↦ l | inr w ↦ absurd (calm w.0) ]
