-- What is promised of rewriting.
use Rattle.std.specs.Prelude.{ℕ, ◌≡◌, ◌<◌, ◌≤◌, ◌^◌, ◌↔◌, length, Bool, true, false, count_by, slice_get, Option, Some, None}
use Rattle.porch_objects.specs.Meaning.{Environment, Meaning}
use Rattle.porch_flat.specs.declared.whole.Command.{Command}
use Rattle.porch_flat.specs.declared.whole.Flat.{Flat}
use Rattle.porch_flat.specs.declared.whole.Sort.TheVariants as sort
use Rattle.porch_flat.specs.whole.Form as form
use Rattle.porch_flat.specs.whole.Form.{Form, form_of}
use Rattle.porch_flat.specs.whole.Places.{command_at, commands_of, vars_of}
use Rattle.porch_flat.specs.whole.Rules.{IsValid}
use Rattle.porch_abstract.specs.whole.Run.{Means}
use Rattle.porch_rewrite.specs.Rewriting.{FIRST_LABEL, rewritten}

-- the label that stands in a command
abbrev pub label_named : Form → Option ℕ
label_named (form.label n) = Some n
label_named (form.jump n) = Some n
label_named (form.branch o n) = Some n
label_named other = None

-- each label of a program lies below those that are added
abbrev pub HasRoom : Flat → Type 0
HasRoom flat = (f place n : ℕ) (c : Command) → command_at flat f place ≡ Some c → label_named (form_of c) ≡ Some n → n < FIRST_LABEL

-- The rewritten program means what the plain one does.
abbrev pub SameMeaning : Type 0
SameMeaning = (flat : Flat) (under : Environment) (n : ℕ) (m : Meaning) → IsValid sort.Plain flat → HasRoom flat → Means flat under n m ↔ Means (rewritten flat) under n m

-- a command that takes a label of a function: its own, or one that is added
abbrev pub takes_label : Form → Bool
takes_label (form.label n) = true
takes_label (form.call into function arguments) = true
takes_label form.checkpoint = true
takes_label other = false

-- in each function there are fewer of them than labels can be added
abbrev pub HasFew : Flat → Type 0
HasFew flat = (f : ℕ) → count_by (λ c. takes_label (form_of c)) (commands_of (slice_get flat.functions f)) < FIRST_LABEL

-- The rewritten program keeps every rule where the plain one does.
abbrev pub KeepsRules : Type 0
KeepsRules = (flat : Flat) → IsValid sort.Plain flat → HasRoom flat → HasFew flat → IsValid sort.Rewritten (rewritten flat)

-- No function of a program that keeps its rules has more variables than there are numbers for them.
abbrev pub VariablesHaveNumbers : Type 0
VariablesHaveNumbers = (flat : Flat) → IsValid sort.Plain flat → (f : ℕ) → length (vars_of (slice_get flat.functions f)) ≤ 2 ^ 31
