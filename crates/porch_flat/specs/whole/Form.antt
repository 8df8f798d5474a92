-- What a command is, whatever its name: one form over which every table goes.
use Rattle.std.specs.Prelude.{ℕ, Bool, true, false, List, [], ◌∷◌, Option, Some, None}
use Rattle.porch_values.specs.declared.acts.Op.{Op}
use Rattle.porch_values.specs.declared.acts.Op.TheVariants as op
use Rattle.porch_flat.specs.declared.flat.Operand.{Operand}
use Rattle.porch_flat.specs.declared.whole.Command.{Command}
use Rattle.porch_flat.specs.declared.whole.Command.TheVariants as command
use Rattle.porch_flat.specs.declared.whole.Comparison.{Comparison}
use Rattle.porch_flat.specs.declared.whole.Comparison.TheVariants.{Less, LessEqual, Equal, NotEqual}
use Rattle.porch_flat.specs.declared.whole.Direction.{Direction}
use Rattle.porch_flat.specs.declared.whole.Direction.TheVariants.{Forward, Back}
use Rattle.porch_flat.specs.declared.whole.Display.{Display}
use Rattle.porch_flat.specs.declared.whole.Display.TheVariants as display

-- what a leaf is counted in
pub data Within : Type 0 where
  variable : ℕ → Within
  global : ℕ → Within
  -- what the variable points to
  pointee : ℕ → Within

pub data Form : Type 0 where
  move : (target : ℕ) → Operand → Form
  cast : (target source : ℕ) → Form
  operator : Op → (target : ℕ) → (left right : Operand) → Form
  complement : (target : ℕ) → Operand → Form
  comparison : Comparison → (target : ℕ) → (left right : Operand) → Form
  -- a pointer to the subobject at a leaf
  subobject : (target : ℕ) → Within → (leaf : ℕ) → Form
  step : Direction → (target pointer : ℕ) → Operand → Form
  difference : (target left right : ℕ) → Form
  load : (target pointer : ℕ) → Form
  store : (pointer : ℕ) → Operand → Form
  copy : (to from : ℕ) → Form
  kill : (target : ℕ) → Form
  allocate : (zeroed : Bool) → (target : ℕ) → (count : Operand) → Form
  free : (pointer : ℕ) → Form
  show : Display → (target : ℕ) → Operand → Form
  text : (target pointer : ℕ) → Form
  label : (number : ℕ) → Form
  jump : (to : ℕ) → Form
  branch : Operand → (to : ℕ) → Form
  turn : Form
  call : (target : Option ℕ) → (function : ℕ) → List Operand → Form
  return : Option Operand → Form
  checkpoint : Form
  restore : (variables : List ℕ) → Form
  table : (number to : ℕ) → Form
  saved : (number to : ℕ) → Form
  push : (variables : List ℕ) → Form

abbrev pub form_of : Command → Form
form_of (command.Move v o) = move v o
form_of (command.Cast v w) = cast v w
form_of (command.Add v a b) = operator op.Add v a b
form_of (command.Sub v a b) = operator op.Sub v a b
form_of (command.Mul v a b) = operator op.Mul v a b
form_of (command.Div v a b) = operator op.Div v a b
form_of (command.Rem v a b) = operator op.Rem v a b
form_of (command.And v a b) = operator op.And v a b
form_of (command.Or v a b) = operator op.Or v a b
form_of (command.Xor v a b) = operator op.Xor v a b
form_of (command.Shl v a b) = operator op.Shl v a b
form_of (command.Shr v a b) = operator op.Shr v a b
form_of (command.Not v o) = complement v o
form_of (command.Lt v a b) = comparison Less v a b
form_of (command.Le v a b) = comparison LessEqual v a b
form_of (command.Eq v a b) = comparison Equal v a b
form_of (command.Ne v a b) = comparison NotEqual v a b
form_of (command.Local v w leaf) = subobject v (variable w) leaf
form_of (command.GlobalA v g leaf) = subobject v (global g) leaf
form_of (command.Member v p leaf) = subobject v (pointee p) leaf
form_of (command.Step v p o) = step Forward v p o
form_of (command.Back v p o) = step Back v p o
form_of (command.Diff v p q) = difference v p q
form_of (command.Load v p) = load v p
form_of (command.Store p o) = store p o
form_of (command.Copy p q) = copy p q
form_of (command.Kill v) = kill v
form_of (command.Alloc v o) = allocate false v o
form_of (command.Calloc v o) = allocate true v o
form_of (command.Free p) = free p
form_of (command.Char v o) = show display.Char v o
form_of (command.Dec v o) = show display.Dec v o
form_of (command.Hex v o) = show display.Hex v o
form_of (command.Text v p) = text v p
form_of (command.Label n) = label n
form_of (command.Jump n) = jump n
form_of (command.If o n) = branch o n
form_of command.Turn = turn
form_of (command.Call r f os) = call r f os
form_of (command.Return o) = return o
form_of command.Checkpoint = checkpoint
form_of (command.Restore vs) = restore vs
form_of (command.Table k n) = table k n
form_of (command.Saved k n) = saved k n
form_of (command.Push vs) = push vs

abbrev pub operand_list : Option Operand → List Operand
operand_list None = []
operand_list (Some o) = o ∷ []

abbrev pub number_list : Option ℕ → List ℕ
number_list None = []
number_list (Some n) = n ∷ []

-- the operands, in the order of the text
abbrev pub operands_of : Form → List Operand
operands_of (move v o) = o ∷ []
operands_of (operator o v a b) = a ∷ b ∷ []
operands_of (complement v o) = o ∷ []
operands_of (comparison c v a b) = a ∷ b ∷ []
operands_of (step way v p o) = o ∷ []
operands_of (store p o) = o ∷ []
operands_of (allocate zeroed v o) = o ∷ []
operands_of (show how v o) = o ∷ []
operands_of (branch o n) = o ∷ []
operands_of (call r f os) = os
operands_of (return o) = operand_list o
operands_of form = []

abbrev pub variable_of : Within → List ℕ
variable_of (variable w) = w ∷ []
variable_of (global g) = []
variable_of (pointee p) = p ∷ []

-- the variables that are named besides the operands
abbrev pub variables_of : Form → List ℕ
variables_of (move v o) = v ∷ []
variables_of (cast v w) = v ∷ w ∷ []
variables_of (operator o v a b) = v ∷ []
variables_of (complement v o) = v ∷ []
variables_of (comparison c v a b) = v ∷ []
variables_of (subobject v within leaf) = v ∷ variable_of within
variables_of (step way v p o) = v ∷ p ∷ []
variables_of (difference v p q) = v ∷ p ∷ q ∷ []
variables_of (load v p) = v ∷ p ∷ []
variables_of (store p o) = p ∷ []
variables_of (copy p q) = p ∷ q ∷ []
variables_of (kill v) = v ∷ []
variables_of (allocate zeroed v o) = v ∷ []
variables_of (free p) = p ∷ []
variables_of (show how v o) = v ∷ []
variables_of (text v p) = v ∷ p ∷ []
variables_of (call r f os) = number_list r
variables_of (restore vs) = vs
variables_of (push vs) = vs
variables_of form = []

-- the labels and call numbers that are named
abbrev pub free_numbers_of : Form → List ℕ
free_numbers_of (label n) = n ∷ []
free_numbers_of (jump n) = n ∷ []
free_numbers_of (branch o n) = n ∷ []
free_numbers_of (table k n) = k ∷ n ∷ []
free_numbers_of (saved k n) = k ∷ n ∷ []
free_numbers_of form = []

-- the label that a command may go on at
abbrev pub jump_of : Form → Option ℕ
jump_of (jump n) = Some n
jump_of (branch o n) = Some n
jump_of form = None

-- the label that stands here
abbrev pub label_of : Form → Option ℕ
label_of (label n) = Some n
label_of form = None

-- a command that counts a turn wherever it is reached; a call counts one too, but where a frame is rebuilt
abbrev pub is_turn : Form → Bool
is_turn turn = true
is_turn form = false

-- a command for saving and rebuilding frames
abbrev pub is_mode : Form → Bool
is_mode (restore vs) = true
is_mode (table k n) = true
is_mode (saved k n) = true
is_mode (push vs) = true
is_mode form = false
