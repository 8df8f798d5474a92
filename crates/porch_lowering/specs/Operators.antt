-- The commands of operators, conversions and conditions.
use Rattle.std.specs.Prelude.{ℕ, ◌+◌, pos, nat_eq, nat_lt, Bool, true, false, not, ◌&&◌, ◌||◌, if◌then◌else◌, List, [], ◌∷◌, ◌++◌}
use Rattle.porch_types.specs.declared.shapes.Kind.TheVariants.{Char, Short, Int, UInt, Long, ULong}
use Rattle.porch_types.specs.Kinds.{kind_number}
use Rattle.porch_values.specs.declared.acts.Op.{Op}
use Rattle.porch_values.specs.declared.acts.Op.TheVariants as op
use Rattle.porch_flat.specs.declared.flat.Operand.{Operand}
use Rattle.porch_flat.specs.declared.flat.Operand.TheVariants.{Var, Constant}
use Rattle.porch_flat.specs.declared.whole.Command.{Command}
use Rattle.porch_flat.specs.declared.whole.Command.TheVariants as command
use Rattle.porch_typed.specs.declared.typed.Comparison.{Comparison}
use Rattle.porch_typed.specs.declared.typed.Comparison.TheVariants.{Less, Greater, LessEqual, GreaterEqual, Equal, NotEqual}
use Rattle.porch_typed.specs.declared.typed.Operator.{Operator}
use Rattle.porch_typed.specs.declared.typed.Operator.TheVariants as operator
use Rattle.porch_typed.specs.declared.typed.Unary.{Unary}
use Rattle.porch_typed.specs.declared.typed.Unary.TheVariants.{Plus, Minus, Complement}
use Rattle.porch_lowering.specs.Code.{InUse, and_one, Code, plain, then_commands, no_code, Held, held}
use Rattle.porch_lowering.specs.Values.{INT, LONG, Accepts, no_constant, constant_in}

-- the variable that an operand is
abbrev pub var_of : Operand → ℕ
var_of (Var v) = v
var_of (Constant z) = 0

-- char, short and their unsigned kinds
abbrev pub is_small : ℕ → Bool
is_small ty = nat_lt ty INT

-- the type that operators take a value of a type in: a small kind becomes int
abbrev pub promoted : ℕ → ℕ
promoted ty = if is_small ty then INT else ty

-- the type that each operand is converted to, where it has this one
abbrev pub left_type : Operator → ℕ → ℕ
left_type (operator.Arithmetic op kind) ty = kind_number kind
left_type (operator.Shift op kind) ty = kind_number kind
left_type (operator.Compare c kind) ty = kind_number kind
left_type (operator.ForwardOf to) ty = promoted ty
left_type op ty = ty

abbrev pub right_type : Operator → ℕ → ℕ
right_type (operator.Arithmetic op kind) ty = kind_number kind
right_type (operator.Shift op kind) ty = promoted ty
right_type (operator.Compare c kind) ty = kind_number kind
right_type (operator.Forward to) ty = promoted ty
right_type (operator.Back to) ty = promoted ty
right_type op ty = ty

-- which constants may be operands: a comparison's left one, and pointers that are stepped from, are variables
abbrev pub left_accepts : Operator → Accepts
left_accepts (operator.Arithmetic op kind) = constant_in kind
left_accepts (operator.Shift op kind) = constant_in kind
left_accepts (operator.ForwardOf ty) = constant_in Long
left_accepts op = no_constant

abbrev pub right_accepts : Operator → Accepts
right_accepts (operator.Arithmetic op kind) = constant_in kind
right_accepts (operator.Shift op kind) = constant_in Int
right_accepts (operator.Compare c kind) = constant_in kind
right_accepts (operator.ComparePointers c ty) = constant_in Int
right_accepts (operator.Forward ty) = constant_in Long
right_accepts (operator.Back ty) = constant_in Long
right_accepts op = no_constant

abbrev pub arithmetic : Op → (target : ℕ) → (left right : Operand) → Command
arithmetic op.Add d a b = command.Add d a b
arithmetic op.Sub d a b = command.Sub d a b
arithmetic op.Mul d a b = command.Mul d a b
arithmetic op.Div d a b = command.Div d a b
arithmetic op.Rem d a b = command.Rem d a b
arithmetic op.And d a b = command.And d a b
arithmetic op.Or d a b = command.Or d a b
arithmetic op.Xor d a b = command.Xor d a b
arithmetic op.Shl d a b = command.Shl d a b
arithmetic op.Shr d a b = command.Shr d a b

abbrev pub comparison : Comparison → (target : ℕ) → (left right : Operand) → Command
comparison Less d a b = command.Lt d a b
comparison Greater d a b = command.Lt d b a
comparison LessEqual d a b = command.Le d a b
comparison GreaterEqual d a b = command.Le d b a
comparison Equal d a b = command.Eq d a b
comparison NotEqual d a b = command.Ne d a b

-- the command of an operator whose operands are converted
abbrev pub operator_command : Operator → (target : ℕ) → (left right : Operand) → Command
operator_command (operator.Arithmetic op kind) d a b = arithmetic op d a b
operator_command (operator.Shift op kind) d a b = arithmetic op d a b
operator_command (operator.Compare c kind) d a b = comparison c d a b
operator_command (operator.ComparePointers c ty) d a b = comparison c d a b
operator_command (operator.Forward ty) d a b = command.Step d (var_of a) b
operator_command (operator.Back ty) d a b = command.Back d (var_of a) b
operator_command (operator.ForwardOf ty) d a b = command.Step d (var_of b) a
operator_command (operator.Difference ty) d a b = command.Diff d (var_of a) (var_of b)

-- whether an operand has to be converted; a constant stands for a value of each type that takes it
abbrev pub is_converted : Operand → (from to : ℕ) → Bool
is_converted (Constant z) from to = false
is_converted (Var v) from to = not (nat_eq from to)

-- the types of signed kinds
abbrev pub is_signed : ℕ → Bool
is_signed ty = nat_eq ty (kind_number Char) || nat_eq ty (kind_number Short) || nat_eq ty INT || nat_eq ty LONG

-- Whether a conversion may meet an act: to long where the greatest value has no place in 32 bits, and to unsigned long where a
-- value is negative.
abbrev pub may_fail : (from to : ℕ) → Bool
may_fail from to =
    nat_eq to LONG && (nat_eq from (kind_number UInt) || nat_eq from (kind_number ULong))
    || nat_eq to (kind_number ULong) && is_signed from

-- a value is used, which meets Indeterminate where there is none
abbrev pub used_commands : Operand → List Command
used_commands (Constant z) = []
used_commands (Var v) = command.Move v (Var v) ∷ []

abbrev pub commands_if : Bool → List Command → List Command
commands_if true commands = commands
commands_if false commands = []

abbrev pub used_if : Bool → InUse → (ty : ℕ) → InUse
used_if true used ty = and_one ty used
used_if false used ty = used

abbrev pub operand_if : Bool → (temporary : ℕ) → Operand → Operand
operand_if true t o = Var t
operand_if false t o = o

module _ (start : ℕ → ℕ) where
  -- the next free temporary of a type
  abbrev pub next_of : ℕ → InUse → ℕ
  next_of ty used = start ty + used ty

  -- An operator on two operands of these types. Where the conversion of one may meet an act, the other one is used before.
  abbrev pub operate : Operator → (target : ℕ) → (left : Operand) → (ty : ℕ) → (right : Operand) → (ty' : ℕ) → InUse → ℕ → Code
  operate op d a ty b ty' used label =
      let first = is_converted a ty (left_type op ty) in
      let second = is_converted b ty' (right_type op ty') in
      let t = next_of (left_type op ty) used in
      let with_left = used_if first used (left_type op ty) in
      let t' = next_of (right_type op ty') with_left in
      plain
      (commands_if (first && may_fail ty (left_type op ty)) (used_commands b)
      ++ (commands_if (not first && (second && may_fail ty' (right_type op ty'))) (used_commands a)
      ++ (commands_if first (command.Cast t (var_of a) ∷ [])
      ++ (commands_if second (command.Cast t' (var_of b) ∷ [])
      ++ operator_command op d (operand_if first t a) (operand_if second t' b) ∷ []))))
      (used_if second with_left (right_type op ty')) label

  -- a variable's value as an int or a wide value: a small kind is converted
  abbrev pub promote : (ty : ℕ) → Operand → InUse → ℕ → Held
  promote ty o used label =
      if is_small ty
      then held (plain (command.Cast (next_of INT used) (var_of o) ∷ []) (and_one INT used) label) (Var (next_of INT used)) (and_one INT used)
      else held (no_code used label) o used

  -- On at a label where a value of a type is true: an int is tested itself, and others against 0.
  abbrev pub branch_on : (ty : ℕ) → Operand → (to : ℕ) → InUse → ℕ → Code
  branch_on ty o to used label =
      if nat_eq ty INT then plain (command.If o to ∷ []) used label
      else (let t = next_of INT used in
      if is_small ty then plain (command.Cast t (var_of o) ∷ command.If (Var t) to ∷ []) (and_one INT used) label
      else plain (command.Ne t o (Constant (pos 0)) ∷ command.If (Var t) to ∷ []) (and_one INT used) label)

  -- whether a value is 0 or null
  abbrev pub negate : (target : ℕ) → (ty : ℕ) → Operand → InUse → ℕ → Code
  negate d ty o used label =
      let whole = promote ty o used label in then_commands whole.code (command.Eq d whole.operand (Constant (pos 0)) ∷ [])

  -- `+`, `-` and `~` of an operand in its kind
  abbrev pub unary_command : Unary → (target : ℕ) → Operand → Command
  unary_command Plus d o = command.Move d o
  unary_command Minus d o = command.Sub d (Constant (pos 0)) o
  unary_command Complement d o = command.Not d o

  -- of a value that is converted first; the conversion alone is all that `+` does
  abbrev pub operate_unary : Unary → (target : ℕ) → (kind : ℕ) → Operand → (ty : ℕ) → InUse → ℕ → Code
  operate_unary op d kind o ty used label =
      let converted = is_converted o ty kind in
      let t = next_of kind used in
      plain
      (commands_if converted (command.Cast t (var_of o) ∷ []) ++ unary_command op d (operand_if converted t o) ∷ [])
      (used_if converted used kind) label
