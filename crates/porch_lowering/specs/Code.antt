-- Commands in the making: how many temporaries are in use in them, and which labels they take.
--
-- A temporary has a type, and those of one type are numbered from 0 on. One is taken where a value is held, and is free
-- again behind the expression that it was held for.
use Rattle.std.specs.Prelude.{ℕ, ◌+◌, nat_eq, max, List, [], ◌++◌, if◌then◌else◌, Option, Some, None}
use Rattle.porch_flat.specs.declared.flat.Operand.{Operand}
use Rattle.porch_flat.specs.declared.flat.Operand.TheVariants.{Var}
use Rattle.porch_flat.specs.declared.whole.Command.{Command}

-- how many temporaries of each type are in use
abbrev pub InUse : Type 0
InUse = (ty : ℕ) → ℕ

abbrev pub none_in_use : InUse
none_in_use ty = 0

-- one more of a type
abbrev pub and_one : ℕ → InUse → InUse
and_one ty used t = if nat_eq t ty then used t + 1 else used t

abbrev pub at_most : InUse → InUse → InUse
at_most a b ty = max (a ty) (b ty)

pub record Code : Type 0 where
  pub commands : List Command
  -- the most temporaries of each type that are in use at once
  pub most : InUse
  -- the first label behind those that are taken
  pub label : ℕ

-- no commands, with such temporaries in use and labels free from one on
abbrev pub no_code : InUse → ℕ → Code
no_code used label = record { commands = []; most = used; label = label }

-- commands that take no label
abbrev pub plain : List Command → InUse → ℕ → Code
plain commands used label = record { commands = commands; most = used; label = label }

-- One piece of code, and then another one, whose labels come behind the first's.
abbrev pub then_code : Code → Code → Code
then_code a b = record { commands = a.commands ++ b.commands; most = at_most a.most b.most; label = b.label }

-- code, and then commands
abbrev pub then_commands : Code → List Command → Code
then_commands a commands = record { commands = a.commands ++ commands; most = a.most; label = a.label }

-- commands, and then code
abbrev pub commands_then : List Command → Code → Code
commands_then commands a = record { commands = commands ++ a.commands; most = a.most; label = a.label }

-- How an expression becomes code: the variable that its value goes to, or none where it is dropped; what is in use; and
-- the first free label.
abbrev pub Coder : Type 0
Coder = Option ℕ → InUse → (label : ℕ) → Code

-- What a value takes: the code that is made before it is there, the operand that it is then, and what is in use as long as
-- it is held.
pub record Held : Type 0 where
  pub code : Code
  pub operand : Operand
  pub used : InUse

abbrev pub held : Code → Operand → InUse → Held
held code operand used = record { code = code; operand = operand; used = used }

-- A value is held where it stands, or in a temporary, which its code goes to.
abbrev pub hold : Option Operand → (temporary ty : ℕ) → Coder → InUse → (label : ℕ) → Held
hold (Some o) t ty value used label = held (no_code used label) o used
hold None t ty value used label = held (value (Some t) (and_one ty used) label) (Var t) (and_one ty used)
