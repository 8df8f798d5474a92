-- Parts of a program, as the definitions of more than one crate cite them.
use Rattle.std.specs.Prelude.{ℕ, Bool, true, false, List, [], slice_get, Option, Some, None}
use Rattle.porch_types.specs.declared.shapes.Kind.{Kind}
use Rattle.porch_types.specs.declared.shapes.Kind.TheVariants.{Int}
use Rattle.porch_types.specs.declared.shapes.Ty.{Ty}
use Rattle.porch_types.specs.declared.shapes.Ty.TheVariants.{Whole}
use Rattle.porch_flat.specs.declared.flat.Command.{Command}
use Rattle.porch_flat.specs.declared.flat.Command.TheVariants as command
use Rattle.porch_flat.specs.declared.flat.Function.{Function}
use Rattle.porch_flat.specs.declared.flat.Flat.{Flat}

-- the commands of a function, and none where there is no such function
abbrev pub commands_of : Option Function → List Command
commands_of None = []
commands_of (Some f) = f.commands

-- the types of its variables
abbrev pub vars_of : Option Function → List ℕ
vars_of None = []
vars_of (Some f) = f.vars

-- the command at a place of a function
abbrev pub command_at : Flat → (function place : ℕ) → Option Command
command_at flat function place = slice_get (commands_of (slice_get flat.functions function)) place

-- the kind of a type, and int where it isn't an integer
abbrev pub kind_of : Option Ty → Kind
kind_of (Some (Whole kind)) = kind
kind_of _ = Int

-- a command that counts a turn
abbrev pub counts : Option Command → Bool
counts (Some command.Turn) = true
counts _ = false
