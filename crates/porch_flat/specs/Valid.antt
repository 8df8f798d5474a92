-- Which flat programs are valid. Each rule speaks of the function that a command stands in.
use Rattle.std.specs.Prelude.{ℕ, ◌≡◌, ◌<◌, ◌≤◌, ◌+◌, ◌^◌, ◌⊎◌, List, [], ◌∷◌, length, slice_get, codes, All, IsTrue, Some, None, ⊤}
use Rattle.porch_types.specs.declared.shapes.Kind.TheVariants.{Int}
use Rattle.porch_types.specs.Leaves.{kind_types}
pub use Rattle.porch_types.specs.Kinds.{int_type}
use Rattle.porch_values.specs.Integers.{in_range}
use Rattle.porch_flat.specs.declared.flat.Operand.{Operand}
use Rattle.porch_flat.specs.declared.flat.Operand.TheVariants.{Var, Constant}
use Rattle.porch_flat.specs.declared.flat.Command.{Command}
use Rattle.porch_flat.specs.declared.flat.Command.TheVariants as command
use Rattle.porch_flat.specs.declared.flat.Function.{Function}
use Rattle.porch_flat.specs.declared.flat.Flat.{Flat}
use Rattle.porch_flat.specs.declared.valid.ValidFault.{ValidFault}
use Rattle.porch_flat.specs.declared.valid.ValidFault.TheVariants.{NotValid, NoMemory}
use Rattle.porch_flat.specs.Places.{place_of_label}

-- Number and Constant: a variable exists, a constant is an int.
abbrev pub IsOperand : Function → Operand → Type 0
IsOperand f (Var v) = v < length f.vars
IsOperand f (Constant z) = IsTrue (in_range Int 32 z)

-- Number and Constant, for each part of a command
abbrev pub HasParts : Function → Command → Type 0
HasParts f (command.Move v o) = (v < length f.vars) × IsOperand f o
HasParts f (command.Add v a b) = (v < length f.vars) × IsOperand f a × IsOperand f b
HasParts f (command.Sub v a b) = (v < length f.vars) × IsOperand f a × IsOperand f b
HasParts f (command.Mul v a b) = (v < length f.vars) × IsOperand f a × IsOperand f b
HasParts f (command.Lt v a b) = (v < length f.vars) × IsOperand f a × IsOperand f b
HasParts f (command.Char v o) = (v < length f.vars) × IsOperand f o
HasParts f (command.Label n) = n < 2 ^ 31
HasParts f (command.Jump n) = n < 2 ^ 31
HasParts f (command.If o n) = IsOperand f o × (n < 2 ^ 31)
HasParts f command.Turn = ⊤
HasParts f (command.Return None) = ⊤
HasParts f (command.Return (Some o)) = IsOperand f o

-- Jump: the label is there, and a jump backward leads to a label that a TURN follows at once.
abbrev pub Leads : List Command → ℕ → ℕ → Type 0
Leads commands from n =
    (to : ℕ) × (place_of_label commands n ≡ Some to) × ((from < to) ⊎ (slice_get commands (to + 1) ≡ Some command.Turn))

-- Jump, for a command that stands at a place: no label stands a second time
abbrev pub GoesOnWell : List Command → ℕ → Command → Type 0
GoesOnWell commands at (command.Label n) = place_of_label commands n ≡ Some at
GoesOnWell commands at (command.Jump n) = Leads commands at n
GoesOnWell commands at (command.If o n) = Leads commands at n
GoesOnWell commands at _ = ⊤

-- a function that breaks no rule
pub record IsFunction (f : Function) : Type 0 where
  pub few : length f.vars ≤ 2 ^ 31
  pub parts : (at : ℕ) (c : Command) → slice_get f.commands at ≡ Some c → HasParts f c
  pub jumps : (at : ℕ) (c : Command) → slice_get f.commands at ≡ Some c → GoesOnWell f.commands at c

-- Main, and what is built so far: a program is one function `main`, whose variables are ints.
pub record IsMain (f : Function) : Type 0 where
  pub named : f.name ≡ codes "main"
  pub result_is : f.result ≡ Some int_type
  pub params_are : f.params ≡ 0
  pub ints : All (λ ty. ty ≡ int_type) f.vars
  pub function : IsFunction f

pub record IsValid (flat : Flat) : Type 0 where
  pub types_are : flat.types ≡ kind_types
  pub globals_are : flat.globals ≡ []
  pub main : Function
  pub only : flat.functions ≡ main ∷ []
  pub good : IsMain main

-- a refusal of a program that isn't valid
abbrev pub IsRefused : Flat → ValidFault → Type 0
IsRefused flat NotValid = IsValid flat → ⊥
IsRefused flat NoMemory = ⊤
