-- Parts of the rules, as they are checked.
use Rattle.std.specs.Prelude.{ℕ, ◌≡◌, ◌<◌, codes, slice_get, All, Some}
use Rattle.porch_flat.specs.declared.flat.Command.{Command}
use Rattle.porch_flat.specs.declared.flat.Function.{Function}
use Rattle.porch_flat.specs.Valid.{HasParts, GoesOnWell, int_type}

-- the rules of a command that stands at a place
pub record IsCommand (f : Function) (at : ℕ) (c : Command) : Type 0 where
  pub parts : HasParts f c
  pub jumps : GoesOnWell f.commands at c

-- the rules of the first commands
pub record AreCommands (f : Function) (count : ℕ) : Type 0 where
  pub each : (at : ℕ) (c : Command) → at < count → slice_get f.commands at ≡ Some c → IsCommand f at c

-- the rules of main, but for those of each function
pub record HasMainHead (f : Function) : Type 0 where
  pub named : f.name ≡ codes "main"
  pub result_is : f.result ≡ Some int_type
  pub params_are : f.params ≡ 0
  pub ints : All (λ ty. ty ≡ int_type) f.vars
