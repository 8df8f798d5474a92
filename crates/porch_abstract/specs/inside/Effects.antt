-- What a command does where all variables are ints, computed from their values. That it
-- is what the machine does is proved.
use Rattle.std.specs.Prelude.{ℕ, ℤ, pos, IsTrue, List, slice_get, unwrap_or, if◌then◌else◌, Option, Some, None, Result, Ok, Err, ⊤}
use Rattle.std.specs.Ordering.{int_eq}
use Rattle.porch_types.specs.declared.shapes.Kind.TheVariants.{Int}
use Rattle.porch_values.specs.declared.acts.Act.{Act}
use Rattle.porch_values.specs.declared.acts.Act.TheVariants.{Indeterminate}
use Rattle.porch_values.specs.declared.acts.Op.{Op}
use Rattle.porch_values.specs.declared.acts.Op.TheVariants.{Add, Sub, Mul}
use Rattle.porch_values.specs.declared.widths.Widths.{Widths}
use Rattle.porch_values.specs.Integers.{applied, in_range}
use Rattle.porch_objects.specs.Meaning.{truth, byte_of}
use Rattle.porch_flat.specs.declared.flat.Operand.{Operand}
use Rattle.porch_flat.specs.declared.flat.Operand.TheVariants.{Var, Constant}
use Rattle.porch_flat.specs.declared.flat.Command.{Command}
use Rattle.porch_flat.specs.declared.flat.Command.TheVariants as command
use Rattle.porch_flat.specs.Labelled.{place_in}
use Rattle.porch_abstract.specs.declared.effects.Effect.{Effect}
use Rattle.porch_abstract.specs.declared.effects.Effect.TheVariants.{On, Set, Show, Go, Count, End, Meet}

-- a constant is an int
abbrev pub IsInt : Operand → Type 0
IsInt (Var v) = ⊤
IsInt (Constant z) = IsTrue (in_range Int 32 z)

-- each constant of a command is an int
abbrev pub AreInts : Command → Type 0
AreInts (command.Move v o) = IsInt o
AreInts (command.Add v a b) = IsInt a × IsInt b
AreInts (command.Sub v a b) = IsInt a × IsInt b
AreInts (command.Mul v a b) = IsInt a × IsInt b
AreInts (command.Lt v a b) = IsInt a × IsInt b
AreInts (command.Char v o) = IsInt o
AreInts (command.Label n) = ⊤
AreInts (command.Jump n) = ⊤
AreInts (command.If o n) = IsInt o
AreInts command.Turn = ⊤
AreInts (command.Return None) = ⊤
AreInts (command.Return (Some o)) = IsInt o

-- what a variable holds
abbrev pub held : Option (Option ℤ) → Option ℤ
held None = None
held (Some value) = value

abbrev pub operand_in : List (Option ℤ) → Operand → Option ℤ
operand_in vars (Var v) = held (slice_get vars v)
operand_in vars (Constant z) = Some z

-- the place of a label, and the end where there is none
abbrev pub place_of : List (ℕ × ℕ) → ℕ → ℕ → ℕ
place_of labels count n = unwrap_or (place_in labels n) count

-- what is done with a value that is there
abbrev pub given : Option ℤ → (ℤ → Effect) → Effect
given None go = Meet Indeterminate
given (Some z) go = go z

abbrev pub set_to : ℕ → Result ℤ Act → Effect
set_to v (Ok z) = Set v z
set_to v (Err a) = Meet a

abbrev pub moved : ℕ → Option ℤ → Effect
moved v x = given x (λ z. Set v z)

abbrev pub operated : Op → Widths → ℕ → Option ℤ → Option ℤ → Effect
operated op w v a b = given a (λ x. given b (λ y. set_to v (applied op Int w x y)))

abbrev pub compared : ℕ → Option ℤ → Option ℤ → Effect
compared v a b = given a (λ x. given b (λ y. Set v (truth x y)))

abbrev pub shown : ℕ → Option ℤ → Effect
shown v x = given x (λ z. Show v (byte_of z))

abbrev pub branched : Option ℤ → ℕ → Effect
branched x place = given x (λ z. if int_eq z (pos 0) then On else Go place)

abbrev pub ended : Option ℤ → Effect
ended x = given x (λ z. End z)

abbrev pub returned : List (Option ℤ) → Option Operand → Effect
returned vars None = End (pos 0)
returned vars (Some o) = ended (operand_in vars o)

module _ (vars : List (Option ℤ)) (labels : List (ℕ × ℕ)) (count : ℕ) (w : Widths) where
  abbrev pub effect_of : Command → Effect
  effect_of (command.Move v o) = moved v (operand_in vars o)
  effect_of (command.Add v a b) = operated Add w v (operand_in vars a) (operand_in vars b)
  effect_of (command.Sub v a b) = operated Sub w v (operand_in vars a) (operand_in vars b)
  effect_of (command.Mul v a b) = operated Mul w v (operand_in vars a) (operand_in vars b)
  effect_of (command.Lt v a b) = compared v (operand_in vars a) (operand_in vars b)
  effect_of (command.Char v o) = shown v (operand_in vars o)
  effect_of (command.Label n) = On
  effect_of (command.Jump n) = Go (place_of labels count n)
  effect_of (command.If o n) = branched (operand_in vars o) (place_of labels count n)
  effect_of command.Turn = Count
  effect_of (command.Return value) = returned vars value

  -- behind the last command main returns without a value
  abbrev pub effect_at : Option Command → Effect
  effect_at None = End (pos 0)
  effect_at (Some c) = effect_of c
