-- What the effect of a command may be.
use Rattle.std.proofs.Common.{◌≡◌, ◌≤◌, ◌<◌, ℕ, ℤ, pos, Bool, true, false, List, length, arith, refl, rules}
use Rattle.std.proofs.lemmas.Grind.{common_steps}
use Rattle.std.proofs.lemmas.Bool.Decides.{nat_tests}
use Rattle.std.proofs.lemmas.Option.{slice_get_within}
use Rattle.std.specs.Prelude.{IsTrue, slice_get, if◌then◌else◌, Some, None, Result, Ok, Err, ⊤}
use Rattle.std.specs.Ordering.{int_eq}
use Rattle.std.specs.declared.option.Option.{Option}
use Rattle.porch_types.specs.declared.shapes.Kind.TheVariants.{Int}
use Rattle.porch_values.specs.declared.acts.Act.{Act}
use Rattle.porch_values.specs.declared.acts.Op.{Op}
use Rattle.porch_values.specs.declared.acts.Op.TheVariants.{Add, Sub, Mul}
use Rattle.porch_values.specs.declared.widths.Widths.{Widths}
use Rattle.porch_values.specs.Integers.{applied}
use Rattle.porch_flat.specs.declared.flat.Operand.{Operand}
use Rattle.porch_flat.specs.declared.flat.Operand.TheVariants.{Var, Constant}
use Rattle.porch_flat.specs.declared.flat.Command.{Command}
use Rattle.porch_flat.specs.declared.flat.Command.TheVariants as command
use Rattle.porch_flat.specs.declared.flat.Function.{Function}
use Rattle.porch_flat.specs.Labelled.{place_in}
use Rattle.porch_flat.specs.Places.{place_of_label}
use Rattle.porch_flat.specs.Valid.{IsMain, IsOperand, HasParts}
use Rattle.porch_abstract.specs.declared.effects.Effect.{Effect}
use Rattle.porch_abstract.specs.declared.effects.Effect.TheVariants.{On, Set, Show, Go, Count, End, Meet}
use Rattle.porch_flat.specs.Parts.{counts}
use Rattle.porch_abstract.specs.inside.Effects.{IsInt, AreInts, given, operand_in, operated, place_of, set_to, effect_of}

int_operand : (f : Function) (o : Operand) → IsOperand f o → IsInt o
int_operand f (Var v) h = tt
int_operand f (Constant z) h = h

ints_of : (f : Function) (c : Command) → HasParts f c → AreInts c
ints_of f (command.Move v o) h = int_operand f o h.1
ints_of f (command.Add v a b) h = (int_operand f a h.1, int_operand f b h.2)
ints_of f (command.Sub v a b) h = (int_operand f a h.1, int_operand f b h.2)
ints_of f (command.Mul v a b) h = (int_operand f a h.1, int_operand f b h.2)
ints_of f (command.Lt v a b) h = (int_operand f a h.1, int_operand f b h.2)
ints_of f (command.Char v o) h = int_operand f o h.1
ints_of f (command.Label n) h = tt
ints_of f (command.Jump n) h = tt
ints_of f (command.If o n) h = int_operand f o h.0
ints_of f command.Turn h = tt
ints_of f (command.Return None) h = tt
ints_of f (command.Return (Some o)) h = int_operand f o h

-- each constant of a command of main is an int
pub main_ints : (main : Function) (at : ℕ) (c : Command) → IsMain main → slice_get main.commands at ≡ Some c → AreInts c
main_ints main at c is h = ints_of main c (is.function.parts at c h)

-- a place behind a command is in range
pub place_behind : (commands : List Command) (at : ℕ) (c : Command) → slice_get commands at ≡ Some c → at < length commands
place_behind commands at c h = slice_get_within commands at c h

-- only a TURN counts one, and a jump leads into the function or to its end
abbrev pub IsAllowed : ℕ → Command → Effect → Type 0
IsAllowed count c On = ⊤
IsAllowed count c (Set v z) = ⊤
IsAllowed count c (Show v byte) = ⊤
IsAllowed count c (Go place) = place ≤ count
IsAllowed count c Count = counts (Some c) ≡ true
IsAllowed count c (End z) = ⊤
IsAllowed count c (Meet a) = ⊤

module _ (count : ℕ) (c : Command) where
  given-allowed : (x : Option ℤ) (more : ℤ → Effect) → ((z : ℤ) → IsAllowed count c (more z)) → IsAllowed count c (given x more)
  given-allowed None more h = tt
  given-allowed (Some z) more h = h z

  set-allowed : (v : ℕ) (r : Result ℤ Act) → IsAllowed count c (set_to v r)
  set-allowed v (Ok z) = tt
  set-allowed v (Err a) = tt

  operated-allowed : (op : Op) (w : Widths) (v : ℕ) (a b : Option ℤ) → IsAllowed count c (operated op w v a b)
  operated-allowed op w v a b = given-allowed a _ (λ x. given-allowed b _ (λ y. set-allowed v (applied op Int w x y)))

  if-allowed : (b : Bool) (place : ℕ) → place ≤ count → IsAllowed count c (if b then On else Go place)
  if-allowed true place h = tt
  if-allowed false place h = h

module _ (vars : List (Option ℤ)) (labels : List (ℕ × ℕ)) (w : Widths) (commands : List Command) (placed : (n : ℕ) → place_in labels n ≡ place_of_label commands n) where
  place_within : (n : ℕ) → place_of labels (length commands) n ≤ length commands
  place_within n = rw (placed n) (grind (arith, common_steps, nat_tests))

  pub allowed : (c : Command) → IsAllowed (length commands) c (effect_of vars labels (length commands) w c)
  allowed (command.Move v o) = given-allowed (length commands) (command.Move v o) (operand_in vars o) _ (λ z. tt)
  allowed (command.Add v a b) = operated-allowed (length commands) (command.Add v a b) Add w v (operand_in vars a) (operand_in vars b)
  allowed (command.Sub v a b) = operated-allowed (length commands) (command.Sub v a b) Sub w v (operand_in vars a) (operand_in vars b)
  allowed (command.Mul v a b) = operated-allowed (length commands) (command.Mul v a b) Mul w v (operand_in vars a) (operand_in vars b)
  allowed (command.Lt v a b) = given-allowed (length commands) (command.Lt v a b) (operand_in vars a) _ (λ x. given-allowed (length commands) (command.Lt v a b) (operand_in vars b) _ (λ y. tt))
  allowed (command.Char v o) = given-allowed (length commands) (command.Char v o) (operand_in vars o) _ (λ z. tt)
  allowed (command.Label n) = tt
  allowed (command.Jump n) = place_within n
  allowed (command.If o n) = given-allowed (length commands) (command.If o n) (operand_in vars o) _ (λ z. if-allowed (length commands) (command.If o n) (int_eq z (pos 0)) _ (place_within n))
  allowed command.Turn = refl
  allowed (command.Return None) = tt
  allowed (command.Return (Some o)) = given-allowed (length commands) (command.Return (Some o)) (operand_in vars o) _ (λ z. tt)

counts_when : (count : ℕ) (c : Command) (effect : Effect) → IsAllowed count c effect → effect ≡ Count → IsTrue (counts (Some c))
counts_when count c On h e = cc
counts_when count c (Set v z) h e = cc
counts_when count c (Show v byte) h e = cc
counts_when count c (Go place) h e = cc
counts_when count c Count h e = search (rules, h)
counts_when count c (End z) h e = cc
counts_when count c (Meet a) h e = cc

-- an effect that counts a turn is that of a TURN
pub counted_turn : (vars : List (Option ℤ)) (labels : List (ℕ × ℕ)) (w : Widths) (commands : List Command) (c : Command) → ((n : ℕ) → place_in labels n ≡ place_of_label commands n)
    → effect_of vars labels (length commands) w c ≡ Count → IsTrue (counts (Some c))
counted_turn vars labels w commands c placed h =
    counts_when (length commands) c (effect_of vars labels (length commands) w c) (allowed vars labels w commands placed c) h
