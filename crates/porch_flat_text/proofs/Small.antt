-- What is read out of a line has numbers that fit, whatever the line is.
use Rattle.std.proofs.Common.{ℕ, ℤ, zero, suc, ◌+◌, ◌-◌, ◌*◌, ◌<◌, ◌≤◌, ◌^◌, min, Bool, true, false, cond, eqb, lit<, List, [], ◌∷◌, map, length, Option, Some, None, IfSome, arith}
use Rattle.std.specs.List.{AllByRecursion}
use Rattle.std.specs.Int.RustNames.{FitsSigned}
use mir.Syntax.{w128}
use lib.IntN.{pos, neg_ℤ}
use Rattle.porch_flat.specs.declared.flat.Operand.TheVariants.{Var, Constant}
use Rattle.porch_flat.specs.declared.whole.Command.{Command}
use Rattle.porch_flat_line.specs.declared.word.Word.{Word}
use Rattle.porch_flat_line.specs.declared.word.Word.TheVariants as word
use Rattle.porch_flat_line.specs.Text.{Argument, variable, operand, target, result_type, operand_list, command_row}
use Rattle.porch_flat_text.specs.Fitting.{ArgumentFits, RowFits}
use Rattle.porch_flat_text.specs.inside.Numbers.{number_after, number_in, magnitude_in, constant_in, variable_in, operand_in, operand_if_any, target_in, result_type_in}
use Rattle.porch_flat_text.specs.inside.Cuts.{first, rest, each_in}
use Rattle.porch_flat_text.specs.inside.Commands.{fixed_command, command_from}

after_small : (most n : ℕ) (cs : List ℕ) → n ≤ most → number_after most n cs ≤ most
after_small most n [] low = low
after_small most n (c ∷ cs) low = after_small most (min (min (n * 10) most + (c - 48)) most) cs (omega arith)

pub number_fits : (s : List ℕ) → number_in s < 2 ^ 32
number_fits s = let h : number_in s ≤ 4294967295 = after_small 4294967295 0 s (omega arith) in omega (arith, h)

pub variable_fits : (s : List ℕ) → variable_in s < 2 ^ 32
variable_fits [] = lit< tt
variable_fits (c ∷ cs) = number_fits cs

negative_fits : (n : ℕ) → n ≤ 170141183460469231731687303715884105728 → FitsSigned w128 (neg_ℤ (pos n))
negative_fits zero low = omega arith
negative_fits (suc n) low = omega arith

by_sign : (b : Bool) (y z : ℤ) → FitsSigned w128 y → FitsSigned w128 z → FitsSigned w128 (cond b y z)
by_sign true y z h k = h
by_sign false y z h k = k

pub constant_fits : (s : List ℕ) → FitsSigned w128 (constant_in s)
constant_fits [] = omega arith
constant_fits (c ∷ cs) = by_sign (eqb c 45) _ _ (negative_fits (min (magnitude_in cs) 170141183460469231731687303715884105728) (omega arith)) (omega arith)

operand_by : (b : Bool) (v : ℕ) (z : ℤ) → v < 2 ^ 32 → FitsSigned w128 z → ArgumentFits (operand (cond b (Var v) (Constant z)))
operand_by true v z h k = h
operand_by false v z h k = k

pub operand_fits : (s : List ℕ) → ArgumentFits (operand (operand_in s))
operand_fits [] = constant_fits []
operand_fits (c ∷ cs) = operand_by (eqb c 118) (number_in cs) (constant_in (c ∷ cs)) (number_fits cs) (constant_fits (c ∷ cs))

operand_list_fits : (s : List ℕ) → AllByRecursion ArgumentFits (operand_list (operand_if_any s))
operand_list_fits [] = tt
operand_list_fits (c ∷ cs) = (operand_fits (c ∷ cs), tt)

target_by : (b : Bool) (v : ℕ) → v < 2 ^ 32 → ArgumentFits (target (cond b None (Some v)))
target_by true v h = tt
target_by false v h = h

target_fits : (s : List ℕ) → ArgumentFits (target (target_in s))
target_fits [] = tt
target_fits (c ∷ cs) = target_by (eqb c 95) (number_in cs) (number_fits cs)

result_by : (b : Bool) (v : ℕ) → v < 2 ^ 32 → ArgumentFits (result_type (cond b None (Some v)))
result_by true v h = tt
result_by false v h = h

pub result_fits : (s : List ℕ) → ArgumentFits (result_type (result_type_in s))
result_fits [] = tt
result_fits (c ∷ cs) = result_by (eqb c 118) (number_in (c ∷ cs)) (number_fits (c ∷ cs))

module _ {X : Type 0} (f : List ℕ → X) (sort : X → Argument) (fits : (s : List ℕ) → ArgumentFits (sort (f s))) where
  pub each_fits : (k : ℕ) (s : List ℕ) → AllByRecursion ArgumentFits (map sort (each_in f k s))
  each_fits zero s = tt
  each_fits (suc k) [] = tt
  each_fits (suc k) (c ∷ cs) = (fits (first (c ∷ cs)), each_fits k (rest (c ∷ cs)))

abbrev CommandFits : Option Command → Type 0
CommandFits o = IfSome o (λ c. RowFits (command_row c))

fixed_fits : (w : Word) (a b c : List ℕ) → CommandFits (fixed_command w a b c)
fixed_fits word.Move a b c = (variable_fits a, (operand_fits b, tt))
fixed_fits word.Cast a b c = (variable_fits a, (variable_fits b, tt))
fixed_fits word.Add a b c = (variable_fits a, (operand_fits b, (operand_fits c, tt)))
fixed_fits word.Sub a b c = (variable_fits a, (operand_fits b, (operand_fits c, tt)))
fixed_fits word.Mul a b c = (variable_fits a, (operand_fits b, (operand_fits c, tt)))
fixed_fits word.Div a b c = (variable_fits a, (operand_fits b, (operand_fits c, tt)))
fixed_fits word.Rem a b c = (variable_fits a, (operand_fits b, (operand_fits c, tt)))
fixed_fits word.And a b c = (variable_fits a, (operand_fits b, (operand_fits c, tt)))
fixed_fits word.Or a b c = (variable_fits a, (operand_fits b, (operand_fits c, tt)))
fixed_fits word.Xor a b c = (variable_fits a, (operand_fits b, (operand_fits c, tt)))
fixed_fits word.Shl a b c = (variable_fits a, (operand_fits b, (operand_fits c, tt)))
fixed_fits word.Shr a b c = (variable_fits a, (operand_fits b, (operand_fits c, tt)))
fixed_fits word.Not a b c = (variable_fits a, (operand_fits b, tt))
fixed_fits word.Lt a b c = (variable_fits a, (operand_fits b, (operand_fits c, tt)))
fixed_fits word.Le a b c = (variable_fits a, (operand_fits b, (operand_fits c, tt)))
fixed_fits word.Eq a b c = (variable_fits a, (operand_fits b, (operand_fits c, tt)))
fixed_fits word.Ne a b c = (variable_fits a, (operand_fits b, (operand_fits c, tt)))
fixed_fits word.Local a b c = (variable_fits a, (variable_fits b, (number_fits c, tt)))
fixed_fits word.GlobalA a b c = (variable_fits a, (number_fits b, (number_fits c, tt)))
fixed_fits word.Member a b c = (variable_fits a, (variable_fits b, (number_fits c, tt)))
fixed_fits word.Step a b c = (variable_fits a, (variable_fits b, (operand_fits c, tt)))
fixed_fits word.Back a b c = (variable_fits a, (variable_fits b, (operand_fits c, tt)))
fixed_fits word.Diff a b c = (variable_fits a, (variable_fits b, (variable_fits c, tt)))
fixed_fits word.Load a b c = (variable_fits a, (variable_fits b, tt))
fixed_fits word.Store a b c = (variable_fits a, (operand_fits b, tt))
fixed_fits word.Copy a b c = (variable_fits a, (variable_fits b, tt))
fixed_fits word.Kill a b c = (variable_fits a, tt)
fixed_fits word.Alloc a b c = (variable_fits a, (operand_fits b, tt))
fixed_fits word.Calloc a b c = (variable_fits a, (operand_fits b, tt))
fixed_fits word.Free a b c = (variable_fits a, tt)
fixed_fits word.Char a b c = (variable_fits a, (operand_fits b, tt))
fixed_fits word.Dec a b c = (variable_fits a, (operand_fits b, tt))
fixed_fits word.Hex a b c = (variable_fits a, (operand_fits b, tt))
fixed_fits word.Text a b c = (variable_fits a, (variable_fits b, tt))
fixed_fits word.Label a b c = (number_fits a, tt)
fixed_fits word.Jump a b c = (number_fits a, tt)
fixed_fits word.If a b c = (operand_fits a, (number_fits b, tt))
fixed_fits word.Turn a b c = tt
fixed_fits word.Table a b c = (number_fits a, (number_fits b, tt))
fixed_fits word.Saved a b c = (number_fits a, (number_fits b, tt))
fixed_fits word.Checkpoint a b c = tt
fixed_fits word.Return a b c = operand_list_fits a
fixed_fits word.Pointer a b c = tt
fixed_fits word.Array a b c = tt
fixed_fits word.Struct a b c = tt
fixed_fits word.Global a b c = tt
fixed_fits word.Init a b c = tt
fixed_fits word.InitA a b c = tt
fixed_fits word.Function a b c = tt
fixed_fits word.Var a b c = tt
fixed_fits word.Begin a b c = tt
fixed_fits word.End a b c = tt
fixed_fits word.Call a b c = tt
fixed_fits word.Restore a b c = tt
fixed_fits word.Push a b c = tt

pub command_fits : (w : Word) (inner : List ℕ) → CommandFits (command_from w inner)
command_fits word.Call inner = (target_fits (first inner), (number_fits (first (rest inner)), each_fits operand_in operand operand_fits (length (rest (rest inner))) (rest (rest inner))))
command_fits word.Restore inner = each_fits variable_in variable variable_fits (length inner) inner
command_fits word.Push inner = each_fits variable_in variable variable_fits (length inner) inner
command_fits word.Move inner = fixed_fits word.Move (first inner) (first (rest inner)) (first (rest (rest inner)))
command_fits word.Cast inner = fixed_fits word.Cast (first inner) (first (rest inner)) (first (rest (rest inner)))
command_fits word.Add inner = fixed_fits word.Add (first inner) (first (rest inner)) (first (rest (rest inner)))
command_fits word.Sub inner = fixed_fits word.Sub (first inner) (first (rest inner)) (first (rest (rest inner)))
command_fits word.Mul inner = fixed_fits word.Mul (first inner) (first (rest inner)) (first (rest (rest inner)))
command_fits word.Div inner = fixed_fits word.Div (first inner) (first (rest inner)) (first (rest (rest inner)))
command_fits word.Rem inner = fixed_fits word.Rem (first inner) (first (rest inner)) (first (rest (rest inner)))
command_fits word.And inner = fixed_fits word.And (first inner) (first (rest inner)) (first (rest (rest inner)))
command_fits word.Or inner = fixed_fits word.Or (first inner) (first (rest inner)) (first (rest (rest inner)))
command_fits word.Xor inner = fixed_fits word.Xor (first inner) (first (rest inner)) (first (rest (rest inner)))
command_fits word.Shl inner = fixed_fits word.Shl (first inner) (first (rest inner)) (first (rest (rest inner)))
command_fits word.Shr inner = fixed_fits word.Shr (first inner) (first (rest inner)) (first (rest (rest inner)))
command_fits word.Not inner = fixed_fits word.Not (first inner) (first (rest inner)) (first (rest (rest inner)))
command_fits word.Lt inner = fixed_fits word.Lt (first inner) (first (rest inner)) (first (rest (rest inner)))
command_fits word.Le inner = fixed_fits word.Le (first inner) (first (rest inner)) (first (rest (rest inner)))
command_fits word.Eq inner = fixed_fits word.Eq (first inner) (first (rest inner)) (first (rest (rest inner)))
command_fits word.Ne inner = fixed_fits word.Ne (first inner) (first (rest inner)) (first (rest (rest inner)))
command_fits word.Local inner = fixed_fits word.Local (first inner) (first (rest inner)) (first (rest (rest inner)))
command_fits word.GlobalA inner = fixed_fits word.GlobalA (first inner) (first (rest inner)) (first (rest (rest inner)))
command_fits word.Member inner = fixed_fits word.Member (first inner) (first (rest inner)) (first (rest (rest inner)))
command_fits word.Step inner = fixed_fits word.Step (first inner) (first (rest inner)) (first (rest (rest inner)))
command_fits word.Back inner = fixed_fits word.Back (first inner) (first (rest inner)) (first (rest (rest inner)))
command_fits word.Diff inner = fixed_fits word.Diff (first inner) (first (rest inner)) (first (rest (rest inner)))
command_fits word.Load inner = fixed_fits word.Load (first inner) (first (rest inner)) (first (rest (rest inner)))
command_fits word.Store inner = fixed_fits word.Store (first inner) (first (rest inner)) (first (rest (rest inner)))
command_fits word.Copy inner = fixed_fits word.Copy (first inner) (first (rest inner)) (first (rest (rest inner)))
command_fits word.Kill inner = fixed_fits word.Kill (first inner) (first (rest inner)) (first (rest (rest inner)))
command_fits word.Alloc inner = fixed_fits word.Alloc (first inner) (first (rest inner)) (first (rest (rest inner)))
command_fits word.Calloc inner = fixed_fits word.Calloc (first inner) (first (rest inner)) (first (rest (rest inner)))
command_fits word.Free inner = fixed_fits word.Free (first inner) (first (rest inner)) (first (rest (rest inner)))
command_fits word.Char inner = fixed_fits word.Char (first inner) (first (rest inner)) (first (rest (rest inner)))
command_fits word.Dec inner = fixed_fits word.Dec (first inner) (first (rest inner)) (first (rest (rest inner)))
command_fits word.Hex inner = fixed_fits word.Hex (first inner) (first (rest inner)) (first (rest (rest inner)))
command_fits word.Text inner = fixed_fits word.Text (first inner) (first (rest inner)) (first (rest (rest inner)))
command_fits word.Label inner = fixed_fits word.Label (first inner) (first (rest inner)) (first (rest (rest inner)))
command_fits word.Jump inner = fixed_fits word.Jump (first inner) (first (rest inner)) (first (rest (rest inner)))
command_fits word.If inner = fixed_fits word.If (first inner) (first (rest inner)) (first (rest (rest inner)))
command_fits word.Turn inner = fixed_fits word.Turn (first inner) (first (rest inner)) (first (rest (rest inner)))
command_fits word.Table inner = fixed_fits word.Table (first inner) (first (rest inner)) (first (rest (rest inner)))
command_fits word.Saved inner = fixed_fits word.Saved (first inner) (first (rest inner)) (first (rest (rest inner)))
command_fits word.Checkpoint inner = fixed_fits word.Checkpoint (first inner) (first (rest inner)) (first (rest (rest inner)))
command_fits word.Return inner = fixed_fits word.Return (first inner) (first (rest inner)) (first (rest (rest inner)))
command_fits word.Pointer inner = fixed_fits word.Pointer (first inner) (first (rest inner)) (first (rest (rest inner)))
command_fits word.Array inner = fixed_fits word.Array (first inner) (first (rest inner)) (first (rest (rest inner)))
command_fits word.Struct inner = fixed_fits word.Struct (first inner) (first (rest inner)) (first (rest (rest inner)))
command_fits word.Global inner = fixed_fits word.Global (first inner) (first (rest inner)) (first (rest (rest inner)))
command_fits word.Init inner = fixed_fits word.Init (first inner) (first (rest inner)) (first (rest (rest inner)))
command_fits word.InitA inner = fixed_fits word.InitA (first inner) (first (rest inner)) (first (rest (rest inner)))
command_fits word.Function inner = fixed_fits word.Function (first inner) (first (rest inner)) (first (rest (rest inner)))
command_fits word.Var inner = fixed_fits word.Var (first inner) (first (rest inner)) (first (rest (rest inner)))
command_fits word.Begin inner = fixed_fits word.Begin (first inner) (first (rest inner)) (first (rest (rest inner)))
command_fits word.End inner = fixed_fits word.End (first inner) (first (rest inner)) (first (rest (rest inner)))
