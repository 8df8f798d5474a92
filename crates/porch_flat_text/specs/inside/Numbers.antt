-- The numbers that digits stand for. What is no numeral gives some number, which is written otherwise.
use Rattle.std.specs.Prelude.{ℕ, ℤ, pos, neg_ℤ, ◌+◌, ◌-◌, ◌*◌, ◌==◌, min, if◌then◌else◌, List, [], ◌∷◌, Option, Some, None}
use Rattle.porch_flat.specs.declared.flat.Operand.{Operand}
use Rattle.porch_flat.specs.declared.flat.Operand.TheVariants.{Var, Constant}

-- the number so far, and further digits, or the most that there is room for
abbrev pub number_after : ℕ → ℕ → List ℕ → ℕ
number_after most n [] = n
number_after most n (c ∷ cs) = number_after most (min (min (n * 10) most + (c - 48)) most) cs

abbrev pub number_in : List ℕ → ℕ
number_in digits = number_after 4294967295 0 digits

abbrev pub magnitude_in : List ℕ → ℕ
magnitude_in digits = number_after 340282366920938463463374607431768211455 0 digits

abbrev pub constant_in : List ℕ → ℤ
constant_in [] = pos 0
constant_in (c ∷ cs) =
    if c == 45 then neg_ℤ (pos (min (magnitude_in cs) 170141183460469231731687303715884105728))
    else pos (min (magnitude_in (c ∷ cs)) 170141183460469231731687303715884105727)

-- the number of a variable, behind its letter
abbrev pub variable_in : List ℕ → ℕ
variable_in [] = 0
variable_in (c ∷ cs) = number_in cs

abbrev pub operand_in : List ℕ → Operand
operand_in [] = Constant (pos 0)
operand_in (c ∷ cs) = if c == 118 then Var (number_in cs) else Constant (constant_in (c ∷ cs))

abbrev pub operand_if_any : List ℕ → Option Operand
operand_if_any [] = None
operand_if_any (c ∷ cs) = Some (operand_in (c ∷ cs))

-- the variable for the result, or an underscore
abbrev pub target_in : List ℕ → Option ℕ
target_in [] = None
target_in (c ∷ cs) = if c == 95 then None else Some (number_in cs)

-- the type of the result, or `void`
abbrev pub result_type_in : List ℕ → Option ℕ
result_type_in [] = None
result_type_in (c ∷ cs) = if c == 118 then None else Some (number_in (c ∷ cs))
