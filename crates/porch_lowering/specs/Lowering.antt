-- The flat program of a typed program.
use Rattle.std.specs.Prelude.{ℕ, zero, suc, ◌+◌, pos, nat_eq, Bool, List, [], ◌∷◌, ◌++◌, length, map, replicate, if◌then◌else◌, Some}
use Rattle.std.specs.List.{range_with_len}
use Rattle.std.specs.Ordering.{int_eq}
use Rattle.porch_flat.specs.declared.flat.Operand.TheVariants.{Constant}
use Rattle.porch_flat.specs.declared.flat.Init.{Init}
use Rattle.porch_flat.specs.declared.flat.Init.TheVariants as init
use Rattle.porch_flat.specs.declared.flat.GlobalObject.{GlobalObject}
use Rattle.porch_flat.specs.declared.whole.Command.{Command}
use Rattle.porch_flat.specs.declared.whole.Command.TheVariants as command
use Rattle.porch_flat.specs.declared.whole.Function as flat_function
use Rattle.porch_flat.specs.declared.whole.Flat.{Flat}
use Rattle.porch_typed.specs.declared.typed.Fill.{Fill}
use Rattle.porch_typed.specs.declared.typed.Fill.TheVariants as fill
use Rattle.porch_typed.specs.declared.typed.GlobalVariable.{GlobalVariable}
use Rattle.porch_typed.specs.Mirror.{Function, Program}
use Rattle.porch_lowering.specs.Code.{InUse, Code}
use Rattle.porch_lowering.specs.Statement.{acts_code}

-- what a leaf begins with; 0 and null need not be said
abbrev pub init_of : (leaf : ℕ) → Fill → List Init
init_of leaf (fill.Constant z) = if int_eq z (pos 0) then [] else init.Value leaf z ∷ []
init_of leaf fill.Null = []
init_of leaf (fill.Address global first) = init.Address leaf global first ∷ []

abbrev pub inits_of : List (ℕ × Fill) → List Init
inits_of [] = []
inits_of (x ∷ xs) = init_of x.0 x.1 ++ inits_of xs

abbrev pub global_of : GlobalVariable → GlobalObject
global_of g = record { ty = g.ty; inits = inits_of g.fills }

-- Pools: behind the declared variables those temporaries of type 0 that one statement takes at most, then those of type 1,
-- and so on.
abbrev pub pool_start : (variables : ℕ) → (pools : InUse) → (ty : ℕ) → ℕ
pool_start variables pools zero = variables
pool_start variables pools (suc ty) = pool_start variables pools ty + pools ty

abbrev pub pool_types : (pools : InUse) → List ℕ → List ℕ
pool_types pools [] = []
pool_types pools (ty ∷ types) = replicate (pools ty) ty ++ pool_types pools types

module _ (p : Program) where
  -- A function's body, where the pools begin at these numbers. Nothing breaks out of it.
  abbrev pub body_code : (start : ℕ → ℕ) → (is_main : Bool) → Function → Code
  body_code start is_main f = acts_code p start f.variables is_main f.body (record { broke = 0; went_round = 0 }) 0

  -- how many temporaries of each type it takes, wherever they begin
  abbrev pub pools_of : (is_main : Bool) → Function → InUse
  pools_of is_main f = (body_code (λ ty. 0) is_main f).most

  -- main gives 0 at its end
  abbrev pub ending : (is_main : Bool) → List Command
  ending is_main = if is_main then command.Return (Some (Constant (pos 0))) ∷ [] else []

  abbrev pub function_of : (is_main : Bool) → Function → flat_function.Function
  function_of is_main f =
      let pools = pools_of is_main f in
      record {
        name = f.name;
        result = f.result;
        params = f.params;
        vars = f.variables ++ pool_types pools (range_with_len 0 (length p.types));
        commands = (body_code (pool_start (length f.variables) pools) is_main f).commands ++ ending is_main;
      }

  -- the functions, the first of which has this number
  abbrev pub functions_of : (number : ℕ) → List Function → List flat_function.Function
  functions_of number [] = []
  functions_of number (f ∷ functions) = function_of (nat_eq number p.main) f ∷ functions_of (number + 1) functions

  -- The flat program: types, globals and functions in the order of the source.
  abbrev pub flat_of : Flat
  flat_of = record { types = p.types; globals = map global_of p.globals; functions = functions_of 0 p.functions }
