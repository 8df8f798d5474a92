-- Programs that are worked out, under a long of 64 bits.
use Rattle.std.specs.Prelude.{ℕ, ℤ, pos, negsuc, ◌≡◌, List, [], ◌∷◌, ◌++◌, codes, Option, Some, true, false, refl}
use Rattle.std.specs.Option.{option_map}
use Rattle.porch_types.specs.declared.shapes.Kind.TheVariants.{Char, UInt, Long}
use Rattle.porch_types.specs.declared.shapes.Ty.{Ty}
use Rattle.porch_types.specs.declared.shapes.Ty.TheVariants.{Pointer, Array, Struct}
use Rattle.porch_types.specs.Kinds.{kind_number, int_type}
use Rattle.porch_types.specs.Leaves.{kind_types}
use Rattle.porch_values.specs.declared.acts.Act.{Act}
use Rattle.porch_values.specs.declared.acts.Act.TheVariants as act
use Rattle.porch_values.specs.declared.widths.Widths.{Widths}
use Rattle.porch_objects.specs.Meaning.{without_input, reached, allocated, freed, Ending, Ended, Met, Paused}
use Rattle.porch_flat.specs.declared.flat.Operand.{Operand}
use Rattle.porch_flat.specs.declared.flat.Operand.TheVariants.{Var, Constant}
use Rattle.porch_flat.specs.declared.flat.Init.{Init}
use Rattle.porch_flat.specs.declared.flat.Init.TheVariants as init
use Rattle.porch_flat.specs.declared.flat.GlobalObject.{GlobalObject}
use Rattle.porch_flat.specs.declared.whole.Command.{Command}
use Rattle.porch_flat.specs.declared.whole.Command.TheVariants as command
use Rattle.porch_flat.specs.declared.whole.Function.{Function}
use Rattle.porch_flat.specs.declared.whole.Flat.{Flat}
use Rattle.porch_flat.specs.whole.Worked.{saving_program}
use Rattle.porch_abstract.specs.Machine.{State}
use Rattle.porch_abstract.specs.whole.Machine.{begin}
use Rattle.porch_abstract.specs.whole.Run.{run_to, marks_to}

abbrev pub wide_only : Widths
wide_only = record { narrow = false; wide = true; some = refl }

-- enough steps for each of these
abbrev pub STEPS : ℕ
STEPS = 100

-- what is seen of a run
pub record Seen : Type 0 where
  pub output : List ℕ
  pub turns : ℕ
  pub ending : Ending

abbrev pub seen_as : List ℕ → ℕ → Ending → Option Seen
seen_as output turns ending = Some (record { output = output; turns = turns; ending = ending })

-- what is seen of the run of a program to so many turns
abbrev pub seen_of : ℕ → Flat → Option Seen
seen_of n flat =
    option_map (λ (r : State × Ending). let seen : Seen = record { output = r.0.output; turns = r.0.turns; ending = r.1 } in seen)
    (run_to flat (without_input wide_only) n STEPS (begin flat))

-- the types behind the kinds: int *, char[3], int[2], int[2][2], char *
abbrev pub types : List Ty
types = kind_types ++ Pointer int_type ∷ Array (kind_number Char) 3 ∷ Array int_type 2 ∷ Array 10 2 ∷ Pointer (kind_number Char) ∷ []

-- the first three letters of these are in t, and the rows of m are 0: char t[3]; int m[2][2];
abbrev pub globals : List Init → List GlobalObject
globals letters = record { ty = 9; inits = letters } ∷ record { ty = 11; inits = [] } ∷ []

abbrev pub main_of : List ℕ → List Command → Function
main_of vars commands = record { name = codes "main"; result = Some int_type; params = 0; vars = vars; commands = commands }

abbrev pub program_of : List Command → Flat
program_of commands = record { types = types; globals = globals (init.Value 0 (pos 104) ∷ init.Value 1 (pos 105) ∷ []); functions = main_of (int_type ∷ 8 ∷ 8 ∷ 12 ∷ []) commands ∷ [] }

-- int f(int n){if(n<1)return 0;return n+f(n-1);}
abbrev pub sum_up_to : Function
sum_up_to = record {
  name = codes "f";
  result = Some int_type;
  params = 1;
  vars = int_type ∷ int_type ∷ [];
  commands =
      command.Lt 1 (Constant (pos 0)) (Var 0) ∷ command.If (Var 1) 0 ∷ command.Return (Some (Constant (pos 0))) ∷ command.Label 0
      ∷ command.Sub 1 (Var 0) (Constant (pos 1)) ∷ command.Call (Some 1) 0 (Var 1 ∷ []) ∷ command.Add 1 (Var 0) (Var 1)
      ∷ command.Return (Some (Var 1)) ∷ [];
}

-- int main(void){return f(3);}
abbrev pub calling : Flat
calling = record {
  types = types;
  globals = [];
  functions = sum_up_to ∷ main_of (int_type ∷ []) (command.Call (Some 0) 0 (Constant (pos 3) ∷ []) ∷ command.Return (Some (Var 0)) ∷ []) ∷ [];
}

-- p=m[0]+2; and then what follows
abbrev pub at_an_end : List Command → Flat
at_an_end more = program_of (command.GlobalA 1 1 0 ∷ command.Step 1 1 (Constant (pos 2)) ∷ more)

pub record CallsReturn : Type 0 where
  pub value : seen_of 5 calling ≡ seen_as [] 5 (Ended (pos 6))
  pub paused : seen_of 4 calling ≡ seen_as [] 4 Paused

pub record EndsAreForgotten : Type 0 where
  pub kept : seen_of 9 (at_an_end (command.Back 1 1 (Constant (pos 2)) ∷ command.Load 0 1 ∷ command.Return (Some (Var 0)) ∷ [])) ≡ seen_as [] 1 (Ended (pos 0))
  pub forgotten : seen_of 9 (at_an_end (command.Checkpoint ∷ command.Back 1 1 (Constant (pos 2)) ∷ [])) ≡ seen_as [] 1 (Met act.Indeterminate)
  pub unread : seen_of 9 (at_an_end (command.Checkpoint ∷ command.Return (Some (Constant (pos 7))) ∷ [])) ≡ seen_as [] 1 (Ended (pos 7))
  pub element : seen_of 9 (at_an_end (command.Load 0 1 ∷ [])) ≡ seen_as [] 1 (Met act.Access)
  pub too_far : seen_of 9 (at_an_end (command.Step 1 1 (Constant (pos 1)) ∷ [])) ≡ seen_as [] 1 (Met act.Row)

-- p=malloc(2*sizeof(int)); *p=9; and then what follows
abbrev pub with_a_block : List Command → Flat
with_a_block more = program_of (command.Alloc 1 (Constant (pos 2)) ∷ command.Store 1 (Constant (pos 9)) ∷ more)

pub record BlocksEnd : Type 0 where
  pub stored : seen_of 9 (with_a_block (command.Load 0 1 ∷ command.Return (Some (Var 0)) ∷ [])) ≡ seen_as [] 1 (Ended (pos 9))
  pub unset : seen_of 9 (with_a_block (command.Step 1 1 (Constant (pos 1)) ∷ command.Load 0 1 ∷ [])) ≡ seen_as [] 1 (Met act.Indeterminate)
  pub gone : seen_of 9 (with_a_block (command.Free 1 ∷ command.Load 0 1 ∷ [])) ≡ seen_as [] 1 (Met act.Indeterminate)
  pub inside : seen_of 9 (with_a_block (command.Step 1 1 (Constant (pos 1)) ∷ command.Free 1 ∷ [])) ≡ seen_as [] 1 (Met act.Free)
  pub null : seen_of 9 (program_of (command.Move 1 (Constant (pos 0)) ∷ command.Free 1 ∷ command.Eq 0 (Var 1) (Constant (pos 0)) ∷ command.Return (Some (Var 0)) ∷ [])) ≡ seen_as [] 1 (Ended (pos 1))
  pub none : seen_of 9 (program_of (command.Calloc 1 (Constant (pos 0)) ∷ [])) ≡ seen_as [] 1 (Met act.Count)

pub record TextsAreShown : Type 0 where
  pub text : seen_of 9 (program_of (command.GlobalA 3 0 0 ∷ command.Text 0 3 ∷ command.Return (Some (Var 0)) ∷ [])) ≡ seen_as (104 ∷ 105 ∷ []) 1 (Ended (pos 2))
  pub no_end : seen_of 9 (program_of (command.GlobalA 3 0 2 ∷ command.Store 3 (Constant (pos 33)) ∷ command.Text 0 3 ∷ [])) ≡ seen_as [] 1 (Met act.Access)
  pub saving : seen_of 9 saving_program ≡ seen_as (65 ∷ []) 1 (Ended (pos 0))

pub record MarksAreTold : Type 0 where
  pub all : marks_to (with_a_block (command.Checkpoint ∷ command.Free 1 ∷ command.Move 2 (Constant (pos 0)) ∷ command.Free 2 ∷ [])) (without_input wide_only) 9 STEPS
      (begin (with_a_block (command.Checkpoint ∷ command.Free 1 ∷ command.Move 2 (Constant (pos 0)) ∷ command.Free 2 ∷ [])))
      ≡ allocated 2 1 ∷ reached 1 0 ∷ freed ∷ []

-- the ints a and b in v0 and v1, an int * in v2, an int[2] in v3, an unsigned int in v4
abbrev pub with_ints : List Command → Flat
with_ints commands = record {
  types = types;
  globals = globals [];
  functions = main_of (int_type ∷ int_type ∷ 8 ∷ 10 ∷ kind_number UInt ∷ []) commands ∷ [];
}

-- an operator of two constants, given back
abbrev pub of_two : (ℕ → Operand → Operand → Command) → ℤ → ℤ → Flat
of_two operator x y = with_ints (operator 0 (Constant x) (Constant y) ∷ command.Return (Some (Var 0)) ∷ [])

abbrev pub gives : ℤ → Option Seen
gives z = seen_as [] 1 (Ended z)

abbrev pub meets : Act → Option Seen
meets a = seen_as [] 1 (Met a)

pub record OperatorsCompute : Type 0 where
  pub product : seen_of 9 (of_two command.Mul (negsuc 2) (pos 4)) ≡ gives (negsuc 11)
  pub quotient : seen_of 9 (of_two command.Div (negsuc 6) (pos 2)) ≡ gives (negsuc 2)
  pub remainder : seen_of 9 (of_two command.Rem (negsuc 6) (pos 4)) ≡ gives (negsuc 2)
  pub by_nothing : seen_of 9 (of_two command.Div (pos 1) (pos 0)) ≡ meets act.Divide
  pub bits : seen_of 9 (of_two command.And (pos 12) (pos 10)) ≡ gives (pos 8)
  pub any_bits : seen_of 9 (of_two command.Or (pos 12) (pos 10)) ≡ gives (pos 14)
  pub other_bits : seen_of 9 (of_two command.Xor (pos 12) (pos 10)) ≡ gives (pos 6)
  pub left_shift : seen_of 9 (of_two command.Shl (pos 3) (pos 4)) ≡ gives (pos 48)
  pub right_shift : seen_of 9 (of_two command.Shr (pos 48) (pos 4)) ≡ gives (pos 3)
  pub too_far : seen_of 9 (of_two command.Shl (pos 1) (pos 64)) ≡ meets act.Shift
  pub overflow : seen_of 9 (of_two command.Mul (pos 65536) (pos 65536)) ≡ meets act.Overflow
  pub complement : seen_of 9 (with_ints (command.Not 0 (Constant (pos 5)) ∷ command.Return (Some (Var 0)) ∷ [])) ≡ gives (negsuc 5)
  pub less : seen_of 9 (of_two command.Lt (pos 1) (pos 1)) ≡ gives (pos 0)
  pub at_most : seen_of 9 (of_two command.Le (pos 1) (pos 1)) ≡ gives (pos 1)
  pub equal : seen_of 9 (of_two command.Eq (pos 1) (pos 2)) ≡ gives (pos 0)
  pub unequal : seen_of 9 (of_two command.Ne (pos 1) (pos 2)) ≡ gives (pos 1)
  pub cast : seen_of 9 (with_ints (command.Move 4 (Constant (pos 4294967295)) ∷ command.Cast 0 4 ∷ command.Return (Some (Var 0)) ∷ [])) ≡ gives (negsuc 0)

pub record PlacesAreReached : Type 0 where
  pub element : seen_of 9 (with_ints (command.Local 2 3 1 ∷ command.Store 2 (Constant (pos 7)) ∷ command.Load 0 2 ∷ command.Return (Some (Var 0)) ∷ [])) ≡ gives (pos 7)
  -- all of an object is forgotten
  pub killed : seen_of 9 (with_ints (command.Local 2 3 1 ∷ command.Store 2 (Constant (pos 7)) ∷ command.Kill 3 ∷ command.Load 0 2 ∷ [])) ≡ meets act.Indeterminate
  pub inside : seen_of 9 (with_ints (command.Local 2 3 0 ∷ command.Member 2 2 0 ∷ command.Store 2 (Constant (pos 4)) ∷ command.Load 0 2 ∷ command.Return (Some (Var 0)) ∷ [])) ≡ gives (pos 4)
  pub inside_null : seen_of 9 (with_ints (command.Move 2 (Constant (pos 0)) ∷ command.Member 2 2 0 ∷ [])) ≡ meets act.Access
  pub apart : seen_of 9 (program_of (command.GlobalA 1 1 0 ∷ command.Step 2 1 (Constant (pos 1)) ∷ command.Eq 0 (Var 1) (Var 2) ∷ command.Return (Some (Var 0)) ∷ [])) ≡ gives (pos 0)
  pub ordered : seen_of 9 (program_of (command.GlobalA 1 1 0 ∷ command.Step 2 1 (Constant (pos 1)) ∷ command.Lt 0 (Var 1) (Var 2) ∷ command.Return (Some (Var 0)) ∷ [])) ≡ gives (pos 1)
  pub other_rows : seen_of 9 (program_of (command.GlobalA 1 1 0 ∷ command.GlobalA 2 1 2 ∷ command.Lt 0 (Var 1) (Var 2) ∷ [])) ≡ meets act.Relation
  pub end_and_next : seen_of 9 (program_of (command.GlobalA 1 1 0 ∷ command.Step 1 1 (Constant (pos 2)) ∷ command.GlobalA 2 1 2 ∷ command.Eq 0 (Var 1) (Var 2) ∷ [])) ≡ meets act.Compare

pub record JumpsLead : Type 0 where
  -- i=3;do {i=i-1;} while(i);return i;
  pub around : seen_of 9 (with_ints (command.Move 0 (Constant (pos 3)) ∷ command.Label 5 ∷ command.Turn ∷ command.Sub 0 (Var 0) (Constant (pos 1)) ∷ command.If (Var 0) 5 ∷ command.Return (Some (Var 0)) ∷ []))
      ≡ seen_as [] 4 (Ended (pos 0))
  pub forward : seen_of 9 (with_ints (command.Jump 5 ∷ command.Return (Some (Constant (pos 1))) ∷ command.Label 5 ∷ command.Return (Some (Constant (pos 2))) ∷ [])) ≡ gives (pos 2)

-- struct {int a; int b;} in v1 and v2, pointers to it in v3 and v4, int * in v5 and v6, a long in v7, an int[2] in v8
abbrev pub with_structs : List Command → Flat
with_structs commands = record {
  types = types ++ Struct (int_type ∷ int_type ∷ []) ∷ Pointer 13 ∷ [];
  globals = globals [];
  functions = main_of (int_type ∷ 13 ∷ 13 ∷ 14 ∷ 14 ∷ 8 ∷ 8 ∷ kind_number Long ∷ 10 ∷ []) commands ∷ [];
}

pub record StructsAreCopied : Type 0 where
  pub copied : seen_of 9 (with_structs (command.Local 3 1 0 ∷ command.Member 5 3 1 ∷ command.Store 5 (Constant (pos 9)) ∷ command.Local 4 2 0 ∷ command.Copy 4 3
      ∷ command.Member 5 4 1 ∷ command.Load 0 5 ∷ command.Return (Some (Var 0)) ∷ [])) ≡ gives (pos 9)
  -- a member without a value is copied as it is
  pub unset : seen_of 9 (with_structs (command.Local 3 1 0 ∷ command.Local 4 2 0 ∷ command.Copy 4 3 ∷ command.Member 5 4 0 ∷ command.Load 0 5 ∷ [])) ≡ meets act.Indeterminate
  pub difference : seen_of 9 (with_structs (command.Local 5 8 0 ∷ command.Step 6 5 (Constant (pos 1)) ∷ command.Diff 7 5 6 ∷ command.Cast 0 7 ∷ command.Return (Some (Var 0)) ∷ [])) ≡ gives (negsuc 0)
