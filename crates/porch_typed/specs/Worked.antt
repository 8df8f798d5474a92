-- Small functions as typed trees.
use Rattle.std.specs.Prelude.{pos, [], ◌∷◌, ◌++◌, codes, Some}
use Rattle.porch_types.specs.declared.shapes.Kind.TheVariants.{Int}
use Rattle.porch_types.specs.declared.shapes.Ty.TheVariants.{Pointer}
use Rattle.porch_types.specs.Leaves.{kind_types}
use Rattle.porch_values.specs.declared.acts.Op.TheVariants.{Add}
use Rattle.porch_typed.specs.declared.typed.Operator.TheVariants.{Arithmetic}
use Rattle.porch_typed.specs.Mirror.{constant, read, row, no_steps, with_step, variable, pointee, give, no_statements, with_statement, Function, Program}

-- int main(void){return 0;}
abbrev pub small_main : Function
small_main =
    record {
      name = codes "main";
      result = Some 4;
      params = 0;
      variables = [];
      body = with_statement (give (Some (constant Int (pos 0)))) no_statements;
      tokens = 10;
    }

-- int next(int *p){return *p+1;}
abbrev pub next_number : Function
next_number =
    record {
      name = codes "next";
      result = Some 4;
      params = 1;
      variables = 8 ∷ [];
      body =
          with_statement
          (give (Some (row (read 4 (pointee (read 8 (variable 0)))) (with_step (Arithmetic Add Int) (constant Int (pos 1)) no_steps))))
          no_statements;
      tokens = 15;
    }

-- with the type of a pointer to int; the types behind it are pointers to the others
abbrev pub two_functions : Program
two_functions =
    record {
      types =
          kind_types ++ Pointer 4 ∷ Pointer 0 ∷ Pointer 1 ∷ Pointer 2 ∷ Pointer 3 ∷ Pointer 5 ∷ Pointer 6 ∷ Pointer 7 ∷ Pointer 8 ∷ [];
      pointers = 9 ∷ 10 ∷ 11 ∷ 12 ∷ 8 ∷ 13 ∷ 14 ∷ 15 ∷ 16 ∷ [];
      globals = [];
      functions = small_main ∷ next_number ∷ [];
      main = 0;
    }
