-- Programs that are worked out.
use Rattle.std.specs.Prelude.{ℕ, ◌+◌, pos, ◌≡◌, List, [], ◌∷◌, codes, Some, None, true}
use Rattle.porch_types.specs.Leaves.{kind_types}
use Rattle.porch_flat.specs.declared.flat.Operand.TheVariants.{Constant}
use Rattle.porch_flat.specs.declared.whole.Command.{Command}
use Rattle.porch_flat.specs.declared.whole.Command.TheVariants as command
use Rattle.porch_flat.specs.declared.whole.Function.{Function}
use Rattle.porch_flat.specs.declared.whole.Flat.{Flat}
use Rattle.porch_flat.specs.declared.whole.Sort.TheVariants as sort
use Rattle.porch_flat.specs.whole.Worked.{keeps_all}
use Rattle.porch_rewrite.specs.Rewriting.{FIRST_LABEL, rewritten}

abbrev pub function_of : List ℕ → List Command → Function
function_of name commands = record { name = name; result = Some 4; params = 0; vars = 4 ∷ []; commands = commands }

abbrev pub program_of : List Function → Flat
program_of functions = record { types = kind_types; globals = []; functions = functions }

-- int main(void){checkpoint();putchar('A');return 0;}
abbrev pub plain_main : Function
plain_main = function_of (codes "main") (command.Checkpoint ∷ command.Char 0 (Constant (pos 65)) ∷ command.Return (Some (Constant (pos 0))) ∷ [])

abbrev pub saving_main : Function
saving_main =
    function_of (codes "main")
    (command.Restore (0 ∷ []) ∷ command.Table 1 FIRST_LABEL ∷ command.Label FIRST_LABEL ∷ command.Checkpoint ∷ command.Saved 1 (FIRST_LABEL + 1)
    ∷ command.Char 0 (Constant (pos 65)) ∷ command.Return (Some (Constant (pos 0))) ∷ command.Label (FIRST_LABEL + 1) ∷ command.Push (0 ∷ []) ∷ [])

-- two functions that call one another, of which one reaches a checkpoint, and one that shows a character
abbrev pub even : Function
even = function_of (codes "even") (command.Call None 1 [] ∷ command.Call (Some 0) 2 [] ∷ [])

abbrev pub odd : Function
odd = function_of (codes "odd") (command.Call None 0 [] ∷ command.Checkpoint ∷ [])

abbrev pub show : Function
show = function_of (codes "show") (command.Char 0 (Constant (pos 66)) ∷ [])

abbrev pub main : Function
main = function_of (codes "main") (command.Call None 0 [] ∷ [])

abbrev pub calling : Flat
calling = program_of (even ∷ odd ∷ show ∷ main ∷ [])

pub record IsRewritten : Type 0 where
  pub one : rewritten (program_of (plain_main ∷ [])) ≡ program_of (saving_main ∷ [])
  pub kept : keeps_all sort.Plain calling ≡ true
  pub rules : keeps_all sort.Rewritten (rewritten calling) ≡ true
  pub unchanged : rewritten (program_of (show ∷ [])) ≡ program_of (show ∷ [])
