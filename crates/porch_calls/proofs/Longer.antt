-- No operand is a size where more stand behind it than may.
use Rattle.std.proofs.Common.{◌≡◌, ◌≤◌, List, [], ◌∷◌, length, map, refl, arith}
use Rattle.porch_tree.specs.declared.tree.Infix.{Infix}
use Rattle.porch_tree.specs.Mirror.{Expr}
use Rattle.porch_tree.specs.Views.{operands_of}
use Rattle.porch_check.specs.Operands.{Context, plain}
use Rattle.porch_check.specs.Calls.{first_context, last_context}
use Rattle.porch_calls.specs.Operands.{Operand}

pub behind_one : (c : Context) (o : Infix) (e : Expr) (f : Operand → Infix × Expr) (more : List Operand) → 1 ≤ length more
    → plain ≡ last_context c o e (operands_of (map f more))
behind_one c o e f [] h = absurd (omega (arith, h))
behind_one c o e f (x ∷ more) h = refl

pub behind_two : (c : Context) (e : Expr) (f : Operand → Infix × Expr) (more : List Operand) → 2 ≤ length more
    → plain ≡ first_context c e (operands_of (map f more))
behind_two c e f [] h = absurd (omega (arith, h))
behind_two c e f (x ∷ []) h = absurd (omega (arith, h))
behind_two c e f (x ∷ y ∷ more) h = refl
