-- An operator with the operand behind it, as the code's tree has them.
use Rattle.porch_tree.specs.declared.tree.Infix.{Infix}
use Rattle.porch_tree.specs.declared.tree.Expr.{Expr}

abbrev pub Operand : Type 0
Operand = Infix × Expr
