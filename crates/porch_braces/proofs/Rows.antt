-- A row of operands as plain data.
use Rattle.std.proofs.Common.{◌≡◌, ℕ, List, map, sym, ap, ◌∙◌}
use Rattle.porch_tree.specs.declared.tree.Level.{Level}
use Rattle.porch_tree.specs.declared.tree.Expr as code_expr
use Rattle.porch_tree.specs.declared.tree.Expr.TheVariants.{Row, rolls-Row}
use Rattle.porch_tree.specs.Mirror.{Expr, row, Suffix, Base, Field, Constant, Declarator, Core, Bracket, Param, TypeName}
use Rattle.porch_tree.specs.Views.{base_step, bracket_step, core_step, expr_step, suffix_step, constant_step, declarator_step, field_step, param_step, type_name_step, expr_of, operands_of}
use Rattle.porch_braces.specs.inside.Operand.{Operand}

pub row_view : (text : List ℕ) (e : code_expr.Expr) (level : Level) (first : code_expr.Expr) (more : List Operand) → e ≡ Row level first more
    → expr_of text e ≡ row level (expr_of text first) (operands_of (map (λ (o : Operand). (o.0, expr_of text o.1)) more))
row_view text e level first more h =
    ap (expr_of text) (h ∙ sym (rolls-Row level first more))
    ∙ code_expr.fold-roll-Expr Base Bracket Core Expr Suffix Constant Declarator Field Param TypeName
    (base_step text) (bracket_step text) (core_step text) (expr_step text) (suffix_step text) (constant_step text) (declarator_step text) (field_step text) (param_step text) (type_name_step text) _
