-- What an `if` is as plain data, without `else` and with it.
use Rattle.std.proofs.Common.{◌≡◌, ℕ, List, Some, None, ap, sym, ◌∙◌}
use Rattle.porch_tree.specs.declared.tree.Expr as code_expr
use Rattle.porch_tree.specs.declared.tree.Stmt as code_stmt
use Rattle.porch_tree.specs.declared.tree.Stmt.TheOpen.{Stmt-F}
use Rattle.porch_tree.specs.declared.tree.Stmt.TheFolds.{fold-roll-Stmt}
use Rattle.porch_tree.specs.declared.tree.Stmt.TheVariants.{Choose, rolls-Choose}
use Rattle.porch_tree.specs.Mirror.{Stmt, SwitchEntry, choose, choose_else}
use Rattle.porch_tree.specs.Views.{expr_of, stmt_of, stmt_step, switch_entry_step}

pub without_else : (text : List ℕ) (at : ℕ) (e : code_expr.Expr) (s : code_stmt.Stmt)
    → stmt_of text (Choose at e s None) ≡ choose at (expr_of text e) (stmt_of text s)
without_else text at e s =
    ap (stmt_of text) (sym (rolls-Choose at e s None)) ∙ fold-roll-Stmt Stmt SwitchEntry (stmt_step text) (switch_entry_step text) (Stmt-F.Choose at e s None)

pub with_else : (text : List ℕ) (at : ℕ) (e : code_expr.Expr) (s t : code_stmt.Stmt)
    → stmt_of text (Choose at e s (Some t)) ≡ choose_else at (expr_of text e) (stmt_of text s) (stmt_of text t)
with_else text at e s t =
    ap (stmt_of text) (sym (rolls-Choose at e s (Some t))) ∙ fold-roll-Stmt Stmt SwitchEntry (stmt_step text) (switch_entry_step text) (Stmt-F.Choose at e s (Some t))
