use Rattle.std.proofs.Common.{◌≡◌, map, sym, ap, ◌∙◌}
use Rattle.std.proofs.lemmas.Result.{on_ok_weaker}
use Rattle.porch_tree.specs.Views.{expr_of, operands_of}
use Rattle.porch_braces.specs.inside.Operand.{Operand}
use Rattle.porch_braces.specs.inside.Puts.{put_expr, put_operands}
use Rattle.porch_braces.proofs.Rows.{row_view}
use Rattle.porch_braces.proofs.tags.+put.Goals as goal

pub put_expr-returns-in_ok-put_expr-in-Row : goal.put_expr-returns-in_ok-put_expr-in-Row
put_expr-returns-in_ok-put_expr-in-Row t c =
    let text = c.args.text.now in
    let view = row_view text c.args.e.now c.in-Row.level c.in-Row.first c.in-Row.more c.in-Row.is in
    let front : c.put_expr-in-Row.new.tags ≡ put_expr (expr_of text c.in-Row.first) c.args.tags.now =
    c.in_ok-put_expr-in-Row.ensures ∙ ap (λ x. put_expr (expr_of text x) c.args.tags.now) c.get-in-Row.ensures in
    on_ok_weaker c.put_operands.result
    (λ h.
    h
    ∙ ap (λ xs. put_operands (operands_of (map (λ (o : Operand). (o.0, expr_of text o.1)) xs)) c.put_expr-in-Row.new.tags) c.as_slice-in-Row.ensures
    ∙ ap (put_operands (operands_of (map (λ (o : Operand). (o.0, expr_of text o.1)) c.in-Row.more))) front
    ∙ ap (λ x. put_expr x c.args.tags.now) (sym view))
    c.put_operands.ensures
