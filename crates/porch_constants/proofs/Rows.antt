-- Rows as plain data, and an item in front of a list.
use Rattle.std.proofs.Common.{◌≡◌, ℕ, suc, ◌+◌, ◌<◌, List, ◌∷◌, map, drop, length, get_or, sym, ap, ◌∙◌, add-one, drop-cons}
use Rattle.porch_typed.specs.declared.typed.Operator.{Operator}
use Rattle.porch_typed.specs.declared.typed.Expression as code_expression
use Rattle.porch_typed.specs.declared.typed.Expression.TheVariants.{Row, rolls-Row}
use Rattle.porch_typed.specs.Mirror.{Expression, row, Place, Print}
use Rattle.porch_typed.specs.Views.{expression_of, expression_step, place_step, print_step, steps_of}
use Rattle.porch_constants.specs.inside.Rows.{step_of}

pub row_view : (e first : code_expression.Expression) (steps : List (Operator × code_expression.Expression)) → e ≡ Row first steps → expression_of e ≡ row (expression_of first) (steps_of (map step_of steps))
row_view e first steps h =
    ap expression_of (h ∙ sym (rolls-Row first steps))
    ∙ code_expression.fold-roll-Expression Expression Place Print expression_step place_step print_step _

pub item_in_front : (xs : List code_expression.Expression) (i : ℕ) (x : code_expression.Expression) → i < length xs → x ≡ get_or xs i x → drop i xs ≡ x ∷ drop (i + 1) xs
item_in_front xs i x h is =
    drop-cons xs i x h ∙ ap (λ y. y ∷ drop (suc i) xs) (sym is) ∙ ap (λ k. x ∷ drop k xs) (sym (add-one i))
