-- The steps of operators.
use Rattle.std.specs.Prelude.{ℤ}
use Rattle.porch_values.specs.declared.acts.Op.{Op}
use Rattle.porch_values.specs.Integers.{applied}
use Rattle.porch_types.specs.declared.shapes.Kind.{Kind}
use Rattle.porch_typed.specs.declared.typed.Unary.{Unary}
use Rattle.porch_check.specs.Constants.{Folded, known, as_kind, both_widths, folded_unary, if_known, known_if_ok}

abbrev pub with_unary : Unary → Kind → Folded → Folded
with_unary op kind f = if_known f (λ z. as_kind kind z (folded_unary op kind))

abbrev pub converted_to : Kind → Folded → Folded
converted_to kind f = if_known f (λ z. as_kind kind z (λ z. known z))

-- an operator that is no shift, from where the left operand was converted on, and from its beginning

abbrev pub arithmetic_from : Op → Kind → ℤ → ℤ → Folded
arithmetic_from op kind x y = as_kind kind y (λ y. known_if_ok (applied op kind both_widths x y))

abbrev pub arithmetic_of : Op → Kind → ℤ → ℤ → Folded
arithmetic_of op kind x y = as_kind kind x (λ x. arithmetic_from op kind x y)
