-- Assignments, by whether they have an operator.
use Rattle.std.proofs.Common.{◌≡◌, ℕ, true, false, refl}
use Rattle.porch_tree.specs.declared.tree.Assigning.{Assigning}
use Rattle.porch_tree.specs.declared.tree.Assigning.TheVariants as sign
use Rattle.porch_typed.specs.Mirror.{Place}
use Rattle.porch_check.specs.Scopes.{Scopes}
use Rattle.porch_check.specs.Operands.{Typed}
use Rattle.porch_check.specs.Operators.{assigned, assigned_by, infix_of}
use Rattle.porch_access.specs.inside.Assignments.{is_plain}

pub plainly : (a : Assigning) (at : ℕ) (p : Place) (n : ℕ) (y : Typed) (s : Scopes) → is_plain a ≡ true → assigned a at p n y s ≡ assigned sign.Plain at p n y s
plainly sign.Plain at p n y s h = refl
plainly sign.Mul at p n y s h = cc
plainly sign.Div at p n y s h = cc
plainly sign.Rem at p n y s h = cc
plainly sign.Add at p n y s h = cc
plainly sign.Sub at p n y s h = cc
plainly sign.ShiftLeft at p n y s h = cc
plainly sign.ShiftRight at p n y s h = cc
plainly sign.BitAnd at p n y s h = cc
plainly sign.BitXor at p n y s h = cc
plainly sign.BitOr at p n y s h = cc

pub by_operator : (a : Assigning) (at : ℕ) (p : Place) (n : ℕ) (y : Typed) (s : Scopes) → is_plain a ≡ false → assigned a at p n y s ≡ assigned_by (infix_of a) at p n y s
by_operator sign.Plain at p n y s h = cc
by_operator sign.Mul at p n y s h = refl
by_operator sign.Div at p n y s h = refl
by_operator sign.Rem at p n y s h = refl
by_operator sign.Add at p n y s h = refl
by_operator sign.Sub at p n y s h = refl
by_operator sign.ShiftLeft at p n y s h = refl
by_operator sign.ShiftRight at p n y s h = refl
by_operator sign.BitAnd at p n y s h = refl
by_operator sign.BitXor at p n y s h = refl
by_operator sign.BitOr at p n y s h = refl
