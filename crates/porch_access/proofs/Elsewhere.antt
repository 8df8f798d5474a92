-- What becomes of forms that are no places, where a place is asked for.
use Rattle.std.proofs.Common.{◌≡◌, ℕ, Bool, true, false, refl}
use Rattle.porch_lex.specs.declared.refusal.Rule.TheVariants.{NotPlace}
use Rattle.porch_tree.specs.declared.tree.Assigning.{Assigning}
use Rattle.porch_typed.specs.declared.typed.Direction.{Direction}
use Rattle.porch_check.specs.Refusals.{refuse}
use Rattle.porch_check.specs.Scopes.{Scopes}
use Rattle.porch_check.specs.Operands.{Form, operand, place, literal, size, sized, callee, library_callee, Typed}
use Rattle.porch_check.specs.Operators.{address_form, increment_form, assign_form}
use Rattle.porch_access.specs.Forms.{is_place}

pub no_address : (of : ℕ) (f : Form) (s : Scopes) → is_place f ≡ false → address_form of f s ≡ refuse NotPlace of
no_address of (operand x) s h = refl
no_address of (place p n) s h = cc
no_address of (literal bs) s h = refl
no_address of (size n) s h = refl
no_address of (sized x n) s h = refl
no_address of (callee n) s h = refl
no_address of (library_callee l) s h = refl

pub no_increment : (before : Bool) (way : Direction) (at of : ℕ) (f : Form) (s : Scopes) → is_place f ≡ false → increment_form before way at of f s ≡ refuse NotPlace of
no_increment before way at of (operand x) s h = refl
no_increment before way at of (place p n) s h = cc
no_increment before way at of (literal bs) s h = refl
no_increment before way at of (size n) s h = refl
no_increment before way at of (sized x n) s h = refl
no_increment before way at of (callee n) s h = refl
no_increment before way at of (library_callee l) s h = refl

pub no_assignment : (a : Assigning) (at : ℕ) (f : Form) (y : Typed) (s : Scopes) → is_place f ≡ false → assign_form a at f y s ≡ refuse NotPlace at
no_assignment a at (operand x) y s h = refl
no_assignment a at (place p n) y s h = cc
no_assignment a at (literal bs) y s h = refl
no_assignment a at (size n) y s h = refl
no_assignment a at (sized x n) y s h = refl
no_assignment a at (callee n) y s h = refl
no_assignment a at (library_callee l) y s h = refl
