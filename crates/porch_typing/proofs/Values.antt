-- The value of a form, null pointers, and what is assigned.
use Rattle.std.proofs.Common.{◌≡◌, ℕ, List, refl, sym, ap, subst, Option, Some, Bool, true, false, Ok}
use Rattle.std.proofs.lemmas.Bool.{eqb-true}
use Rattle.std.specs.Prelude.{⊤, nat_eq, if◌then◌else◌}
use Rattle.porch_typed.specs.Mirror.{Expression, constant, read, whole, first, Place}
use Rattle.porch_typed.specs.Typed.{type_of_kind, HasType, IsScalar}
use Rattle.porch_check.specs.Shapes.{Shape, void, pointer, array, structure, function, Shapes, shape_of, leaves_of}
use Rattle.porch_check.specs.Shapes as shape
use Rattle.porch_check.specs.Scopes.{Scopes}
use Rattle.porch_check.specs.Operands.{Value, integer, address, record_of, Typed, typed_as, Form, operand, place, literal, size, sized, callee, library_callee, Typing, value_in, read_value, value_of, used, is_null, null_as, if_null, fitted_to, fitted}
use Rattle.porch_check.specs.Sealing.{sealed}
use Rattle.porch_typing.specs.Shapes.{IsKnown, IsShape, ComeTo}
use Rattle.porch_typing.specs.States.{IsState, Holds, Gives}
use Rattle.porch_typing.specs.Ends.{End, IsEnd, IsComplete, seal}
use Rattle.porch_typing.specs.Forms.{IsKnownForm, Anything, type_of_value, IsValue, IsOperand, IsForm, Leads}
use Rattle.porch_typing.proofs.Shapes.{known_shape}
use Rattle.porch_typing.proofs.States.{follow, found, refused, shaped}
use Rattle.porch_typing.proofs.Ends.{pointer_to, is_pointer, kind_seal, kind_whole, kind_scalar, pointer_scalar, array_is, struct_is, known_shape_on, shape_on}

module _ (w : End) (h : IsEnd w) where
  -- a tree of this type at the end
  abbrev pub Has : Expression → Option ℕ → Type 0
  Has e ty = HasType w.program w.function (sealed (seal w) e) ty

  pub as_operand : (e : Expression) (v : Value) → Has e (type_of_value w v) → IsValue w v → IsOperand w (typed_as e v)
  as_operand e v t k = record { tree = t; value = k; zero = λ z. absurd (cc) }

  void_never : (n : ℕ) → IsShape w.last n void → IsComplete w n → ⊥
  void_never n e c = h.sized n c.0 void e c.1

  function_never : (n r : ℕ) (ps : List ℕ) → IsShape w.last n (function r ps) → IsComplete w n → ⊥
  function_never n r ps e c = h.sized n c.0 (function r ps) e c.1

  -- the type of an object's value, which is no array
  abbrev pub IsValued : Shape → Type 0
  IsValued (shape.whole kind) = ⊤
  IsValued (pointer to) = ⊤
  IsValued (structure number) = ⊤
  IsValued x = ⊥

  pub value_type : (n : ℕ) (x : Shape) → IsValued x → IsShape w.last n x → type_of_value w (value_in x n) ≡ Some (seal w n)
  value_type n (shape.whole kind) v e = ap (λ n. Some n) (sym (kind_seal w h n kind e))
  value_type n (pointer to) v e = refl
  value_type n (structure number) v e = refl
  value_type n void v e = absurd v
  value_type n (array of count) v e = absurd v
  value_type n (function r ps) v e = absurd v

  pub value_is : (n : ℕ) (x : Shape) → IsValued x → IsShape w.last n x → IsComplete w n → IsValue w (value_in x n)
  value_is n (shape.whole kind) v e c = tt
  value_is n (pointer to) v e c = e
  value_is n (structure number) v e c = (c, number, e)
  value_is n void v e c = absurd v
  value_is n (array of count) v e c = absurd v
  value_is n (function r ps) v e c = absurd v

  read_as : (x : Shape) (p : Place) (n : ℕ) → IsShape w.last n x → IsForm w (place p n) → IsScalar w.program.types (seal w n)
      → type_of_value w (value_in x n) ≡ Some (seal w n) → IsValue w (value_in x n) → IsOperand w (typed_as (read n p) (value_in x n))
  read_as x p n e f scalar ty v = as_operand (read n p) (value_in x n) (ty, scalar, f.0) v

  read_rule : (s : Scopes) (x : Shape) (p : Place) (n : ℕ) → IsState s → IsKnown s.shapes n → shape_of s.shapes n ≡ x
      → Holds (Leads w Anything (λ y. IsForm w (place p n) → IsOperand w y) s) (read_value x p n s)
  read_rule s (shape.whole kind) p n st k e = found w s _ st tt (λ a c f.
      (let x = known_shape_on w s.shapes c n (shape.whole kind) k e in
      read_as (shape.whole kind) p n x f (subst (λ t. IsScalar w.program.types t) (sym (kind_seal w h n kind x)) (kind_scalar w h kind))
      (value_type n (shape.whole kind) tt x) tt))
  read_rule s (pointer to) p n st k e = found w s _ st tt (λ a c f.
      (let x = known_shape_on w s.shapes c n (pointer to) k e in read_as (pointer to) p n x f (pointer_scalar w h n to x) refl x))
  read_rule s (structure number) p n st k e = found w s _ st tt (λ a c f.
      (let x = known_shape_on w s.shapes c n (structure number) k e in
      as_operand (whole n p) (record_of n) (refl, struct_is w h n number (f.1).0 x (f.1).1, f.0) (f.1, number, x)))
  read_rule s void p n st k e = found w s _ st tt (λ a c f. absurd (void_never n (known_shape_on w s.shapes c n void k e) f.1))
  read_rule s (function r ps) p n st k e = found w s _ st tt (λ a c f. absurd (function_never n r ps (known_shape_on w s.shapes c n (function r ps) k e) f.1))
  read_rule s (array of count) p n st k e =
      shaped w s (pointer of) (λ r. typed_as (first r p) (address r of)) st
      ((st.shapes.parts n (array of count) (known_shape s.shapes n (array of count) k e)).0, tt) (λ r t known g. tt)
      (λ r a c x f.
      (let y = known_shape_on w s.shapes c n (array of count) k e in
      as_operand (first r p) (address r of)
      (refl, seal w of, seal w n, Rattle.std.specs.Option.option_map_or (λ (k : ℕ). k) count 0, pointer_to w h r of x, array_is w h n of (f.1).0 count y (f.1).1, f.0) x))

  pub value_rule : (s : Scopes) (at : ℕ) (f : Form) → IsState s → IsKnownForm f s
      → Holds (Leads w Anything (λ y. IsForm w f → IsOperand w y) s) (value_of at f s)
  value_rule s at (operand x) st k = found w s x st tt (λ a c f. f)
  value_rule s at (place p n) st k = read_rule s (shape_of s.shapes n) p n st k refl
  value_rule s at (literal bs) st k = refused w _
  value_rule s at (size n) st k = refused w _
  value_rule s at (sized x n) st k = refused w _
  value_rule s at (callee n) st k = refused w _
  value_rule s at (library_callee l) st k = refused w _

  pub used_rule : (s : Scopes) (at : ℕ) (r : Typing Form) → Holds (Leads w IsKnownForm (IsForm w) s) r
      → Holds (Leads w Anything (IsOperand w) s) (used at r)
  used_rule s at r k = follow w s r (value_of at) k (λ f t g st known. value_rule t at f st known)

  -- Null pointers.

  pub null_typed : (e : Expression) (n to : ℕ) (ty : Option ℕ) → Has e ty → IsShape w.last n (pointer to) → Has (null_as e n) (Some (seal w n))
  null_typed (constant kind z) n to ty t x = (refl, is_pointer w h n to x)
  null_typed e n to ty t x = (ty, t, (λ same. cc), (refl, is_pointer w h n to x))

  -- What is assigned has the target's type.

  abbrev pub Fits : ℕ → Expression → Type 0
  Fits n e = Has e (Some (seal w n))

  fits_null : (x : Typed) (n to at : ℕ) → IsOperand w x → IsShape w.last n (pointer to) → Gives (Fits n) (if_null x n at)
  fits_null x n to at o e = by (is_null x)
    where
      by : (b : Bool) → Gives (Fits n) (if b then Ok (null_as x.tree n) else Rattle.porch_check.specs.Refusals.refuse Rattle.porch_lex.specs.declared.refusal.Rule.TheVariants.Mismatch at)
      by true = record { is = null_typed x.tree n to (type_of_value w x.value) o.tree e }
      by false = record { is = tt }

  same_type : (e : Expression) (n m : ℕ) → Has e (Some (seal w m)) → (b : Bool) → nat_eq n m ≡ b
      → (at : ℕ) → Gives (Fits n) (if b then Ok e else Rattle.porch_check.specs.Refusals.refuse Rattle.porch_lex.specs.declared.refusal.Rule.TheVariants.Mismatch at)
  same_type e n m t true same at = record { is = subst (λ k. Has e (Some (seal w k))) (sym (eqb-true n m same)) t }
  same_type e n m t false same at = record { is = tt }

  fits_value : (x : Typed) (n at : ℕ) (y : Shape) (v : Value) → x.value ≡ v → IsOperand w x → IsShape w.last n y → Gives (Fits n) (fitted_to (value_in y n) x v at)
  fits_value x n at (shape.whole kind) (integer k) e o t =
      record {
        is = (ap (λ n. Some n) (kind_seal w h n kind t), (type_of_kind k, kind_whole w h k, subst (λ v. Has x.tree (type_of_value w v)) e o.tree));
      }
  fits_value x n at (pointer to) (address m of) e o t =
      same_type x.tree n m (subst (λ v. Has x.tree (type_of_value w v)) e o.tree) (nat_eq n m) refl at
  fits_value x n at (pointer to) v e o t = fits_null x n to at o t
  fits_value x n at (structure number) (record_of m) e o t =
      same_type x.tree n m (subst (λ v. Has x.tree (type_of_value w v)) e o.tree) (nat_eq n m) refl at
  fits_value x n at y v e o t = record { is = tt }

  -- a target whose type is not known here has no value
  fits_at : (s : Shapes) (c : ComeTo s w.last) (x : Typed) (n at : ℕ) (y : Shape) → shape_of s n ≡ y → IsOperand w x → Gives (Fits n) (fitted_to (value_in y n) x x.value at)
  fits_at s c x n at (shape.whole kind) e o = fits_value x n at (shape.whole kind) x.value refl o (shape_on w s c n (shape.whole kind) (λ no_such. cc) e)
  fits_at s c x n at (pointer to) e o = fits_value x n at (pointer to) x.value refl o (shape_on w s c n (pointer to) (λ no_such. cc) e)
  fits_at s c x n at (structure number) e o = fits_value x n at (structure number) x.value refl o (shape_on w s c n (structure number) (λ no_such. cc) e)
  fits_at s c x n at void e o = record { is = tt }
  fits_at s c x n at (array of count) e o = record { is = tt }
  fits_at s c x n at (function r ps) e o = record { is = tt }

  pub fitted_rule : (s : Scopes) (at n : ℕ) (x : Typed) → ComeTo s.shapes w.last → IsOperand w x → Gives (Fits n) (fitted at n x s)
  fitted_rule s at n x c o = fits_at s.shapes c x n at (shape_of s.shapes n) refl o
