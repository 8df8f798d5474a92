-- Names, literals, sizes, calls of the program's functions and of the library.
use Rattle.std.proofs.Common.{◌≡◌, ℕ, pos, List, [], ◌∷◌, refl, inl, inr, ◌⊎◌, Option, Some, None, Bool, true, false}
use Rattle.std.specs.Prelude.{if◌then◌else◌}
use Rattle.std.specs.List.{list_any}
use Rattle.std.specs.Str.{bytes_eq}
use Rattle.porch_lex.specs.declared.refusal.Rule.TheVariants.{Mismatch, Unknown, Format}
use Rattle.porch_types.specs.declared.shapes.Kind.TheVariants.{Int}
use Rattle.porch_tree.specs.Mirror.{Name, Expr}
use Rattle.porch_typed.specs.Mirror.{constant}
use Rattle.porch_typed.specs.Typed.{AreBytes}
use Rattle.porch_check.specs.Refusals.{refuse}
use Rattle.porch_check.specs.Scopes.{Library, of_printf, of_puts, of_putchar, of_malloc, of_calloc, of_free, of_checkpoint, Meaning, Scope, Scopes, of_name, or_else, name_in, meaning_of, with_shape}
use Rattle.porch_check.specs.Scopes as scope
use Rattle.porch_check.specs.Operands.{integer, no_address, Form, operand, place, literal, size, sized, callee, library_callee, Context, called}
use Rattle.porch_check.specs.Calls.{is_called, is_shown, name_form, literal_form, allows_size, is_size_of, size_form, size_of_place, size_of_form}
use Rattle.porch_typing.specs.Shapes.{Each, IsKnown}
use Rattle.porch_typing.specs.States.{IsMeaning, IsScope, IsState, Gives}
use Rattle.porch_typing.specs.Ends.{End, IsEnd, IsComplete, IsMeant, AreMeant, Agrees}
use Rattle.porch_typing.specs.Forms.{IsKnownForm, IsForm}
use Rattle.porch_typing.proofs.Values.{as_operand}
use Rattle.porch_typing.proofs.Operators.{by_test}

-- What a name means, in the scopes from the innermost on.

either_scope : (x : List ℕ) (o p : Option Meaning) (m : Meaning) → or_else o p ≡ Some m → (o ≡ Some m) ⊎ (p ≡ Some m)
either_scope x None p m e = inr e
either_scope x (Some n) p m e = inl e

in_scopes : (P : Scope → Type 0) (Q : Meaning → Type 0) → ((c : Scope) → P c → (x : List ℕ) (m : Meaning) → of_name x c.names ≡ Some m → Q m)
    → (cs : List Scope) → Each P cs → (x : List ℕ) (m : Meaning) → name_in x cs ≡ Some m → Q m
in_scopes P Q k [] h x m e = absurd (cc)
in_scopes P Q k (c ∷ cs) h x m e =
    elim (either_scope x (of_name x c.names) (name_in x cs) m e) [
      | inl own ↦ k c h.0 x m own
      | inr outer ↦ in_scopes P Q k cs h.1 x m outer
    ]

pub known_meaning : (s : Scopes) → IsState s → (x : List ℕ) (m : Meaning) → meaning_of x s ≡ Some m → IsMeaning s.shapes m
known_meaning s st x m e =
    in_scopes (IsScope s.shapes) (IsMeaning s.shapes) (λ c h. h.names) (s.inner ∷ s.outer) (st.inner, st.outer) x m e

module _ (w : End) where
  pub meant : (s : Scopes) → Agrees w s → (x : List ℕ) (m : Meaning) → meaning_of x s ≡ Some m → IsMeant w m
  meant s a x m e = in_scopes (AreMeant w) (IsMeant w) (λ c h. h) (s.inner ∷ s.outer) (a.inner, a.outer) x m e

-- Names, literals and sizes.

pub name_known : (bodies : List (List ℕ)) (n : Name) (c : Context) (m : Meaning) (s : Scopes) → IsMeaning s.shapes m → Gives (λ f. IsKnownForm f s) (name_form bodies n c m)
name_known bodies n c (scope.variable k x) s h = record { is = h }
name_known bodies n c (scope.global k x) s h = record { is = h }
name_known bodies n c (scope.type_name x) s h = record { is = tt }
name_known bodies n c (scope.enumerator z) s h = record { is = tt }
name_known bodies n called scope.function s h = by_test (λ f. IsKnownForm f s) (list_any (bytes_eq n.bytes) bodies) _ _ n.at (λ e. tt)
name_known bodies n c scope.function s h = record { is = tt }
name_known bodies n c (scope.library l) s h = by_test (λ f. IsKnownForm f s) (is_called c) _ _ n.at (λ e. tt)
name_known bodies n c scope.null s h = record { is = tt }

module _ (w : End) (h : IsEnd w) where
  abbrev F : Form → Type 0
  F f = IsForm w f

  pub name_rule : (n : Name) (c : Context) (m : Meaning) → IsMeant w m → Gives F (name_form w.bodies n c m)
  name_rule n c (scope.variable k x) m = record { is = m }
  name_rule n c (scope.global k x) m = record { is = m }
  name_rule n c (scope.type_name x) m = record { is = tt }
  name_rule n c (scope.enumerator z) m = record { is = as_operand w h (constant Int z) (integer Int) (refl, m) tt }
  name_rule n called scope.function m = by_test F (list_any (bytes_eq n.bytes) w.bodies) _ _ n.at (λ e. e)
  name_rule n c scope.function m = record { is = tt }
  name_rule n c (scope.library l) m = by_test F (is_called c) _ _ n.at (λ e. tt)
  name_rule n c scope.null m = record { is = as_operand w h (constant Int (pos 0)) no_address (refl, refl) tt }

  pub literal_rule : (at : ℕ) (bs : List ℕ) (c : Context) → AreBytes bs → Gives F (literal_form at bs c)
  literal_rule at bs c h = by_test F (is_shown c) _ _ at (λ e. h)

  pub size_rule : (at : ℕ) (c : Context) (n : ℕ) → IsComplete w n → Gives F (size_form at c n)
  size_rule at c n k = by_test F (allows_size c) _ _ at (λ e. k)

  size_of_at : (at : ℕ) (c : Context) (f : Form) → F f → Gives F (size_of_place at c f)
  size_of_at at c (place p n) f = size_rule at c n f.1
  size_of_at at c (operand x) f = record { is = tt }
  size_of_at at c (literal bs) f = record { is = tt }
  size_of_at at c (size n) f = record { is = tt }
  size_of_at at c (sized x n) f = record { is = tt }
  size_of_at at c (callee n) f = record { is = tt }
  size_of_at at c (library_callee l) f = record { is = tt }

  pub size_of_rule : (at : ℕ) (c : Context) (e : Expr) (f : Form) → F f → Gives F (size_of_form at c e f)
  size_of_rule at c e f k = by (is_size_of e)
    where
      by : (b : Bool) → Gives F (if b then size_of_place at c f else refuse Rattle.porch_lex.specs.declared.refusal.Rule.TheVariants.SizeofPlace at)
      by true = size_of_at at c f k
      by false = record { is = tt }

-- literals and sizes whose types are known
module _ (s : Scopes) where
  pub literal_known : (at : ℕ) (bs : List ℕ) (c : Context) → Gives (λ f. IsKnownForm f s) (literal_form at bs c)
  literal_known at bs c = by_test (λ f. IsKnownForm f s) (is_shown c) _ _ at (λ e. tt)

  pub size_known : (at : ℕ) (c : Context) (n : ℕ) → IsKnown s.shapes n → Gives (λ f. IsKnownForm f s) (size_form at c n)
  size_known at c n k = by_test (λ f. IsKnownForm f s) (allows_size c) _ _ at (λ e. k)

  size_of_at_known : (at : ℕ) (c : Context) (f : Form) → IsKnownForm f s → Gives (λ f. IsKnownForm f s) (size_of_place at c f)
  size_of_at_known at c (place p n) k = size_known at c n k
  size_of_at_known at c f k = record { is = tt }

  pub size_of_known : (at : ℕ) (c : Context) (e : Expr) (f : Form) → IsKnownForm f s → Gives (λ f. IsKnownForm f s) (size_of_form at c e f)
  size_of_known at c e f k = by (is_size_of e)
    where
      by : (b : Bool) → Gives (λ f. IsKnownForm f s) (if b then size_of_place at c f else refuse Rattle.porch_lex.specs.declared.refusal.Rule.TheVariants.SizeofPlace at)
      by true = size_of_at_known at c f k
      by false = record { is = tt }
