-- Calls of the program's functions and of the library.
use Rattle.std.proofs.Common.{◌≡◌, ◌<◌, ℕ, List, [], ◌∷◌, length, map, refl, sym, ap, subst, ◌∙◌, inl, inr, arith, Option, Some, None, Bool, true, false, Ok}
use Rattle.std.proofs.lemmas.Bool.{eqb-true}
use Rattle.std.proofs.lemmas.Option.{slice_get_within}
use Rattle.std.proofs.lemmas.List.Elements.{All-head, All-tail}
use Rattle.std.specs.Prelude.{⊤, nat_eq, ◌==◌, if◌then◌else◌}
use Rattle.std.specs.Option.{option_map}
use Rattle.porch_lex.specs.declared.refusal.Rule.TheVariants.{Mismatch, Unknown}
use Rattle.porch_tree.specs.Mirror.{Name}
use Rattle.porch_typed.specs.Mirror.{Expression, constant, conversion, discard, put_character, put_text, put_literal, print, allocate, release, checkpoint, Expressions, no_expressions, with_expression, Prints, no_prints, with_print}
use Rattle.porch_typed.specs.Mirror as tree
use Rattle.porch_typed.specs.Typed.{type_of_kind, shown_kind, AreBytes, IsWhole, IsPointerTo, OfType, HasType, HaveTypes, ArePrints, IsPrint, params_of}
use Rattle.porch_typed.specs.Typed as typed
use Rattle.porch_check.specs.Refusals.{refuse, and_then, found_or}
use Rattle.porch_check.specs.Shapes.{Shape, void, pointer, array, structure, function, Shapes, shape_of, VOID}
use Rattle.porch_check.specs.Shapes as shape
use Rattle.porch_check.specs.Scopes.{Scopes, of_name}
use Rattle.porch_check.specs.Operands.{Value, integer, Typed, typed_as, Form, operand, place, literal, size, sized, callee, library_callee, value_in, value_at, value_of, fitted}
use Rattle.porch_check.specs.Calls.{Argument, argument_values, fitted_all, number_of, call_of, program_call, Directive, byte, Mode, in_text, behind_percent, behind_l, Completed, one, not_yet, none_such, completed_in, mode_behind, with_completed, is_in_text, directives}
use Rattle.porch_check.specs.Sealing.{sealed_all}
use Rattle.porch_typing.specs.Shapes.{Each, IsKnown, IsShape, AreShapes, ComeTo, GoOn}
use Rattle.porch_typing.specs.States.{IsState, Holds, Gives}
use Rattle.porch_typing.specs.Ends.{End, IsEnd, IsScalarShape, IsCallable, seal}
use Rattle.porch_typing.specs.Forms.{IsKnownForm, Anything, type_of_value, IsValue, IsOperand, IsForm, Leads}
use Rattle.porch_typing.proofs.Lists.{each_weaker}
use Rattle.porch_typing.proofs.Shapes.{known_on, one_shape, is_shape, shape_is}
use Rattle.porch_typing.proofs.States.{follow, found, refused, so, pure, under, gives_all, gives_more, then_gives}
use Rattle.porch_typing.proofs.Ends.{known_shape_on}
use Rattle.porch_typing.proofs.Values.{as_operand, value_type, value_rule, Fits, fitted_rule}
use Rattle.porch_typing.proofs.Operators.{made}

pub form_on : (last : Shapes) (s t : Scopes) (f : Form) → GoOn last s.shapes t.shapes → IsKnownForm f s → IsKnownForm f t
form_on last s t (place p n) g k = known_on last s.shapes t.shapes n g k
form_on last s t (size n) g k = known_on last s.shapes t.shapes n g k
form_on last s t (sized x n) g k = known_on last s.shapes t.shapes n g k
form_on last s t (operand x) g k = tt
form_on last s t (literal bs) g k = tt
form_on last s t (callee n) g k = tt
form_on last s t (library_callee l) g k = tt

abbrev pub AreKnown : List Argument → Scopes → Type 0
AreKnown args s = Each (λ (a : Argument). IsKnownForm a.form s) args

pub forms_on : (last : Shapes) (s t : Scopes) (args : List Argument) → GoOn last s.shapes t.shapes → AreKnown args s → AreKnown args t
forms_on last s t args g k =
    each_weaker (λ (a : Argument). IsKnownForm a.form s) (λ (a : Argument). IsKnownForm a.form t) args (λ a e. form_on last s t a.form g e) k

-- Formats.

-- the bytes that a format shows
abbrev pub IsByte : Directive → Type 0
IsByte (byte c) = c < 256
IsByte d = ⊤

abbrev IsCompleted : Completed → Type 0
IsCompleted (one d) = IsByte d
IsCompleted c = ⊤

if_completed : (b : Bool) (x y : Completed) → IsCompleted x → IsCompleted y → IsCompleted (if b then x else y)
if_completed true x y p q = p
if_completed false x y p q = q

completed_byte : (m : Mode) (c : ℕ) → c < 256 → IsCompleted (completed_in m c)
completed_byte in_text c h = if_completed (c == 37) _ _ tt h
completed_byte behind_percent c h =
    if_completed (c == 37) _ _ (omega arith) (if_completed (c == 99) _ _ tt (if_completed (c == 100) _ _ tt (if_completed (c == 117) _ _ tt
    (if_completed (c == 120) _ _ tt (if_completed (c == 115) _ _ tt (if_completed (c == 108) _ _ tt tt))))))
completed_byte behind_l c h = if_completed (c == 100) _ _ tt (if_completed (c == 117) _ _ tt tt)

abbrev pub AreDirectives : Option (List Directive) → Type 0
AreDirectives None = ⊤
AreDirectives (Some ds) = Each IsByte ds

with_one : (d : Directive) (o : Option (List Directive)) → IsByte d → AreDirectives o → AreDirectives (option_map (λ ds. d ∷ ds) o)
with_one d None h k = tt
with_one d (Some ds) h k = (h, k)

completed_all : (c : Completed) (o : Option (List Directive)) → IsCompleted c → AreDirectives o → AreDirectives (with_completed c o)
completed_all (one d) o h k = with_one d o h k
completed_all (not_yet m) o h k = k
completed_all none_such o h k = tt

at_end_of : (b : Bool) → AreDirectives (if b then Some [] else None)
at_end_of true = tt
at_end_of false = tt

pub format_bytes : (m : Mode) (bs : List ℕ) → AreBytes bs → AreDirectives (directives m bs)
format_bytes m [] h = at_end_of (is_in_text m)
format_bytes m (c ∷ cs) h =
    completed_all (completed_in m c) (directives (mode_behind (completed_in m c)) cs) (completed_byte m c (All-head (λ b. b < 256) c cs h))
    (format_bytes (mode_behind (completed_in m c)) cs (All-tail (λ b. b < 256) c cs h))

module _ (w : End) (h : IsEnd w) where
  abbrev F : Form → Type 0
  F f = IsForm w f

  abbrev pub AreForms : List Argument → Type 0
  AreForms args = Each (λ (a : Argument). F a.form) args

  abbrev AreOperands : List (ℕ × Typed) → Type 0
  AreOperands xs = Each (λ (x : ℕ × Typed). IsOperand w x.1) xs

  values_rule : (args : List Argument) (s : Scopes) → IsState s → AreKnown args s
      → Holds (Leads w Anything (λ xs. AreForms args → AreOperands xs) s) (argument_values args s)
  values_rule [] s st k = found w s [] st tt (λ a c f. tt)
  values_rule (a ∷ args) s st k =
      follow w s (value_of a.at a.form s) _ (value_rule w h s a.at a.form st k.0) (λ x t g st2 k2.
      follow w t (argument_values args t) _ (values_rule args t st2 (forms_on w.last s t args g k.1)) (λ xs u g3 st3 k3.
      found w u ((a.at, x) ∷ xs) st3 tt (λ ag c rest first f. (first f.0, rest f.1))))

  abbrev HaveAll : List ℕ → Expressions → Type 0
  HaveAll ts es = HaveTypes w.program w.function (sealed_all (seal w) es) (map (seal w) ts)

  all_fitted : (s : Scopes) (c : ComeTo s.shapes w.last) (ts : List ℕ) (xs : List (ℕ × Typed)) → length ts ≡ length xs → AreOperands xs
      → Gives (HaveAll ts) (fitted_all ts xs s)
  all_fitted s c [] [] e o = record { is = tt }
  all_fitted s c (t ∷ ts) (x ∷ xs) e o =
      then_gives (Fits w h t) (HaveAll (t ∷ ts)) (fitted x.0 t x.1 s) _ (fitted_rule w h s x.0 t x.1 c o.0) (λ a i.
      made (HaveAll ts) (HaveAll (t ∷ ts)) (fitted_all ts xs s) (λ es. with_expression a es) (all_fitted s c ts xs (omega (arith, e)) o.1) (λ es j. (i, j)))
  all_fitted s c [] (x ∷ xs) e o = absurd (omega (arith, e))
  all_fitted s c (t ∷ ts) [] e o = absurd (omega (arith, e))

  -- what a call gives

  abbrev IsResult : (result : ℕ) → Value → Type 0
  IsResult result v = (type_of_value w v ≡ (if nat_eq result VOID then None else Some (seal w result))) × IsValue w v

  void_result : (s : Shapes) (result : ℕ) (x : Shape) → AreShapes s → shape_of s result ≡ x → result ≡ VOID → IsResult result (value_in x result)
  void_result s result x st e v =
      let at_void : shape_of s VOID ≡ x = subst (λ n. shape_of s n ≡ x) v e in
      let same : void ≡ x = sym (shape_is s VOID void st.void) ∙ at_void in
      subst (λ x. IsResult result (value_in x result)) same (subst (λ n. IsResult n (value_in void n)) (sym v) (refl, tt))

  not_void : (s : Shapes) (result : ℕ) (x : Shape) → AreShapes s → shape_of s result ≡ x → IsScalarShape x → (b : Bool) → nat_eq result VOID ≡ b
      → (ty : Option ℕ) → ty ≡ Some (seal w result) → ty ≡ (if b then None else Some (seal w result))
  not_void s result x st e scalar false same ty t = t
  not_void s result x st e scalar true same ty t =
      (let v = eqb-true result VOID same in
      let at_void : shape_of s VOID ≡ x = subst (λ n. shape_of s n ≡ x) v e in
      let void_is : void ≡ x = sym (shape_is s VOID void st.void) ∙ at_void in
      absurd (subst (λ x. IsScalarShape x) (sym void_is) scalar))

  scalar_result : (s : Shapes) (result : ℕ) (x : Shape) → AreShapes s → shape_of s result ≡ x → IsShape w.last result x → IsScalarShape x
      → IsResult result (value_in x result)
  scalar_result s result (shape.whole kind) st e t scalar =
      (not_void s result (shape.whole kind) st e tt (nat_eq result VOID) refl (type_of_value w (integer kind)) (value_type w h result (shape.whole kind) tt t), tt)
  scalar_result s result (pointer to) st e t scalar =
      (not_void s result (pointer to) st e tt (nat_eq result VOID) refl (Some (seal w result)) refl, t)
  scalar_result s result void st e t scalar = absurd scalar
  scalar_result s result (array of count) st e t scalar = absurd scalar
  scalar_result s result (structure own) st e t scalar = absurd scalar
  scalar_result s result (function r ps) st e t scalar = absurd scalar

  result_given : (s : Shapes) (k n result : ℕ) (params : List ℕ) → AreShapes s → ComeTo s w.last → IsKnown s result → (i : IsCallable w k n)
      → i.result ≡ result → IsResult result (value_at s result)
  result_given s k n result params st c known i same =
      let t = known_shape_on w s c result (shape_of s result) known refl in
      elim (i.scalar (shape_of s result) (subst (λ r. IsShape w.last r (shape_of s result)) (sym same) t)) [
        | inl v ↦ void_result s result (shape_of s result) st refl (sym same ∙ v)
        | inr scalar ↦ scalar_result s result (shape_of s result) st refl t scalar
      ]

  called_as : (s : Shapes) (k n result : ℕ) (params : List ℕ) (es : Expressions) → AreShapes s → ComeTo s w.last → IsKnown s result → IsShape w.last n (function result params)
      → IsCallable w k n → HaveAll params es → F (operand (typed_as (tree.call k es) (value_at s result)))
  called_as s k n result params es st c known t i all =
      let same = one_shape w.last n (function i.result i.params) (function result params) i.shape t in
      let same_result : i.result ≡ result = cc in
      let same_params : i.params ≡ params = cc in
      let gives = result_given s k n result params st c known i same_result in
      as_operand w h (tree.call k es) (value_at s result) (
        gives.0 ∙ ap (λ r. if nat_eq r VOID then None else Some (seal w r)) (sym same_result) ∙ sym i.gives
            ∙ sym (ap (λ o. typed.result_of w.program w.function o) i.here),
        slice_get_within w.program.functions k i.function i.here,
        subst (λ ts. HaveTypes w.program w.function (sealed_all (seal w) es) ts)
            (ap (map (seal w)) (sym same_params) ∙ sym i.takes ∙ sym (ap (λ o. params_of w.program w.function o) i.here)) all,
      ) gives.1

  abbrev Calls : ℕ → ℕ → List Argument → Form → Type 0
  Calls k n args f = IsCallable w k n → AreForms args → F f

  call_at : (k at n : ℕ) (x : Shape) (args : List Argument) (s : Scopes) → IsState s → shape_of s.shapes n ≡ x → AreKnown args s
      → Holds (Leads w IsKnownForm (Calls k n args) s) (call_of k at x args s)
  call_at k at n (function result params) args s st e known =
      (let here = is_shape s.shapes n (function result params) (λ no_such. cc) e in
      follow w s (argument_values args s) _ (values_rule args s st known) (λ xs t g st2 k2.
      with_count result params xs t st2 (known_on w.last s.shapes t.shapes result g (st.shapes.parts n (function result params) here).0)
      (λ c. c.shapes n (function result params) (g.kept n (function result params) here))))
    where
      with_count : (result : ℕ) (params : List ℕ) (xs : List (ℕ × Typed)) (t : Scopes) → IsState t → IsKnown t.shapes result
          → (ComeTo t.shapes w.last → IsShape w.last n (function result params))
          → Holds (Leads w IsKnownForm (λ f. (AreForms args → AreOperands xs) → Calls k n args f) t)
          (if nat_eq (length params) (length xs) then and_then (fitted_all params xs t) (λ es. Ok (operand (typed_as (tree.call k es) (value_at t.shapes result)), t)) else refuse Mismatch at)
      with_count result params xs t st known shape_at = counted_by (nat_eq (length params) (length xs)) refl
        where
          counted_by : (b : Bool) → nat_eq (length params) (length xs) ≡ b
              → Holds (Leads w IsKnownForm (λ f. (AreForms args → AreOperands xs) → Calls k n args f) t)
              (if b then and_then (fitted_all params xs t) (λ es. Ok (operand (typed_as (tree.call k es) (value_at t.shapes result)), t)) else refuse Mismatch at)
          counted_by true same =
              pure w t (fitted_all params xs t) (λ es. operand (typed_as (tree.call k es) (value_at t.shapes result))) st (gives_all _ (λ e. tt))
              (λ ag c. under _ (λ values. under _ (λ i. under _ (λ forms.
              gives_more (HaveAll params) (λ es. F (operand (typed_as (tree.call k es) (value_at t.shapes result)))) (fitted_all params xs t)
              (all_fitted t c params xs (eqb-true (length params) (length xs) same) (values forms))
              (λ es all. called_as t.shapes k n result params es st.shapes c known (shape_at c) i all)))))
          counted_by false same = refused w _
  call_at k at n x args s st e known = refused w _

  pub program_rule : (at : ℕ) (n : Name) (args : List Argument) (s : Scopes) → IsState s → AreKnown args s
      → Holds (Leads w IsKnownForm (λ f. F (callee n) → AreForms args → F f) s) (program_call w.bodies at n args s)
  program_rule at n args s st known = by (of_name n.bytes s.declared) refl
    where
      by : (o : Option ℕ) → of_name n.bytes s.declared ≡ o
          → Holds (Leads w IsKnownForm (λ f. F (callee n) → AreForms args → F f) s)
          (found_or o Unknown n.at (λ x. call_of (number_of n.bytes w.bodies) at (shape_of s.shapes x) args s))
      by None e = refused w _
      by (Some x) e =
          so w s _ (call_at (number_of n.bytes w.bodies) at x (shape_of s.shapes x) args s st refl known)
          (λ f a calls body forms. calls (a.declared n.bytes x e body) forms)
