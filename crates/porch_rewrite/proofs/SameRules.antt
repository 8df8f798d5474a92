-- What a rule looks at in a command, but for where it may jump to, is the same in the rewritten program.
use Rattle.std.proofs.Common.{◌≡◌, ℕ, List, [], ◌∷◌, length, refl, sym, ap, ◌∙◌, Bool, Option, Some, None}
use Rattle.std.specs.Prelude.{slice_get, nat_lt, is_some, ◌==◌, ◌&&◌, ◌||◌, if◌then◌else◌}
use Rattle.std.specs.List.{list_all}
use Rattle.porch_flat.specs.declared.flat.Operand.{Operand}
use Rattle.porch_flat.specs.declared.flat.Operand.TheVariants.{Var, Constant}
use Rattle.porch_flat.specs.declared.whole.Display.{Display}
use Rattle.porch_flat.specs.declared.whole.Display.TheVariants as display
use Rattle.porch_flat.specs.declared.whole.Command.{Command}
use Rattle.porch_flat.specs.declared.whole.Function.{Function}
use Rattle.porch_flat.specs.declared.whole.Flat.{Flat}
use Rattle.porch_values.specs.declared.acts.Op.{Op}
use Rattle.porch_values.specs.Integers.{is_shift}
use Rattle.porch_flat.specs.whole.Form as form
use Rattle.porch_flat.specs.whole.Form.{Form, form_of, Within, operands_of, variables_of, free_numbers_of}
use Rattle.porch_flat.specs.whole.Places.{INT, LONG, Place, place, places_of, params_of, result_of, own_type, compared_type, right_type, shown_type, argument_places, type_within, type_of_var, pointee_of_var, type_at}
use Rattle.porch_flat.specs.whole.Rules.{names_variable, names_rest, has_numbers, is_number_of, fits, has_kinds, fit_kinds, has_constant, has_arity, gives_result, takes_result, is_wide, is_pointer, begins_at, are_alike}
use Rattle.porch_flat.specs.whole.Rewritten.{same_number}
use Rattle.porch_rewrite.specs.Rewriting.{with_commands, rewritten}
use Rattle.porch_rewrite.proofs.Steps.{same_params, same_result}
use Rattle.porch_rewrite.proofs.SameReach.{same_length}

all_same : {X : Type 0} (p q : X → Bool) (xs : List X) → ((x : X) → p x ≡ q x) → list_all p xs ≡ list_all q xs
all_same p q [] same = refl
all_same p q (x ∷ xs) same = rw (same x, all_same p q xs same) refl

module _ (flat : Flat) (f : Function) (cs : List Command) where
  abbrev made : Flat
  made = rewritten flat

  abbrev f' : Function
  f' = with_commands f cs

  own_same : (ty : ℕ) (o : Operand) → own_type f' ty o ≡ own_type f ty o
  own_same ty (Var v) = refl
  own_same ty (Constant z) = refl

  compared_same : (a b : Operand) → compared_type f' a b ≡ compared_type f a b
  compared_same (Var v) b = refl
  compared_same (Constant z) b = own_same INT b

  right_same : (op : Op) (v : ℕ) (o : Operand) → right_type f' op v o ≡ right_type f op v o
  right_same op v o = ap (λ ty. if is_shift op then ty else type_of_var f v) (own_same INT o)

  shown_same : (how : Display) (o : Operand) → shown_type f' how o ≡ shown_type f how o
  shown_same display.Char o = refl
  shown_same display.Dec o = own_same LONG o
  shown_same display.Hex o = refl

  within_same : (within : Within) → type_within made f' within ≡ type_within flat f within
  within_same (form.variable w) = refl
  within_same (form.global g) = refl
  within_same (form.pointee p) = refl

  returned_same : (o : Option Operand) → places_of made f' (form.return o) ≡ places_of flat f (form.return o)
  returned_same None = refl
  returned_same (Some o) = refl

  places_same : (g : Form) → places_of made f' g ≡ places_of flat f g
  places_same (form.move v o) = refl
  places_same (form.cast v w) = refl
  places_same (form.operator op v a b) = ap (λ ty. place a (type_of_var f v) ∷ place b ty ∷ []) (right_same op v b)
  places_same (form.complement v o) = refl
  places_same (form.comparison c v a b) = ap (λ ty. place a ty ∷ place b ty ∷ []) (compared_same a b)
  places_same (form.subobject v within leaf) = refl
  places_same (form.step way v p o) = ap (λ ty. place o ty ∷ []) (own_same LONG o)
  places_same (form.difference v p q) = refl
  places_same (form.load v p) = refl
  places_same (form.store p o) = refl
  places_same (form.copy p q) = refl
  places_same (form.kill v) = refl
  places_same (form.allocate zeros v o) = ap (λ ty. place o ty ∷ []) (own_same LONG o)
  places_same (form.free p) = refl
  places_same (form.show how v o) = ap (λ ty. place o ty ∷ []) (shown_same how o)
  places_same (form.text v p) = refl
  places_same (form.label n) = refl
  places_same (form.jump n) = refl
  places_same (form.branch o n) = refl
  places_same form.turn = refl
  places_same (form.call r g os) = ap (λ tys. argument_places os tys) (sym (same_params flat g))
  places_same (form.return o) = returned_same o
  places_same form.checkpoint = refl
  places_same (form.restore vs) = refl
  places_same (form.table k n) = refl
  places_same (form.saved k n) = refl
  places_same (form.push vs) = refl

  names_same : (o : Operand) → names_variable f' o ≡ names_variable f o
  names_same (Var v) = refl
  names_same (Constant z) = refl

  rest_same : (g : Form) → names_rest made f' g ≡ names_rest flat f g
  rest_same (form.subobject v within leaf) = rest_within within
    where
      rest_within : (within : Within) → names_rest made f' (form.subobject v within leaf) ≡ names_rest flat f (form.subobject v within leaf)
      rest_within (form.variable w) = refl
      rest_within (form.global g) = refl
      rest_within (form.pointee p) = refl
  rest_same (form.call r g os) = ap (λ l. nat_lt g l) (same_length flat)
  rest_same (form.move v o) = refl
  rest_same (form.cast v w) = refl
  rest_same (form.operator op v a b) = refl
  rest_same (form.complement v o) = refl
  rest_same (form.comparison c v a b) = refl
  rest_same (form.step way v p o) = refl
  rest_same (form.difference v p q) = refl
  rest_same (form.load v p) = refl
  rest_same (form.store p o) = refl
  rest_same (form.copy p q) = refl
  rest_same (form.kill v) = refl
  rest_same (form.allocate zeros v o) = refl
  rest_same (form.free p) = refl
  rest_same (form.show how v o) = refl
  rest_same (form.text v p) = refl
  rest_same (form.label n) = refl
  rest_same (form.jump n) = refl
  rest_same (form.branch o n) = refl
  rest_same form.turn = refl
  rest_same (form.return o) = refl
  rest_same form.checkpoint = refl
  rest_same (form.restore vs) = refl
  rest_same (form.table k n) = refl
  rest_same (form.saved k n) = refl
  rest_same (form.push vs) = refl

  pub numbers_same : (g : Form) → has_numbers made f' g ≡ has_numbers flat f g
  numbers_same g =
      ap (λ b. list_all (λ v. nat_lt v (length f.vars)) (variables_of g) && b && list_all is_number_of (free_numbers_of g) && names_rest made f' g) (all_same (names_variable f') (names_variable f) (operands_of g) names_same)
      ∙ ap (λ b. list_all (λ v. nat_lt v (length f.vars)) (variables_of g) && list_all (names_variable f) (operands_of g) && list_all is_number_of (free_numbers_of g) && b) (rest_same g)

  fits_by : (o : Operand) (ty : Option ℕ) → fits f' (place o ty) ≡ fits f (place o ty)
  fits_by (Var v) ty = refl
  fits_by (Constant z) ty = refl

  fits_same : (p : Place) → fits f' p ≡ fits f p
  fits_same p = fits_by p.operand p.ty

  kinds_same : (g : Form) → has_kinds made f' g ≡ has_kinds flat f g
  kinds_same (form.operator op v a b) = ap (λ ty. is_wide (type_at flat (type_of_var f v)) && is_wide (type_at flat ty)) (right_same op v b)
  kinds_same (form.comparison c v a b) = ap (λ ty. same_number (type_of_var f v) (Some INT) && (is_wide (type_at flat ty) || is_pointer (type_at flat ty))) (compared_same a b)
  kinds_same (form.subobject v within leaf) = ap (λ root. begins_at flat.types root (pointee_of_var flat f v) leaf) (within_same within)
  kinds_same (form.step way v p o) = ap (λ ty. are_alike flat f v p && is_wide (type_at flat ty)) (own_same LONG o)
  kinds_same (form.allocate zeros v o) = ap (λ ty. is_pointer (type_at flat (type_of_var f v)) && is_wide (type_at flat ty)) (own_same LONG o)
  kinds_same (form.show how v o) = ap (λ ps. same_number (type_of_var f v) (Some INT) && list_all (λ p. is_wide (type_at flat p.ty)) ps) (places_same (form.show how v o))
  kinds_same (form.move v o) = refl
  kinds_same (form.cast v w) = refl
  kinds_same (form.complement v o) = refl
  kinds_same (form.difference v p q) = refl
  kinds_same (form.load v p) = refl
  kinds_same (form.store p o) = refl
  kinds_same (form.copy p q) = refl
  kinds_same (form.kill v) = refl
  kinds_same (form.free p) = refl
  kinds_same (form.text v p) = refl
  kinds_same (form.label n) = refl
  kinds_same (form.jump n) = refl
  kinds_same (form.branch o n) = refl
  kinds_same form.turn = refl
  kinds_same (form.call r g os) = refl
  kinds_same (form.return o) = refl
  kinds_same form.checkpoint = refl
  kinds_same (form.restore vs) = refl
  kinds_same (form.table k n) = refl
  kinds_same (form.saved k n) = refl
  kinds_same (form.push vs) = refl

  all_fit : (g : Form) → list_all (fits f') (places_of made f' g) ≡ list_all (fits f) (places_of flat f g)
  all_fit g = ap (λ ps. list_all (fits f') ps) (places_same g) ∙ all_same (fits f') (fits f) (places_of flat f g) fits_same

  fit_kinds_same : (g : Form) → fit_kinds made f' g ≡ fit_kinds flat f g
  fit_kinds_same (form.call r g os) = refl
  fit_kinds_same (form.return o) = refl
  fit_kinds_same (form.move v o) = all_fit (form.move v o)
  fit_kinds_same (form.cast v w) = all_fit (form.cast v w)
  fit_kinds_same (form.operator op v a b) = all_fit (form.operator op v a b)
  fit_kinds_same (form.complement v o) = all_fit (form.complement v o)
  fit_kinds_same (form.comparison c v a b) = all_fit (form.comparison c v a b)
  fit_kinds_same (form.subobject v within leaf) = all_fit (form.subobject v within leaf)
  fit_kinds_same (form.step way v p o) = all_fit (form.step way v p o)
  fit_kinds_same (form.difference v p q) = all_fit (form.difference v p q)
  fit_kinds_same (form.load v p) = all_fit (form.load v p)
  fit_kinds_same (form.store p o) = all_fit (form.store p o)
  fit_kinds_same (form.copy p q) = all_fit (form.copy p q)
  fit_kinds_same (form.kill v) = all_fit (form.kill v)
  fit_kinds_same (form.allocate zeros v o) = all_fit (form.allocate zeros v o)
  fit_kinds_same (form.free p) = all_fit (form.free p)
  fit_kinds_same (form.show how v o) = all_fit (form.show how v o)
  fit_kinds_same (form.text v p) = all_fit (form.text v p)
  fit_kinds_same (form.label n) = all_fit (form.label n)
  fit_kinds_same (form.jump n) = all_fit (form.jump n)
  fit_kinds_same (form.branch o n) = all_fit (form.branch o n)
  fit_kinds_same form.turn = all_fit form.turn
  fit_kinds_same form.checkpoint = all_fit form.checkpoint
  fit_kinds_same (form.restore vs) = all_fit (form.restore vs)
  fit_kinds_same (form.table k n) = all_fit (form.table k n)
  fit_kinds_same (form.saved k n) = all_fit (form.saved k n)
  fit_kinds_same (form.push vs) = all_fit (form.push vs)

  pub kind_same : (g : Form) → has_kinds made f' g && fit_kinds made f' g ≡ has_kinds flat f g && fit_kinds flat f g
  kind_same g = ap (λ b. b && fit_kinds made f' g) (kinds_same g) ∙ ap (λ b. has_kinds flat f g && b) (fit_kinds_same g)

  constant_by : (o : Operand) (ty : Option ℕ) → has_constant made o ty ≡ has_constant flat o ty
  constant_by (Var v) ty = refl
  constant_by (Constant z) ty = refl

  pub constants_same : (g : Form) → list_all (λ p. has_constant made p.operand p.ty) (places_of made f' g) ≡ list_all (λ p. has_constant flat p.operand p.ty) (places_of flat f g)
  constants_same g =
      ap (λ ps. list_all (λ (p : Place). has_constant made p.operand p.ty) ps) (places_same g)
      ∙ all_same (λ (p : Place). has_constant made p.operand p.ty) (λ (p : Place). has_constant flat p.operand p.ty) (places_of flat f g) (λ p. constant_by p.operand p.ty)

  takes_same : (r : Option ℕ) (ty ty' : Option ℕ) → ty ≡ ty' → takes_result f' r ty ≡ takes_result f r ty'
  takes_same None ty ty' same = refl
  takes_same (Some v) ty ty' same = ap (λ ty. same_number (type_of_var f v) ty) same

  gives_same : (o : Option Operand) → gives_result f' o ≡ gives_result f o
  gives_same None = refl
  gives_same (Some o) = ap (λ b. is_some f.result && b) (fits_by o f.result)

  pub arity_same : (g : Form) → has_arity made f' g ≡ has_arity flat f g
  arity_same (form.call r g os) =
      ap (λ tys. (length os == length tys) && list_all (fits f') (places_of made f' (form.call r g os)) && takes_result f' r (result_of (slice_get made.functions g))) (sym (same_params flat g))
      ∙ ap (λ b. (length os == length (params_of (slice_get flat.functions g))) && b && takes_result f' r (result_of (slice_get made.functions g))) (all_fit (form.call r g os))
      ∙ ap (λ b. (length os == length (params_of (slice_get flat.functions g))) && list_all (fits f) (places_of flat f (form.call r g os)) && b)
      (takes_same r (result_of (slice_get made.functions g)) (result_of (slice_get flat.functions g)) (sym (same_result flat g)))
  arity_same (form.return o) = gives_same o
  arity_same (form.move v o) = refl
  arity_same (form.cast v w) = refl
  arity_same (form.operator op v a b) = refl
  arity_same (form.complement v o) = refl
  arity_same (form.comparison c v a b) = refl
  arity_same (form.subobject v within leaf) = refl
  arity_same (form.step way v p o) = refl
  arity_same (form.difference v p q) = refl
  arity_same (form.load v p) = refl
  arity_same (form.store p o) = refl
  arity_same (form.copy p q) = refl
  arity_same (form.kill v) = refl
  arity_same (form.allocate zeros v o) = refl
  arity_same (form.free p) = refl
  arity_same (form.show how v o) = refl
  arity_same (form.text v p) = refl
  arity_same (form.label n) = refl
  arity_same (form.jump n) = refl
  arity_same (form.branch o n) = refl
  arity_same form.turn = refl
  arity_same form.checkpoint = refl
  arity_same (form.restore vs) = refl
  arity_same (form.table k n) = refl
  arity_same (form.saved k n) = refl
  arity_same (form.push vs) = refl
