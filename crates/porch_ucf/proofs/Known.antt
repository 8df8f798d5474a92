-- In a valid program the types of globals and variables are known.
use Rattle.std.proofs.Common.{◌≡◌, ℕ, zero, suc, ◌+◌, ◌-◌, ◌<◌, Bool, true, false, nat_lt, List, [], ◌∷◌, ◌++◌, length, drop, slice_get, get_or, Some, All, refl, ap, sym, ◌∙◌, subst, arith}
use Rattle.std.specs.List.{flat_map, list_all}
use Rattle.std.proofs.lemmas.List.Elements.{All-append, All-cons, All-head, All-nil, All-tail}
use Rattle.std.proofs.lemmas.List.{take-append-drop}
use Rattle.std.proofs.lemmas.Option.{none-some, same_Some}
use Rattle.std.proofs.lemmas.Bool.{ltb-true, and_parts}
use Rattle.std.proofs.lemmas.Bool.Decides.{nat_tests}
use Rattle.porch_types.specs.declared.shapes.Ty.{Ty}
use Rattle.porch_types.specs.declared.shapes.Ty.TheVariants.{Pointer}
use Rattle.porch_types.specs.Leaves.{IsTypes, kind_types}
use Rattle.porch_flat.specs.declared.flat.GlobalObject.{GlobalObject}
use Rattle.porch_flat.specs.declared.whole.FlatRule.TheVariants as rule
use Rattle.porch_flat.specs.declared.whole.Function.{Function}
use Rattle.porch_flat.specs.declared.whole.Flat.{Flat}
use Rattle.porch_flat.specs.declared.whole.Sort.{Sort}
use Rattle.porch_flat.specs.whole.Lines.{Line, type_lines, init_lines, global_lines, var_lines, command_lines, function_lines, lines_of, line_at}
use Rattle.porch_flat.specs.whole.Places.{vars_of}
use Rattle.porch_flat.specs.whole.Rules.{IsValid, is_type, keeps_number, named_types}
use Rattle.porch_ucf.specs.declared.image.BlockRow.{BlockRow}
use Rattle.porch_ucf.specs.Objects.{frame_objects, objects_of, single}
use Rattle.porch_ucf.specs.declared.image.FrameRow.{FrameRow}

all_flat : {X A : Type 0} (P : A → Type 0) (f : X → List A) (xs : List X) → All (λ x. All P (f x)) xs → All P (flat_map f xs)
all_flat P f [] h = All-nil P
all_flat P f (x ∷ xs) h = All-append P (f x) (flat_map f xs) (All-head (λ x. All P (f x)) x xs h) (all_flat P f xs (All-tail (λ x. All P (f x)) x xs h))

abbrev Each : {X : Type 0} → (X → Type 0) → List X → Type 0
Each P [] = Unit {0}
Each P (x ∷ xs) = P x × Each P xs

each_of : {X : Type 0} (P : X → Type 0) (xs : List X) → ((i : ℕ) (x : X) → slice_get xs i ≡ Some x → P x) → Each P xs
each_of P [] h = tt
each_of P (x ∷ xs) h = (h 0 x refl, each_of P xs (λ i y e. h (suc i) y e))

each_at : {X : Type 0} (P : X → Type 0) (xs : List X) (i : ℕ) (d : X) → i < length xs → Each P xs → P (get_or xs i d)
each_at P [] i d lt e = absurd (omega (arith, lt))
each_at P (x ∷ xs) zero d lt e = e.0
each_at P (x ∷ xs) (suc i) d lt e = each_at P xs i d (omega (arith, lt)) e.1

each_all : {X : Type 0} (P : X → Type 0) (xs : List X) → Each P xs → All P xs
each_all P xs e = λ i d lt. each_at P xs i d lt e

behind : {X : Type 0} (P : X → Type 0) (xs ys : List X) → Each P (xs ++ ys) → Each P ys
behind P [] ys e = e
behind P (x ∷ xs) ys e = behind P xs ys e.1

before : {X : Type 0} (P : X → Type 0) (xs ys : List X) → Each P (xs ++ ys) → Each P xs
before P [] ys e = tt
before P (x ∷ xs) ys e = (e.0, before P xs ys e.1)

line_there : (flat : Flat) (i : ℕ) (line : Line) → slice_get (lines_of flat) i ≡ Some line → line_at flat (i + 3) ≡ Some line
line_there flat i line e =
    let late : nat_lt (i + 3) 3 ≡ false = grind (arith, nat_tests) in
    let same : i + 3 - 3 ≡ i = omega arith in
    rw (late, same) e

module _ (flat : Flat) where
  abbrev Kept : Line → Type 0
  Kept line = keeps_number flat line ≡ true

  abbrev IsKnown : ℕ → Type 0
  IsKnown ty = ty < length flat.types

  globals_known : (n : ℕ) (gs : List GlobalObject) → Each Kept (global_lines n gs) → Each (λ g. IsKnown g.ty) gs
  globals_known n [] e = tt
  globals_known n (g ∷ gs) e =
      (ltb-true g.ty (length flat.types) (and_parts _ _ (and_parts _ _ e.0).0).1, globals_known (n + 1) gs (behind Kept (init_lines n g 0 g.inits) (global_lines (n + 1) gs) e.1))

  vars_known : (f : Function) (v : ℕ) (vars : List ℕ) → Each Kept (var_lines f v vars) → Each IsKnown vars
  vars_known f v [] e = tt
  vars_known f v (ty ∷ vars) e = (ltb-true ty (length flat.types) (and_parts _ _ e.0).1, vars_known f (v + 1) vars e.1)

  functions_known : (n : ℕ) (fs : List Function) → Each Kept (function_lines n fs) → Each (λ f. Each IsKnown f.vars) fs
  functions_known n [] e = tt
  functions_known n (f ∷ fs) e =
      let vars = var_lines f 0 f.vars in
      let rest = behind Kept vars _ e.1 in
      (vars_known f 0 f.vars (before Kept vars _ e.1), functions_known (n + 1) fs (behind Kept (command_lines f 0 f.commands) (function_lines (n + 1) fs) rest.1))

  types_known : (n : ℕ) (tys : List Ty) → Each Kept (type_lines n tys) → Each (λ ty. Each IsKnown (named_types ty)) tys
  types_known n [] e = tt
  types_known n (ty ∷ tys) e = (each_in (is_type flat) (named_types ty) (and_parts _ _ e.0).1, types_known (n + 1) tys e.1)
    where
      each_in : (test : ℕ → Bool) → (numbers : List ℕ) → list_all (is_type flat) numbers ≡ true → Each IsKnown numbers
      each_in test [] e = tt
      each_in test (ty ∷ numbers) e = (ltb-true ty (length flat.types) (and_parts _ _ e).0, each_in test numbers (and_parts _ _ e).1)

  vars_of_known : (fs : List Function) (i : ℕ) → Each (λ f. Each IsKnown f.vars) fs → Each IsKnown (vars_of (slice_get fs i))
  vars_of_known [] i e = tt
  vars_of_known (f ∷ fs) zero e = e.0
  vars_of_known (f ∷ fs) (suc i) e = vars_of_known fs i e.1

-- behind the kinds stand the other types
past_kinds : (rest : List Ty) (ty to : ℕ) → slice_get (kind_types ++ rest) ty ≡ Some (Pointer to) → (i : ℕ) × (slice_get rest i ≡ Some (Pointer to))
past_kinds rest zero to e = cc
past_kinds rest (suc zero) to e = cc
past_kinds rest (suc (suc zero)) to e = cc
past_kinds rest (suc (suc (suc zero))) to e = cc
past_kinds rest (suc (suc (suc (suc zero)))) to e = cc
past_kinds rest (suc (suc (suc (suc (suc zero))))) to e = cc
past_kinds rest (suc (suc (suc (suc (suc (suc zero)))))) to e = cc
past_kinds rest (suc (suc (suc (suc (suc (suc (suc zero))))))) to e = cc
past_kinds rest (suc (suc (suc (suc (suc (suc (suc (suc i)))))))) to e = (i, e)

module _ (s : Sort) (flat : Flat) (valid : IsValid s flat) where
  all_kept : Each (Kept flat) (lines_of flat)
  all_kept = each_of (Kept flat) (lines_of flat) (λ i line e. valid.lines (i + 3) line rule.Number (line_there flat i line e))

  pub global_types_known : All (λ g. g.ty < length flat.types) flat.globals
  global_types_known =
      each_all (λ g. IsKnown flat g.ty) flat.globals
      (globals_known flat 0 flat.globals (before (Kept flat) (global_lines 0 flat.globals) (function_lines 0 flat.functions) (behind (Kept flat) _ _ all_kept)))

  pub variable_types_known : (function : ℕ) → All (λ ty. ty < length flat.types) (vars_of (slice_get flat.functions function))
  variable_types_known function =
      each_all (IsKnown flat) (vars_of (slice_get flat.functions function))
      (vars_of_known flat flat.functions function
      (functions_known flat 0 flat.functions (behind (Kept flat) (global_lines 0 flat.globals) (function_lines 0 flat.functions) (behind (Kept flat) _ _ all_kept))))

  pub pointees_known : IsTypes flat.types → (ty to : ℕ) → slice_get flat.types ty ≡ Some (Pointer to) → to < length flat.types
  pointees_known types ty to e =
      let rest = drop 8 flat.types in
      let whole : flat.types ≡ kind_types ++ rest = sym (take-append-drop 8 flat.types) ∙ ap (λ l. l ++ rest) types.kinds in
      let found = past_kinds rest ty to (subst (λ (l : List Ty). slice_get l ty ≡ Some (Pointer to)) whole e) in
      let kept = before (Kept flat) (type_lines 8 rest) (global_lines 0 flat.globals ++ function_lines 0 flat.functions) all_kept in
      (at_place (λ t. Each (IsKnown flat) (named_types t)) rest found.0 (Pointer to) found.1 (types_known flat 8 rest kept)).0
    where
      at_place : {X : Type 0} (P : X → Type 0) (xs : List X) (i : ℕ) (x : X) → slice_get xs i ≡ Some x → Each P xs → P x
      at_place P [] i x e all = absurd (none-some x e)
      at_place P (y ∷ xs) zero x e all = subst P (same_Some y x e) all.0
      at_place P (y ∷ xs) (suc i) x e all = at_place P xs i x e all.1

  -- the same of a list of types that is the program's
  module _ (types : List Ty) (same : types ≡ flat.types) where
    pub globals_known_in : (gs : List GlobalObject) → gs ≡ flat.globals → All (λ g. g.ty < length types) gs
    globals_known_in gs e = λ k d lt.
        let lt' : k < length flat.globals = subst (λ l. k < length l) e lt in
        subst (λ l. (get_or l k d).ty < length types) (sym e)
        (subst (λ (l : List Ty). (get_or flat.globals k d).ty < length l) (sym same) (global_types_known k d lt'))

    pub frames_known_in : (frames : List FrameRow) → All (λ frame. All (λ ty. ty < length types) (vars_of (slice_get flat.functions frame.function))) frames
    frames_known_in frames = λ k d lt i e within.
        let f = (get_or frames k d).function in
        subst (λ (l : List Ty). get_or (vars_of (slice_get flat.functions f)) i e < length l) (sym same) (variable_types_known f i e within)

    pub objects_known_in : (frames : List FrameRow) (blocks : List BlockRow) → All (λ b. b.ty < length flat.types) blocks → All (λ o. o.ty < length flat.types) (objects_of flat frames blocks)
    objects_known_in frames blocks known =
        let P = λ (o : BlockRow). o.ty < length flat.types in
        All-append P (flat_map (λ g. single g.ty) flat.globals) (flat_map (frame_objects flat) frames ++ blocks)
        (all_flat P (λ g. single g.ty) flat.globals (λ k d lt. one (get_or flat.globals k d).ty (global_types_known k d lt)))
        (All-append P (flat_map (frame_objects flat) frames) blocks
        (all_flat P (frame_objects flat) frames (λ k d lt. all_flat P single (vars_of (slice_get flat.functions (get_or frames k d).function)) (λ i e within. one (get_or (vars_of (slice_get flat.functions (get_or frames k d).function)) i e) (variable_types_known (get_or frames k d).function i e within))))
        known)
      where
        one : (ty : ℕ) → ty < length flat.types → All (λ (o : BlockRow). o.ty < length flat.types) (single ty)
        one ty lt = All-cons (λ (o : BlockRow). o.ty < length flat.types) (record { ty = ty; count = 1 }) [] lt (All-nil (λ (o : BlockRow). o.ty < length flat.types))
