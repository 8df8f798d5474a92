-- One step of the plain program and the same one of the rewritten program, whose frames stand where they fit.
use Rattle.std.proofs.Common.{◌≡◌, ℕ, zero, suc, ◌+◌, ℤ, pos, List, [], ◌∷◌, length, map, refl, sym, ap, ◌∙◌, subst, arith, Option, Some, None, Result, Ok, Err, Bool, true, false}
use Rattle.std.specs.Prelude.{slice_get, if◌then◌else◌, unwrap_or}
use Rattle.std.specs.Ordering.{int_eq}
use Rattle.std.specs.Option.{option_map, option_and_then}
use Rattle.porch_types.specs.declared.shapes.Ty.{Ty}
use Rattle.porch_types.specs.declared.shapes.Ty.TheVariants.{Whole, Pointer, Array, Struct}
use Rattle.porch_types.specs.Leaves.{leaves_of}
use Rattle.porch_values.specs.declared.acts.Act.{Act}
use Rattle.porch_values.specs.Integers.{applied, converted, complemented}
use Rattle.porch_objects.specs.Store.{Value, number, null, pointer, past, indeterminate, left, reached_one, entered, forgotten, variable_home}
use Rattle.porch_objects.specs.Pointers as pointers
use Rattle.porch_objects.specs.Meaning.{Environment}
use Rattle.porch_flat.specs.declared.flat.Operand.{Operand}
use Rattle.porch_flat.specs.declared.flat.Operand.TheVariants.{Var, Constant}
use Rattle.porch_flat.specs.declared.whole.Comparison.{Comparison}
use Rattle.porch_flat.specs.declared.whole.Command.{Command}
use Rattle.porch_flat.specs.declared.whole.Function.{Function}
use Rattle.porch_flat.specs.declared.whole.Flat.{Flat}
use Rattle.porch_flat.specs.Parts.{kind_of}
use Rattle.porch_flat.specs.whole.Form as form
use Rattle.porch_flat.specs.whole.Form.{Form, form_of, Within}
use Rattle.porch_flat.specs.whole.Places.{CHAR, Place, vars_of, params_of, result_of, place_of_label, pointed, type_at, type_of_var, compared_type, argument_places}
use Rattle.porch_flat.specs.whole.Rewritten.{reaches_within, reaches}
use Rattle.porch_abstract.specs.Machine.{State, Frame, Phase, before, running, over, Next, Goes, Ends, Meets, with_phase, with_store, turned, put, determined, counted, resulted, received, returned, variables_with}
use Rattle.porch_abstract.specs.whole.Machine.{constant_of, operand_of, variable_of, shown, text_of, length_of, int_of, if_ok, all_determined, pointers_compare, compares, kind_in, var_type, pointee_in, forward, code_of, called, onward, at_label, subobject, compared, type_compared, argument_values, gives, does}
use Rattle.porch_rewrite.specs.Laws.{label_named}
use Rattle.porch_rewrite.specs.Rewriting.{with_commands, saving_commands, rewritten_function, rewritten_functions, rewritten}
use Rattle.porch_rewrite.proofs.Arriving.{Fits, saving, enters}

module _ (flat : Flat) where
  abbrev pub reaching : ℕ → Bool
  reaching = reaches flat

  abbrev pub made : Flat
  made = rewritten flat

  -- a function of the rewritten program
  got_from : (n k : ℕ) (fs : List Function) → slice_get (rewritten_functions reaching n fs) k ≡ option_map (rewritten_function reaching (n + k)) (slice_get fs k)
  got_from n k [] = refl
  got_from n zero (f ∷ fs) = let none : n + 0 ≡ n = omega arith in rw none refl
  got_from n (suc k) (f ∷ fs) = let more : n + suc k ≡ n + 1 + k = omega arith in rw more (got_from (n + 1) k fs)

  pub got : (k : ℕ) → slice_get made.functions k ≡ option_map (rewritten_function reaching k) (slice_get flat.functions k)
  got k = let none : 0 + k ≡ k = omega arith in subst (λ j. slice_get made.functions k ≡ option_map (rewritten_function reaching j) (slice_get flat.functions k)) none (got_from 0 k flat.functions)

  same_by : {A : Type 0} (look : Option Function → A) (k : ℕ) (b : Bool) (o : Option Function) → ((f : Function) (cs : List Command) → look (Some (with_commands f cs)) ≡ look (Some f))
      → look (option_map (λ f. if b then with_commands f (saving_commands reaching f) else f) o) ≡ look o
  same_by look k b None same = refl
  same_by look k true (Some f) same = same f (saving_commands reaching f)
  same_by look k false (Some f) same = refl

  -- What doesn't look at its commands sees no difference.
  same_of : {A : Type 0} (look : Option Function → A) (k : ℕ) → ((f : Function) (cs : List Command) → look (Some (with_commands f cs)) ≡ look (Some f))
      → look (slice_get flat.functions k) ≡ look (slice_get made.functions k)
  same_of look k same = sym (ap look (got k) ∙ same_by look k (reaching k) (slice_get flat.functions k) same)

  pub same_vars : (k : ℕ) → vars_of (slice_get flat.functions k) ≡ vars_of (slice_get made.functions k)
  same_vars k = same_of vars_of k (λ f cs. refl)

  pub same_params : (k : ℕ) → params_of (slice_get flat.functions k) ≡ params_of (slice_get made.functions k)
  same_params k = same_of params_of k (λ f cs. refl)

  pub same_result : (k : ℕ) → result_of (slice_get flat.functions k) ≡ result_of (slice_get made.functions k)
  same_result k = same_of result_of k (λ f cs. refl)

  -- the frames of the rewritten program that stand for those of the plain one
  pub data FrameFits : Frame → Frame → Type 0 where
    left_alone : (frame : Frame) → reaching frame.function ≡ false → FrameFits frame frame
    rebuilt : (function : ℕ) (into : Option ℕ) (next there : ℕ) (f : Function) → reaching function ≡ true → slice_get flat.functions function ≡ Some f → Fits reaching f next there
        → FrameFits (record { function = function; next = next; into = into }) (record { function = function; next = there; into = into })

  pub data CallersFit : List Frame → List Frame → Type 0 where
    no_callers : CallersFit [] []
    one_caller : (frame frame' : Frame) (callers callers' : List Frame) → FrameFits frame frame' → CallersFit callers callers' → CallersFit (frame ∷ callers) (frame' ∷ callers')

  pub data PhaseFits : Phase → Phase → Type 0 where
    fits_before : PhaseFits before before
    fits_running : (frame frame' : Frame) (callers callers' : List Frame) → FrameFits frame frame' → CallersFit callers callers' → PhaseFits (running frame callers) (running frame' callers')
    fits_over : PhaseFits over over

  -- a state of the rewritten program, but for its frames that of the plain one
  pub record Follows (s t : State) : Type 0 where
    pub phase : PhaseFits s.phase t.phase
    pub is : t ≡ with_phase s t.phase

  -- what a step leads to on both sides
  abbrev pub Both : Next → Next → Type 0
  Both (Goes s) (Goes t) = Follows s t
  Both (Ends z s) (Ends y t) = (z ≡ y) × Follows s t
  Both (Meets a) (Meets b) = a ≡ b
  Both r r' = ⊥

  both_determined : (v w : Value) (go go' : Value → Next) → v ≡ w → ((x : Value) → Both (go x) (go' x)) → Both (determined v go) (determined w go')
  both_determined v w go go' same h = subst (λ w. Both (determined v go) (determined w go')) same (by_value v)
    where
      by_value : (v : Value) → Both (determined v go) (determined v go')
      by_value (number z) = h (number z)
      by_value null = h null
      by_value (pointer home leaf) = h (pointer home leaf)
      by_value (past home leaf until) = h (past home leaf until)
      by_value indeterminate = refl

  both_all : (vs : List Value) (go go' : List Value → Next) → ((xs : List Value) → Both (go xs) (go' xs)) → Both (all_determined vs go) (all_determined vs go')
  both_all [] go go' h = h []
  both_all (v ∷ vs) go go' h = both_determined v v _ _ refl (λ x. both_all vs (λ xs. go (x ∷ xs)) (λ xs. go' (x ∷ xs)) (λ xs. h (x ∷ xs)))

  both_counted : (v w : Value) (go go' : ℤ → Next) → v ≡ w → ((z : ℤ) → Both (go z) (go' z)) → Both (counted v go) (counted w go')
  both_counted v w go go' same h = subst (λ w. Both (counted v go) (counted w go')) same (by_value v)
    where
      by_value : (v : Value) → Both (counted v go) (counted v go')
      by_value (number z) = h z
      by_value null = refl
      by_value (pointer home leaf) = refl
      by_value (past home leaf until) = refl
      by_value indeterminate = refl

  both_resulted : (r r' : Result ℤ Act) (go go' : ℤ → Next) → r ≡ r' → ((z : ℤ) → Both (go z) (go' z)) → Both (resulted r go) (resulted r' go')
  both_resulted r r' go go' same h = subst (λ r'. Both (resulted r go) (resulted r' go')) same (by_result r)
    where
      by_result : (r : Result ℤ Act) → Both (resulted r go) (resulted r go')
      by_result (Ok z) = h z
      by_result (Err a) = refl

  both_done : {A : Type 0} (r r' : Result A Act) (go go' : A → Next) → r ≡ r' → ((x : A) → Both (go x) (go' x)) → Both (if_ok r go) (if_ok r' go')
  both_done {A} r r' go go' same h = subst (λ r'. Both (if_ok r go) (if_ok r' go')) same (by_result r)
    where
      by_result : (r : Result A Act) → Both (if_ok r go) (if_ok r go')
      by_result (Ok x) = h x
      by_result (Err a) = refl

  both_either : (b : Bool) (x y x' y' : Next) → Both x x' → Both y y' → Both (if b then x else y) (if b then x' else y')
  both_either true x y x' y' h g = h
  both_either false x y x' y' h g = g

  returned_both : (frame frame' : Frame) (callers callers' : List Frame) → frame.into ≡ frame'.into → CallersFit callers callers' → (v : Value) (s : State) (phase : Phase)
      → Both (returned frame callers v s) (returned frame' callers' v (with_phase s phase))
  returned_both frame frame' [] [] into no_callers v s phase = by_value v
    where
      by_value : (v : Value) → Both (returned frame [] v s) (returned frame' [] v (with_phase s phase))
      by_value (number z) = (refl, record { phase = fits_over; is = refl })
      by_value null = (refl, record { phase = fits_over; is = refl })
      by_value (pointer home leaf) = (refl, record { phase = fits_over; is = refl })
      by_value (past home leaf until) = (refl, record { phase = fits_over; is = refl })
      by_value indeterminate = (refl, record { phase = fits_over; is = refl })
  returned_both frame frame' (caller ∷ callers) (caller' ∷ callers') into (one_caller a b more others fit fits) v s phase =
      subst (λ o. Follows (received frame.into v (with_phase (with_store s (left s.store)) (running caller callers))) (received o v (with_phase (with_store s (left s.store)) (running caller' callers')))) into
      (by_into frame.into)
    where
      by_into : (o : Option ℕ) → Follows (received o v (with_phase (with_store s (left s.store)) (running caller callers))) (received o v (with_phase (with_store s (left s.store)) (running caller' callers')))
      by_into None = record { phase = fits_running caller caller' callers callers' fit fits; is = refl }
      by_into (Some r) = record { phase = fits_running caller caller' callers callers' fit fits; is = refl }
  returned_both frame frame' [] (caller ∷ callers) into x v s phase = elim x [ ]
  returned_both frame frame' (caller ∷ callers) [] into x v s phase = elim x [ ]

  nobody_reaches : (n k : ℕ) → slice_get flat.functions k ≡ None → reaches_within n flat k ≡ false
  unfolding reaches_within
  nobody_reaches zero k at = refl
  nobody_reaches (suc n) k at = rw at refl

  entry_by : (k : ℕ) (into : Option ℕ) (b : Bool) → reaching k ≡ b → (o : Option Function) → slice_get flat.functions k ≡ o
      → FrameFits (record { function = k; next = 0; into = into }) (record { function = k; next = 0; into = into })
  entry_by k into false is o at = left_alone (record { function = k; next = 0; into = into }) is
  entry_by k into true is (Some f) at = rebuilt k into 0 0 f is at (saving (enters reaching f))
  entry_by k into true is None at = absurd (let none : reaching k ≡ false = nobody_reaches (length flat.functions) k at in let no : true ≡ false = sym is ∙ none in cc)

  -- a call begins alike
  pub entry : (k : ℕ) (into : Option ℕ) → FrameFits (record { function = k; next = 0; into = into }) (record { function = k; next = 0; into = into })
  entry k into = entry_by k into (reaching k) refl (slice_get flat.functions k) refl

  module _ (under : Environment) (function : ℕ) (into : Option ℕ) (next there : ℕ) (callers callers' : List Frame) (fits : CallersFit callers callers') where
    abbrev at : ℕ → Frame
    at place = record { function = function; next = place; into = into }

    same_type : (v : ℕ) → var_type flat (at next) v ≡ var_type made (at there) v
    same_type v = same_of (λ o. option_and_then (λ f. type_of_var f v) o) function (λ f cs. refl)

    same_kind : (v : ℕ) → kind_in flat (at next) v ≡ kind_in made (at there) v
    same_kind v = ap (λ o. kind_of (type_at flat o)) (same_type v)

    pub same_pointee : (v : ℕ) → pointee_in flat (at next) v ≡ pointee_in made (at there) v
    same_pointee v = ap (λ o. unwrap_or (pointed (type_at flat o)) 0) (same_type v)

    same_compared : (a b : Operand) → type_compared flat under (at next) callers a b ≡ type_compared made under (at there) callers' a b
    same_compared a b = same_of (λ o. option_and_then (λ f. compared_type f a b) o) function (λ f cs. refl)

    -- where the frames stand behind the command, and where it may jump to
    module _ (onward_fits : FrameFits (at (next + 1)) (at (there + 1))) (s : State) where
      abbrev t : State
      t = with_phase s (running (at there) callers')

      on : (s' : State) → Both (onward flat under (at next) callers s') (onward made under (at there) callers' (with_phase s' (running (at there) callers')))
      on s' = record { phase = fits_running (at (next + 1)) (at (there + 1)) callers callers' onward_fits fits; is = refl }

      both_compared : (ty ty' : Option Ty) → ty ≡ ty' → (c : Comparison) (x x' y y' : Value) → x ≡ x' → y ≡ y' → (go go' : Bool → Next) → ((b : Bool) → Both (go b) (go' b))
          → Both (compared flat under (at next) callers ty c x y s go) (compared made under (at there) callers' ty' c x' y' t go')
      both_compared ty ty' same c x x' y y' xs ys go go' h =
          subst (λ ty'. Both (compared flat under (at next) callers ty c x y s go) (compared made under (at there) callers' ty' c x' y' t go')) same
          (subst (λ x'. Both (compared flat under (at next) callers ty c x y s go) (compared made under (at there) callers' ty c x' y' t go')) xs
          (subst (λ y'. Both (compared flat under (at next) callers ty c x y s go) (compared made under (at there) callers' ty c x y' t go')) ys (by_type ty)))
        where
          by_type : (ty : Option Ty) → Both (compared flat under (at next) callers ty c x y s go) (compared made under (at there) callers' ty c x y t go')
          by_type (Some (Pointer to)) = both_done (pointers_compare flat.types to c s.store x y) (pointers_compare flat.types to c s.store x y) go go' refl h
          by_type (Some (Whole k)) = both_counted x x _ _ refl (λ a. both_counted y y _ _ refl (λ b. h (compares c a b)))
          by_type (Some (Array to count)) = both_counted x x _ _ refl (λ a. both_counted y y _ _ refl (λ b. h (compares c a b)))
          by_type (Some (Struct members)) = both_counted x x _ _ refl (λ a. both_counted y y _ _ refl (λ b. h (compares c a b)))
          by_type None = both_counted x x _ _ refl (λ a. both_counted y y _ _ refl (λ b. h (compares c a b)))

      same_operand : (ty ty' : Option ℕ) (o : Operand) → ty ≡ ty' → operand_of flat ty o s ≡ operand_of made ty' o t
      same_operand ty ty' (Var v) same = refl
      same_operand ty ty' (Constant z) same = ap (λ ty. constant_of (type_at flat ty) z) same

      pub plain_operand : (o : Operand) → operand_of flat None o s ≡ operand_of made None o t
      plain_operand o = same_operand None None o refl

      both_gives : (o : Option Operand) → Both (gives flat under (at next) callers o s) (gives made under (at there) callers' o t)
      both_gives None = returned_both (at next) (at there) callers callers' refl fits indeterminate s (running (at there) callers')
      both_gives (Some o) =
          both_determined (operand_of flat (result_of (slice_get flat.functions function)) o s) (operand_of made (result_of (slice_get made.functions function)) o t) _ _
          (same_operand (result_of (slice_get flat.functions function)) (result_of (slice_get made.functions function)) o (same_result function))
          (λ v. returned_both (at next) (at there) callers callers' refl fits v s (running (at there) callers'))

      same_places : (os : List Operand) (tys : List ℕ) → map (λ (p : Place). operand_of flat p.ty p.operand s) (argument_places os tys) ≡ map (λ (p : Place). operand_of made p.ty p.operand t) (argument_places os tys)
      same_places [] tys = refl
      same_places (o ∷ os) [] = more (same_operand None None o refl) (same_places os [])
        where
          more : {x y : Value} {xs ys : List Value} → x ≡ y → xs ≡ ys → x ∷ xs ≡ y ∷ ys
          more a b = rw (a, b) refl
      same_places (o ∷ os) (ty ∷ tys) = more (same_operand (Some ty) (Some ty) o refl) (same_places os tys)
        where
          more : {x y : Value} {xs ys : List Value} → x ≡ y → xs ≡ ys → x ∷ xs ≡ y ∷ ys
          more a b = rw (a, b) refl

      same_arguments : (k : ℕ) (os : List Operand) → argument_values flat under (at next) callers k os s ≡ argument_values made under (at there) callers' k os t
      same_arguments k os =
          same_places os (params_of (slice_get flat.functions k))
          ∙ ap (λ tys. map (λ (p : Place). operand_of made p.ty p.operand t) (argument_places os tys)) (same_params k)

      enters_both : (k : ℕ) (r : Option ℕ) (xs : List Value) → Both (Goes (called flat k xs r (with_phase s (running (at (next + 1)) callers)))) (Goes (called made k xs r (with_phase s (running (at (there + 1)) callers'))))
      enters_both k r xs =
          subst (λ vars. Both (Goes (called flat k xs r (with_phase s (running (at (next + 1)) callers))))
          (Goes (record {
            phase = running (record { function = k; next = 0; into = r }) (at (there + 1) ∷ callers');
            store = entered s.store (variables_with flat.types vars xs);
            output = s.output;
            turns = s.turns + 1;
            taken = s.taken;
          }))) (same_vars k)
          (record {
            phase = fits_running (record { function = k; next = 0; into = r }) (record { function = k; next = 0; into = r }) (at (next + 1) ∷ callers) (at (there + 1) ∷ callers') (entry k r)
                (one_caller (at (next + 1)) (at (there + 1)) callers callers' onward_fits fits);
            is = refl;
          })

      both_jump : (n : ℕ) → FrameFits (at (unwrap_or (place_of_label (code_of flat (at next)) n) (length (code_of flat (at next))))) (at (unwrap_or (place_of_label (code_of made (at there)) n) (length (code_of made (at there)))))
          → Both (at_label flat under (at next) callers n s) (at_label made under (at there) callers' n t)
      both_jump n jump = record { phase = fits_running (at (unwrap_or (place_of_label (code_of flat (at next)) n) (length (code_of flat (at next))))) (at (unwrap_or (place_of_label (code_of made (at there)) n) (length (code_of made (at there))))) callers callers' jump fits; is = refl }

      same_subobject : (within : Within) (leaf : ℕ) → subobject flat under (at next) callers within leaf s ≡ subobject made under (at there) callers' within leaf t
      same_subobject (form.variable w) leaf = refl
      same_subobject (form.global g) leaf = refl
      same_subobject (form.pointee p) leaf = refl

      -- each command does the same
      pub both_do : (f : Form)
          → ((n : ℕ) → label_named f ≡ Some n → FrameFits (at (unwrap_or (place_of_label (code_of flat (at next)) n) (length (code_of flat (at next))))) (at (unwrap_or (place_of_label (code_of made (at there)) n) (length (code_of made (at there))))))
          → Both (does flat under (at next) callers f s) (does made under (at there) callers' f t)
      both_do (form.move v o) j = both_determined _ _ _ _ (same_operand (var_type flat (at next) v) (var_type made (at there) v) o (same_type v)) (λ x. on (put v x s))
      both_do (form.cast v w) j =
          both_counted (variable_of w s) (variable_of w t) _ _ refl (λ x.
          both_resulted (converted (kind_in flat (at next) v) under.widths x) (converted (kind_in made (at there) v) under.widths x) _ _ (ap (λ k. converted k under.widths x) (same_kind v)) (λ z. on (put v (number z) s)))
      both_do (form.operator op v a b) j =
          both_counted _ _ _ _ (plain_operand a) (λ x. both_counted _ _ _ _ (plain_operand b) (λ y.
          both_resulted (applied op (kind_in flat (at next) v) under.widths x y) (applied op (kind_in made (at there) v) under.widths x y) _ _ (ap (λ k. applied op k under.widths x y) (same_kind v)) (λ z. on (put v (number z) s))))
      both_do (form.complement v o) j =
          both_counted _ _ _ _ (plain_operand o) (λ x.
          both_resulted (complemented (kind_in flat (at next) v) under.widths x) (complemented (kind_in made (at there) v) under.widths x) _ _ (ap (λ k. complemented k under.widths x) (same_kind v)) (λ z. on (put v (number z) s)))
      both_do (form.comparison c v a b) j =
          both_compared (type_at flat (type_compared flat under (at next) callers a b)) (type_at made (type_compared made under (at there) callers' a b)) (ap (λ o. type_at flat o) (same_compared a b)) c
          _ _ _ _ (same_operand _ _ a (same_compared a b)) (same_operand _ _ b (same_compared a b)) _ _ (λ holds. on (put v (int_of holds) s))
      both_do (form.subobject v within leaf) j = both_done _ _ _ _ (same_subobject within leaf) (λ x. on (put v x s))
      both_do (form.step way v p o) j =
          both_counted _ _ _ _ (plain_operand o) (λ z.
          both_done (pointers.step flat.types (pointee_in flat (at next) p) s.store (variable_of p s) (forward way z)) (pointers.step flat.types (pointee_in made (at there) p) s.store (variable_of p s) (forward way z)) _ _
          (ap (λ ty. pointers.step flat.types ty s.store (variable_of p s) (forward way z)) (same_pointee p)) (λ x. on (put v x s)))
      both_do (form.difference v p q) j =
          both_done (pointers.difference flat.types (pointee_in flat (at next) p) s.store (variable_of p s) (variable_of q s)) (pointers.difference flat.types (pointee_in made (at there) p) s.store (variable_of p s) (variable_of q s)) _ _
          (ap (λ ty. pointers.difference flat.types ty s.store (variable_of p s) (variable_of q s)) (same_pointee p)) (λ z. on (put v (number z) s))
      both_do (form.load v p) j = both_done (pointers.load s.store (variable_of p s)) (pointers.load s.store (variable_of p s)) _ _ refl (λ x. on (put v x s))
      both_do (form.store p o) j =
          both_done (pointers.store s.store (variable_of p s) (operand_of flat (pointed (type_at flat (var_type flat (at next) p))) o s)) (pointers.store s.store (variable_of p s) (operand_of made (pointed (type_at flat (var_type made (at there) p))) o t)) _ _
          (ap (λ x. pointers.store s.store (variable_of p s) x) (same_operand _ _ o (ap (λ ty. pointed (type_at flat ty)) (same_type p)))) (λ store. on (with_store s store))
      both_do (form.copy p q) j =
          both_done (pointers.copy (leaves_of flat.types (pointee_in flat (at next) p)) s.store (variable_of p s) (variable_of q s)) (pointers.copy (leaves_of flat.types (pointee_in made (at there) p)) s.store (variable_of p s) (variable_of q s)) _ _
          (ap (λ ty. pointers.copy (leaves_of flat.types ty) s.store (variable_of p s) (variable_of q s)) (same_pointee p)) (λ store. on (with_store s store))
      both_do (form.kill v) j = on (with_store s (forgotten s.store (variable_home s.store v)))
      both_do (form.allocate zeros v o) j =
          both_counted _ _ _ _ (plain_operand o) (λ z.
          both_done (pointers.allocate flat.types (pointee_in flat (at next) v) zeros z s.store) (pointers.allocate flat.types (pointee_in made (at there) v) zeros z s.store) _ _
          (ap (λ ty. pointers.allocate flat.types ty zeros z s.store) (same_pointee v)) (λ new. on (put v new.address (with_store s new.store))))
      both_do (form.free p) j = both_done (pointers.release s.store (variable_of p s)) (pointers.release s.store (variable_of p s)) _ _ refl (λ store. on (with_store s store))
      both_do (form.show how v o) j = both_counted _ _ _ _ (plain_operand o) (λ z. on (put v (length_of (text_of how z)) (shown s (text_of how z))))
      both_do (form.text v p) j =
          both_done (pointers.text flat.types CHAR s.store (variable_of p s)) (pointers.text flat.types CHAR s.store (variable_of p s)) _ _ refl (λ bytes. on (put v (length_of bytes) (shown s bytes)))
      both_do (form.label n) j = on s
      both_do (form.jump n) j = both_jump n (j n refl)
      both_do (form.branch o n) j =
          both_counted _ _ _ _ (plain_operand o) (λ z.
          both_either (int_eq z (pos 0)) (onward flat under (at next) callers s) (at_label flat under (at next) callers n s) (onward made under (at there) callers' t) (at_label made under (at there) callers' n t) (on s) (both_jump n (j n refl)))
      both_do form.turn j = on (turned s)
      both_do (form.call r k os) j =
          subst (λ vs. Both (does flat under (at next) callers (form.call r k os) s) (all_determined vs (λ xs. Goes (called made k xs r (with_phase s (running (at (there + 1)) callers')))))) (same_arguments k os)
          (both_all (argument_values flat under (at next) callers k os s) _ _ (λ xs. enters_both k r xs))
      both_do (form.return o) j = both_gives o
      both_do form.checkpoint j = on (with_store s (reached_one s.store))
      both_do (form.restore vs) j = on s
      both_do (form.table k n) j = on s
      both_do (form.saved k n) j = on s
      both_do (form.push vs) j = on s

  -- behind the last command both return
  pub ends_both : (under : Environment) (function : ℕ) (into : Option ℕ) (next there : ℕ) (callers callers' : List Frame) → CallersFit callers callers' → (s : State)
      → Both (gives flat under (record { function = function; next = next; into = into }) callers None s)
      (gives made under (record { function = function; next = there; into = into }) callers' None (with_phase s (running (record { function = function; next = there; into = into }) callers')))
  ends_both under function into next there callers callers' fits s =
      returned_both (record { function = function; next = next; into = into }) (record { function = function; next = there; into = into }) callers callers' refl fits indeterminate s
      (running (record { function = function; next = there; into = into }) callers')
