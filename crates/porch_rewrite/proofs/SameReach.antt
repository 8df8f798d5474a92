-- The rewritten program's functions reach a checkpoint where the plain one's do.
use Rattle.std.proofs.Common.{◌≡◌, ℕ, zero, suc, ◌+◌, List, [], ◌∷◌, ◌++◌, length, refl, sym, ap, ◌∙◌, Bool, true, false, Option, Some, None}
use Rattle.std.specs.Prelude.{slice_get, ◌||◌}
use Rattle.std.specs.List.{list_any}
use Rattle.std.specs.Option.{option_map}
use Rattle.porch_flat.specs.declared.whole.Command.{Command}
use Rattle.porch_flat.specs.declared.whole.Function.{Function}
use Rattle.porch_flat.specs.declared.whole.Flat.{Flat}
use Rattle.porch_flat.specs.whole.Form.{form_of}
use Rattle.porch_flat.specs.whole.Places.{commands_of}
use Rattle.porch_flat.specs.whole.Rewritten.{leads_to_checkpoint, reaches_within, reaches}
use Rattle.porch_rewrite.specs.Rewriting.{has_number, numbers_in, with_marks, next_number, all_with_marks, tables, way_out, back, saving_commands, rewritten_function, rewritten_functions, rewritten}
use Rattle.porch_rewrite.proofs.Steps.{got}
use Rattle.porch_rewrite.proofs.Filling.{leads_alike}

or_more : (a b c : Bool) → (a || b) || c ≡ a || (b || c)
or_more true b c = refl
or_more false b c = refl

any_append : {X : Type 0} (p : X → Bool) (xs ys : List X) → list_any p (xs ++ ys) ≡ list_any p xs || list_any p ys
any_append p [] ys = refl
any_append p (x ∷ xs) ys = ap (λ b. p x || b) (any_append p xs ys) ∙ sym (or_more (p x) (list_any p xs) (list_any p ys))

or_false : (b : Bool) → b || false ≡ b
or_false true = refl
or_false false = refl

any_alike : {X : Type 0} (p q : X → Bool) (xs : List X) → ((x : X) → p x ≡ q x) → list_any p xs ≡ list_any q xs
any_alike p q [] same = refl
any_alike p q (x ∷ xs) same = rw (same x, any_alike p q xs same) refl

module _ (leads : ℕ → Bool) where
  abbrev looks : Command → Bool
  looks c = leads_to_checkpoint leads (form_of c)

  tables_lead_nowhere : (before count : ℕ) → list_any looks (tables before count) ≡ false
  tables_lead_nowhere before zero = refl
  tables_lead_nowhere before (suc count) = tables_lead_nowhere (before + 1) count

  one_leads_alike : (reaching : ℕ → Bool) (out before : ℕ) (c : Command) (rest : List Command) (b : Bool) → has_number reaching c ≡ b
      → list_any looks (with_marks reaching out before c ++ rest) ≡ looks c || list_any looks rest
  one_leads_alike reaching out before c rest true is = rw is refl
  one_leads_alike reaching out before c rest false is = rw is refl

  marks_lead_alike : (reaching : ℕ → Bool) (out before : ℕ) (cs : List Command) → list_any looks (all_with_marks reaching out before cs) ≡ list_any looks cs
  marks_lead_alike reaching out before [] = refl
  marks_lead_alike reaching out before (c ∷ cs) =
      one_leads_alike reaching out before c (all_with_marks reaching out (next_number reaching before c) cs) (has_number reaching c) refl
      ∙ ap (λ b. looks c || b) (marks_lead_alike reaching out (next_number reaching before c) cs)

  saving_leads_alike : (reaching : ℕ → Bool) (f : Function) → list_any looks (saving_commands reaching f) ≡ list_any looks f.commands
  saving_leads_alike reaching f =
      any_append looks (tables 0 (numbers_in reaching f.commands)) (all_with_marks reaching (way_out reaching f) 0 f.commands ++ back reaching f)
      ∙ ap (λ b. b || list_any looks (all_with_marks reaching (way_out reaching f) 0 f.commands ++ back reaching f)) (tables_lead_nowhere 0 (numbers_in reaching f.commands))
      ∙ any_append looks (all_with_marks reaching (way_out reaching f) 0 f.commands) (back reaching f)
      ∙ or_false (list_any looks (all_with_marks reaching (way_out reaching f) 0 f.commands))
      ∙ marks_lead_alike reaching (way_out reaching f) 0 f.commands

  function_leads_alike : (reaching : ℕ → Bool) (k : ℕ) (o : Option Function) (b : Bool) → reaching k ≡ b
      → list_any looks (commands_of (option_map (rewritten_function reaching k) o)) ≡ list_any looks (commands_of o)
  function_leads_alike reaching k None b is = refl
  function_leads_alike reaching k (Some f) true is = rw is (saving_leads_alike reaching f)
  function_leads_alike reaching k (Some f) false is = rw is refl

module _ (flat : Flat) where
  reach_within : (n k : ℕ) → reaches_within n (rewritten flat) k ≡ reaches_within n flat k
  unfolding reaches_within
  reach_within zero k = refl
  reach_within (suc n) k =
      any_alike (looks (reaches_within n (rewritten flat))) (looks (reaches_within n flat)) (commands_of (slice_get (rewritten flat).functions k))
      (λ c. leads_alike (reaches_within n (rewritten flat)) (reaches_within n flat) (λ j. reach_within n j) (form_of c))
      ∙ ap (λ o. list_any (looks (reaches_within n flat)) (commands_of o)) (got flat k)
      ∙ function_leads_alike (reaches_within n flat) (reaches flat) k (slice_get flat.functions k) (reaches flat k) refl

  functions_length : (n : ℕ) (fs : List Function) → length (rewritten_functions (reaches flat) n fs) ≡ length fs
  functions_length n [] = refl
  functions_length n (f ∷ fs) = ap (λ k. suc k) (functions_length (n + 1) fs)

  pub same_length : length (rewritten flat).functions ≡ length flat.functions
  same_length = functions_length 0 flat.functions

  pub same_reach : (k : ℕ) → reaches (rewritten flat) k ≡ reaches flat k
  same_reach k = ap (λ n. reaches_within n (rewritten flat) k) same_length ∙ reach_within (length flat.functions) k
