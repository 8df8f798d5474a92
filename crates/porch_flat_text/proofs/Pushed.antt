-- Texts of lists with one more part at the end.
use Rattle.std.proofs.Common.{◌≡◌, ℕ, ◌+◌, List, [], ◌∷◌, ◌++◌, length, refl, sym, ap, ◌∙◌, arith, append_assoc, append-nil}
use Rattle.porch_types.specs.declared.shapes.Ty.{Ty}
use Rattle.porch_flat.specs.declared.flat.GlobalObject.{GlobalObject}
use Rattle.porch_flat.specs.declared.flat.Init.{Init}
use Rattle.porch_flat.specs.declared.whole.Command.{Command}
use Rattle.porch_flat.specs.declared.whole.Function.{Function}
use Rattle.porch_flat_line.specs.declared.word.Word.TheVariants as word
use Rattle.porch_flat_line.specs.Text.{number, row, row_text, type_row, init_row, command_row}
use Rattle.porch_flat_text.specs.inside.Texts.{types_text, inits_text, global_text, globals_text, vars_text, commands_text, function_text, functions_text}

module _ {X : Type 0} (text : ℕ → X → List ℕ) (all : ℕ → List X → List ℕ) (none : (n : ℕ) → all n [] ≡ []) (more : (n : ℕ) (x : X) (xs : List X) → all n (x ∷ xs) ≡ text n x ++ all (n + 1) xs) where
  pub pushed : (n : ℕ) (xs : List X) (x : X) → all n (xs ++ x ∷ []) ≡ all n xs ++ text (n + length xs) x
  pushed n [] x =
      let same : n ≡ n + 0 = omega arith in
      more n x [] ∙ ap (λ t. text n x ++ t) (none (n + 1)) ∙ append-nil (text n x) ∙ ap (λ k. text k x) same ∙ ap (λ t. t ++ text (n + 0) x) (sym (none n))
  pushed n (y ∷ ys) x =
      let same : n + 1 + length ys ≡ n + length (y ∷ ys) = omega arith in
      more n y (ys ++ x ∷ []) ∙ ap (λ t. text n y ++ t) (pushed (n + 1) ys x) ∙ sym (append_assoc (text n y) (all (n + 1) ys) (text (n + 1 + length ys) x))
      ∙ ap (λ k. (text n y ++ all (n + 1) ys) ++ text k x) same ∙ ap (λ t. t ++ text (n + length (y ∷ ys)) x) (sym (more n y ys))

pub types_pushed : (n : ℕ) (xs : List Ty) (x : Ty) → types_text n (xs ++ x ∷ []) ≡ types_text n xs ++ row_text (type_row (n + length xs) x)
types_pushed = pushed (λ n x. row_text (type_row n x)) types_text (λ _. refl) (λ _ _ _. refl)

pub globals_pushed : (n : ℕ) (xs : List GlobalObject) (x : GlobalObject) → globals_text n (xs ++ x ∷ []) ≡ globals_text n xs ++ global_text (n + length xs) x
globals_pushed = pushed global_text globals_text (λ _. refl) (λ _ _ _. refl)

pub functions_pushed : (n : ℕ) (xs : List Function) (x : Function) → functions_text n (xs ++ x ∷ []) ≡ functions_text n xs ++ function_text (n + length xs) x
functions_pushed = pushed function_text functions_text (λ _. refl) (λ _ _ _. refl)

pub vars_pushed : (n : ℕ) (xs : List ℕ) (x : ℕ) → vars_text n (xs ++ x ∷ []) ≡ vars_text n xs ++ row_text (row word.Var (number (n + length xs) ∷ number x ∷ []))
vars_pushed = pushed (λ n x. row_text (row word.Var (number n ∷ number x ∷ []))) vars_text (λ _. refl) (λ _ _ _. refl)

pub inits_pushed : (n : ℕ) (xs : List Init) (x : Init) → inits_text n (xs ++ x ∷ []) ≡ inits_text n xs ++ row_text (init_row n x)
inits_pushed n [] x = append-nil (row_text (init_row n x))
inits_pushed n (y ∷ ys) x = ap (λ t. row_text (init_row n y) ++ t) (inits_pushed n ys x) ∙ sym (append_assoc (row_text (init_row n y)) (inits_text n ys) (row_text (init_row n x)))

pub commands_pushed : (xs : List Command) (x : Command) → commands_text (xs ++ x ∷ []) ≡ commands_text xs ++ row_text (command_row x)
commands_pushed [] x = append-nil (row_text (command_row x))
commands_pushed (y ∷ ys) x = ap (λ t. row_text (command_row y) ++ t) (commands_pushed ys x) ∙ sym (append_assoc (row_text (command_row y)) (commands_text ys) (row_text (command_row x)))
