-- The values of the first arguments, with those of the arguments that are left behind them.
use Rattle.std.proofs.Common.{◌≡◌, ℕ, List, [], ◌∷◌, ◌++◌, Result, Ok, Err, refl, sym, ap, ◌∙◌, append_assoc, append-nil}
use Rattle.porch_lex.specs.declared.refusal.Refusal.{Refusal}
use Rattle.porch_check.specs.Scopes.{Scopes}
use Rattle.porch_check.specs.Operands.{Typed, Typing, go_on, value_of}
use Rattle.porch_check.specs.Calls.{Argument, argument_values}
use Rattle.porch_arguments.specs.inside.Values.{argument_value}

abbrev pub behind : List (ℕ × Typed) → Typing (List (ℕ × Typed)) → Typing (List (ℕ × Typed))
behind xs r = go_on r (λ ys s. Ok (xs ++ ys, s))

by_first : (a : Argument) (args : List Argument) (s : Scopes) (r : Typing Typed)
    → go_on r (λ x s. go_on (argument_values args s) (λ xs s. Ok ((a.at, x) ∷ xs, s)))
    ≡ go_on (go_on r (λ x s. Ok ((a.at, x), s))) (λ x s. go_on (argument_values args s) (λ xs s. Ok (x ∷ xs, s)))
by_first a args s (Ok p) = refl
by_first a args s (Err e) = refl

first : (a : Argument) (args : List Argument) (s : Scopes)
    → argument_values (a ∷ args) s
    ≡ go_on (argument_value a s) (λ x s. go_on (argument_values args s) (λ xs s. Ok (x ∷ xs, s)))
first a args s = by_first a args s (value_of a.at a.form s)

put : (xs : List (ℕ × Typed)) (x : ℕ × Typed) (r : Typing (List (ℕ × Typed)))
    → behind (xs ++ x ∷ []) r ≡ behind xs (go_on r (λ ys s. Ok (x ∷ ys, s)))
put xs x (Ok p) = ap (λ ys. Ok (ys, p.1)) (append_assoc xs (x ∷ []) p.0)
put xs x (Err e) = refl

-- one value more
pub one_more : (xs : List (ℕ × Typed)) (a : Argument) (args : List Argument) (x : ℕ × Typed) (s t : Scopes)
    → argument_value a s ≡ Ok (x, t)
    → behind (xs ++ x ∷ []) (argument_values args t) ≡ behind xs (argument_values (a ∷ args) s)
one_more xs a args x s t h =
    put xs x (argument_values args t)
    ∙ sym (ap (behind xs) (first a args s
    ∙ ap (λ r. go_on r (λ x s. go_on (argument_values args s) (λ xs s. Ok (x ∷ xs, s)))) h))

-- a rule that the next argument breaks
pub broken : (xs : List (ℕ × Typed)) (a : Argument) (args : List Argument) (s : Scopes) (e : Refusal)
    → argument_value a s ≡ Err e → behind xs (argument_values (a ∷ args) s) ≡ Err e
broken xs a args s e h =
    ap (behind xs) (first a args s
    ∙ ap (λ r. go_on r (λ x s. go_on (argument_values args s) (λ xs s. Ok (x ∷ xs, s)))) h)

-- no argument is left
pub none_left : (xs : List (ℕ × Typed)) (s : Scopes) → behind xs (argument_values [] s) ≡ Ok (xs, s)
none_left xs s = ap (λ ys. Ok (ys, s)) (append-nil xs)

all_in : (r : Typing (List (ℕ × Typed))) → behind [] r ≡ r
all_in (Ok p) = refl
all_in (Err e) = refl

-- none was taken yet
pub none_taken : (args : List Argument) (s : Scopes) → behind [] (argument_values args s) ≡ argument_values args s
none_taken args s = all_in (argument_values args s)
