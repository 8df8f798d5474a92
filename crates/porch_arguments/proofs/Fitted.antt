-- What became of the first values, with what becomes of those that are left behind it.
use Rattle.std.proofs.Common.{◌≡◌, ℕ, zero, suc, ◌+◌, ◌<◌, ◌≤◌, List, [], ◌∷◌, ◌++◌, map, drop, length, get_or, Result, Ok, Err, refl, sym, ap, ◌∙◌, arith, add-one}
use Rattle.std.specs.Prelude.{reverse}
use Rattle.std.proofs.lemmas.List.{map-append}
use Rattle.porch_lex.specs.declared.refusal.Refusal.{Refusal}
use Rattle.porch_typed.specs.Mirror.{Expression, Expressions, no_expressions, with_expression}
use Rattle.porch_typed.specs.declared.typed.Expression as code_expression
use Rattle.porch_typed.specs.Views.{expression_of, expressions_of}
use Rattle.porch_check.specs.Refusals.{and_then}
use Rattle.porch_check.specs.Scopes.{Scopes}
use Rattle.porch_check.specs.Operands.{Typed, fitted}
use Rattle.porch_check.specs.Calls.{fitted_all}
use Rattle.porch_operands.specs.Views.{as_typed}
use Rattle.porch_arguments.specs.declared.argument.Valued as code_valued
use Rattle.porch_arguments.specs.Views.{as_valued}
use Rattle.porch_arguments.proofs.Reversed.{one_taken, none_taken}

abbrev put_all : List Expression → Expressions → Expressions
put_all [] fs = fs
put_all (e ∷ es) fs = with_expression e (put_all es fs)

put_last : (es : List Expression) (e : Expression) (fs : Expressions)
    → put_all (es ++ e ∷ []) fs ≡ put_all es (with_expression e fs)
put_last [] e fs = refl
put_last (x ∷ es) e fs = ap (with_expression x) (put_last es e fs)

put_none : (es : List Expression) → put_all es no_expressions ≡ expressions_of es
put_none [] = refl
put_none (x ∷ es) = ap (with_expression x) (put_none es)

abbrev pub behind : List Expression → Result Expressions Refusal → Result Expressions Refusal
behind es r = and_then r (λ fs. Ok (put_all es fs))

put : (es : List Expression) (e : Expression) (r : Result Expressions Refusal)
    → behind (es ++ e ∷ []) r ≡ behind es (and_then r (λ fs. Ok (with_expression e fs)))
put es e (Ok fs) = ap (λ x. Ok x) (put_last es e fs)
put es e (Err r) = refl

-- one value more
pub one_more : (es : List Expression) (t : ℕ) (ts : List ℕ) (x : ℕ × Typed) (xs : List (ℕ × Typed)) (e : Expression) (s : Scopes)
    → fitted x.0 t x.1 s ≡ Ok e
    → behind (es ++ e ∷ []) (fitted_all ts xs s) ≡ behind es (fitted_all (t ∷ ts) (x ∷ xs) s)
one_more es t ts x xs e s h =
    put es e (fitted_all ts xs s)
    ∙ sym (ap (λ r. behind es (and_then r (λ e. and_then (fitted_all ts xs s) (λ fs. Ok (with_expression e fs))))) h)

-- a rule that the next value breaks
pub broken : (es : List Expression) (t : ℕ) (ts : List ℕ) (x : ℕ × Typed) (xs : List (ℕ × Typed)) (s : Scopes) (r : Refusal)
    → fitted x.0 t x.1 s ≡ Err r → behind es (fitted_all (t ∷ ts) (x ∷ xs) s) ≡ Err r
broken es t ts x xs s r h =
    ap (λ r. behind es (and_then r (λ e. and_then (fitted_all ts xs s) (λ fs. Ok (with_expression e fs))))) h

-- no parameter is left, or no value
pub no_parameter : (es : List Expression) (xs : List (ℕ × Typed)) (s : Scopes)
    → behind es (fitted_all [] xs s) ≡ Ok (expressions_of es)
no_parameter es xs s = ap (λ x. Ok x) (put_none es)

pub no_value : (es : List Expression) (ts : List ℕ) (s : Scopes)
    → behind es (fitted_all ts [] s) ≡ Ok (expressions_of es)
no_value es [] s = ap (λ x. Ok x) (put_none es)
no_value es (t ∷ ts) s = ap (λ x. Ok x) (put_none es)

all_in : (r : Result Expressions Refusal) → behind [] r ≡ r
all_in (Ok p) = refl
all_in (Err e) = refl

-- none was taken yet
pub none_yet : (ts : List ℕ) (xs : List (ℕ × Typed)) (s : Scopes)
    → behind [] (fitted_all ts xs s) ≡ fitted_all ts xs s
none_yet ts xs s = all_in (fitted_all ts xs s)

-- The same from the parameter of a number on.

at_place : (es : List Expression) (ts : List ℕ) (i : ℕ) (x : ℕ × Typed) (xs : List (ℕ × Typed)) (e : Expression) (s : Scopes)
    → i < length ts → fitted x.0 (get_or ts i 0) x.1 s ≡ Ok e
    → behind (es ++ e ∷ []) (fitted_all (drop (suc i) ts) xs s) ≡ behind es (fitted_all (drop i ts) (x ∷ xs) s)
at_place es [] i x xs e s h made = absurd (omega arith)
at_place es (t ∷ ts) zero x xs e s h made = one_more es t ts x xs e s made
at_place es (t ∷ ts) (suc i) x xs e s h made = at_place es ts i x xs e s (omega arith) made

-- one value more, of those that are taken from their end
pub kept : (fs ns : List code_expression.Expression) (f : code_expression.Expression) (ts : List ℕ) (i : ℕ) (turned rest : List code_valued.Valued) (v : code_valued.Valued) (s : Scopes) (whole : Result Expressions Refusal)
    → ns ≡ fs ++ f ∷ [] → turned ≡ rest ++ v ∷ [] → i < length ts → fitted v.at (get_or ts i 0) (as_typed v.value) s ≡ Ok (expression_of f)
    → behind (map expression_of fs) (fitted_all (drop i ts) (map as_valued (reverse turned)) s) ≡ whole
    → behind (map expression_of ns) (fitted_all (drop (i + 1) ts) (map as_valued (reverse rest)) s) ≡ whole
kept fs ns f ts i turned rest v s whole pushed popped h made same =
    let xs = map as_valued (reverse rest) in
    ap (λ zs. behind (map expression_of zs) (fitted_all (drop (i + 1) ts) xs s)) pushed
    ∙ ap (λ zs. behind zs (fitted_all (drop (i + 1) ts) xs s)) (map-append expression_of fs (f ∷ []))
    ∙ ap (λ k. behind (map expression_of fs ++ expression_of f ∷ []) (fitted_all (drop k ts) xs s)) (add-one i)
    ∙ at_place (map expression_of fs) ts i (as_valued v) xs (expression_of f) s h made
    ∙ ap (λ zs. behind (map expression_of fs) (fitted_all (drop i ts) zs s)) (sym (one_taken as_valued turned rest v popped))
    ∙ same

none_behind : (ts : List ℕ) (i : ℕ) → length ts ≤ i → drop i ts ≡ []
none_behind [] zero h = refl
none_behind [] (suc i) h = refl
none_behind (t ∷ ts) zero h = absurd (omega arith)
none_behind (t ∷ ts) (suc i) h = none_behind ts i (omega arith)

-- all parameters had their values
pub all_had : (es : List Expression) (ts : List ℕ) (i : ℕ) (xs : List (ℕ × Typed)) (s : Scopes) → length ts ≤ i
    → behind es (fitted_all (drop i ts) xs s) ≡ Ok (expressions_of es)
all_had es ts i xs s h =
    ap (λ zs. behind es (fitted_all zs xs s)) (none_behind ts i h) ∙ no_parameter es xs s

-- no value is left
pub none_had : (es : List Expression) (ts : List ℕ) (turned : List code_valued.Valued) (s : Scopes) → turned ≡ []
    → behind es (fitted_all ts (map as_valued (reverse turned)) s) ≡ Ok (expressions_of es)
none_had es ts turned s h =
    ap (λ xs. behind es (fitted_all ts xs s)) (none_taken as_valued turned h) ∙ no_value es ts s
