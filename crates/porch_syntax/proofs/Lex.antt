-- The code reads a text piece by piece as the definition does.
use Rattle.std.proofs.Common.{◌≡◌, ℕ, zero, suc, ◌-◌, ◌<◌, ◌≤◌, Bool, true, false, if◌then◌else◌, List, [], ◌∷◌, ◌++◌, length, get_or, take, drop, Option, Some, None, refl, sym, ap, ◌∙◌, arith, add-one}
use Rattle.std.proofs.lemmas.List.{take_rest}
use Rattle.porch_syntax.specs.declared.token.Token.{Token}
use Rattle.porch_syntax.specs.declared.token.Token.TheVariants as token
use Rattle.porch_syntax.specs.declared.lexeme.Lexeme.{Lexeme}
use Rattle.porch_syntax.specs.declared.lexeme.Lexeme.TheVariants.{Fixed, Name, Wrong}
use Rattle.porch_syntax.specs.Token.{is_space}
use Rattle.porch_syntax.specs.inside.Lexing.{kind_of, more_of, length_of, number_of, with_name, Lexed, behind, lexeme_step, lex, Taken}
use Rattle.porch_syntax.proofs.Lists.{append_one}

pub lex_skip : (cs : List ℕ) (k : ℕ) (names : List (List ℕ)) → lex cs k names ≡ lex (drop k cs) 0 names
lex_skip [] zero names = refl
lex_skip [] (suc k) names = refl
lex_skip (c ∷ cs) zero names = refl
lex_skip (c ∷ cs) (suc k) names = lex_skip cs k names

behind_behind : (ts : List Token) (t : Token) (o : Option Lexed) → behind ts (behind (t ∷ []) o) ≡ behind (ts ++ t ∷ []) o
behind_behind ts t None = refl
behind_behind ts t (Some l) = ap (λ (x : List Token). Some (record { tokens = x; names = l.names })) (sym (append_one ts t l.tokens))

pub space_step : (b : Bool) (x y : Option Lexed) → b ≡ true → (if b then x else y) ≡ x
space_step b x y h = rw h refl

piece_step : (b : Bool) (x y : Option Lexed) → b ≡ false → (if b then x else y) ≡ y
piece_step b x y h = rw h refl

-- white space goes
pub space_gone : (ts : List Token) (names : List (List ℕ)) (xs : List ℕ) → 0 < length xs → is_space (get_or xs 0 0) ≡ true
    → behind ts (lex (drop 1 xs) 0 names) ≡ behind ts (lex xs 0 names)
space_gone ts names [] h e = absurd (omega arith)
space_gone ts names (c ∷ cs) h e = ap (behind ts) (sym (space_step (is_space c) (lex cs 0 names) _ e))

skipped : (k : Lexeme) (l : List ℕ) (names : List (List ℕ)) (cs : List ℕ) (n : ℕ) → lexeme_step k l names (lex cs n) ≡ lexeme_step k l names (lex (drop n cs) 0)
skipped (Fixed t) l names cs n = ap (behind (t ∷ [])) (lex_skip cs n names)
skipped Name l names cs n = ap (behind (token.Name (number_of names l) ∷ [])) (lex_skip cs n (with_name names l))
skipped Wrong l names cs n = refl

pub lex_piece : (names : List (List ℕ)) (xs : List ℕ) → 0 < length xs → is_space (get_or xs 0 0) ≡ false
    → lex xs 0 names ≡ lexeme_step (kind_of (take (length_of xs) xs)) (take (length_of xs) xs) names (lex (drop (length_of xs) xs) 0)
lex_piece names [] h e = absurd (omega arith)
lex_piece names (c ∷ cs) h e =
    piece_step (is_space c) (lex cs 0 names) _ e
    ∙ skipped (kind_of (c ∷ take (more_of c cs) cs)) (c ∷ take (more_of c cs) cs) names cs (more_of c cs)
    ∙ ap (λ (k : ℕ). lexeme_step (kind_of (take k (c ∷ cs))) (take k (c ∷ cs)) names (lex (drop k (c ∷ cs)) 0)) (sym (add-one (more_of c cs)))

taken_goes : (k : Lexeme) (cs : List ℕ) (ts : List Token) (ns : List (List ℕ)) (ts' : List Token) (ns' : List (List ℕ)) (go : List (List ℕ) → Option Lexed)
    → Taken k cs ts ns ts' ns' true → behind ts' (go ns') ≡ behind ts (lexeme_step k cs ns go)
taken_goes (Fixed t) cs ts ns ts' ns' go h = rw (h.1, h.2) (sym (behind_behind ts t (go ns)))
taken_goes Name cs ts ns ts' ns' go h = rw (h.1, h.2) (sym (behind_behind ts _ (go (with_name ns cs))))
taken_goes Wrong cs ts ns ts' ns' go h = cc

taken_stops : (k : Lexeme) (cs : List ℕ) (ts : List Token) (ns : List (List ℕ)) (ts' : List Token) (ns' : List (List ℕ)) (go : List (List ℕ) → Option Lexed)
    → Taken k cs ts ns ts' ns' false → None ≡ behind ts (lexeme_step k cs ns go)
taken_stops (Fixed t) cs ts ns ts' ns' go h = let no = h.0 in cc
taken_stops Name cs ts ns ts' ns' go h = let no = h.0 in cc
taken_stops Wrong cs ts ns ts' ns' go h = refl

-- a piece that is taken, and one that isn't
pub piece_taken : (ts : List Token) (ns : List (List ℕ)) (ts' : List Token) (ns' : List (List ℕ)) (xs : List ℕ) → 0 < length xs → is_space (get_or xs 0 0) ≡ false
    → Taken (kind_of (take (length_of xs) xs)) (take (length_of xs) xs) ts ns ts' ns' true
    → behind ts' (lex (drop (length_of xs) xs) 0 ns') ≡ behind ts (lex xs 0 ns)
piece_taken ts ns ts' ns' xs h e k =
    taken_goes (kind_of (take (length_of xs) xs)) (take (length_of xs) xs) ts ns ts' ns' (lex (drop (length_of xs) xs) 0) k
    ∙ ap (behind ts) (sym (lex_piece ns xs h e))

pub piece_refused : (ts : List Token) (ns : List (List ℕ)) (ts' : List Token) (ns' : List (List ℕ)) (xs : List ℕ) → 0 < length xs → is_space (get_or xs 0 0) ≡ false
    → Taken (kind_of (take (length_of xs) xs)) (take (length_of xs) xs) ts ns ts' ns' false
    → None ≡ behind ts (lex xs 0 ns)
piece_refused ts ns ts' ns' xs h e k =
    taken_stops (kind_of (take (length_of xs) xs)) (take (length_of xs) xs) ts ns ts' ns' (lex (drop (length_of xs) xs) 0) k
    ∙ ap (behind ts) (sym (lex_piece ns xs h e))

pub some_length : (xs : List ℕ) → 0 < length xs → 1 ≤ length_of xs
some_length [] h = absurd (omega arith)
some_length (c ∷ cs) h = omega arith

pub all_behind : (xs : List ℕ) (i : ℕ) → take (length xs - i) (drop i xs) ≡ drop i xs
all_behind xs i = take_rest xs i
