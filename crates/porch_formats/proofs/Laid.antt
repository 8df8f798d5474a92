-- Pieces that are laid behind others.
use Rattle.std.proofs.Common.{◌≡◌, ℕ, Bool, true, false, List, [], ◌∷◌, ◌++◌, Ok, Err, refl, sym, ap, ◌∙◌}
use Rattle.porch_lex.specs.declared.refusal.Refusal.{Refusal}
use Rattle.porch_typed.specs.Mirror.{Print, bytes, Prints, no_prints, with_print}
use Rattle.porch_typed.specs.Mirror as tree
use Rattle.porch_typed.specs.Views as views
use Rattle.porch_check.specs.Scopes.{Scopes}
use Rattle.porch_check.specs.Operands.{Typing, go_on}
use Rattle.porch_check.specs.Calls.{Argument, Directive, byte, number, text, is_taken, prints_of, with_byte}
use Rattle.porch_formats.specs.inside.Shown.{is_bytes, printed_one, with_run, put_run, put_all, behind}

run_last : (run : List ℕ) (c : ℕ) (qs : Prints) → put_run (run ++ c ∷ []) qs ≡ put_run run (with_byte c qs)
run_last [] c qs = refl
run_last (d ∷ run) c qs = ap (with_byte d) (run_last run c qs)

put_last : (ps : List Print) (p : Print) (qs : Prints) → put_all (ps ++ p ∷ []) qs ≡ put_all ps (with_print p qs)
put_last [] p qs = refl
put_last (x ∷ ps) p qs = ap (with_print x) (put_last ps p qs)

put_none : (ps : List Print) → put_all ps no_prints ≡ views.prints_of ps
put_none [] = refl
put_none (p ∷ ps) = ap (with_print p) (put_none ps)

byte_before : (c : ℕ) (p : Print) (qs : Prints) → is_bytes p ≡ false → with_byte c (with_print p qs) ≡ with_print (bytes (c ∷ [])) (with_print p qs)
byte_before c (bytes bs) qs h = absurd (cc)
byte_before c (tree.number how e) qs h = refl
byte_before c (tree.text e) qs h = refl
byte_before c (tree.literal bs) qs h = refl

run_before : (c : ℕ) (cs : List ℕ) (p : Print) (qs : Prints) → is_bytes p ≡ false
    → put_run (c ∷ cs) (with_print p qs) ≡ with_print (bytes (c ∷ cs)) (with_print p qs)
run_before c [] p qs h = byte_before c p qs h
run_before c (d ∷ cs) p qs h = ap (with_byte c) (run_before d cs p qs h)

run_alone : (c : ℕ) (cs : List ℕ) → put_run (c ∷ cs) no_prints ≡ with_print (bytes (c ∷ cs)) no_prints
run_alone c [] = refl
run_alone c (d ∷ cs) = ap (with_byte c) (run_alone d cs)

piece_laid : (ps : List Print) (run : List ℕ) (p : Print) (qs : Prints) → is_bytes p ≡ false
    → put_all (with_run ps run ++ p ∷ []) qs ≡ put_all ps (put_run run (with_print p qs))
piece_laid ps [] p qs h = put_last ps p qs
piece_laid ps (c ∷ cs) p qs h =
    put_last (ps ++ bytes (c ∷ cs) ∷ []) p qs
    ∙ put_last ps (bytes (c ∷ cs)) (with_print p qs)
    ∙ ap (put_all ps) (sym (run_before c cs p qs h))

-- all that was laid
pub all_laid : (ps : List Print) (run : List ℕ) → put_all ps (put_run run no_prints) ≡ views.prints_of (with_run ps run)
all_laid ps [] = put_none ps
all_laid ps (c ∷ cs) =
    ap (put_all ps) (run_alone c cs)
    ∙ sym (put_last ps (bytes (c ∷ cs)) no_prints)
    ∙ put_none (ps ++ bytes (c ∷ cs) ∷ [])

put_byte : (ps : List Print) (run : List ℕ) (c : ℕ) (r : Typing Prints)
    → behind ps (run ++ c ∷ []) r ≡ behind ps run (go_on r (λ qs s. Ok (with_byte c qs, s)))
put_byte ps run c (Ok q) = ap (λ qs. Ok (put_all ps qs, q.1)) (run_last run c q.0)
put_byte ps run c (Err e) = refl

-- a byte more
pub one_byte : (ps : List Print) (run : List ℕ) (c : ℕ) (ds : List Directive) (args : List Argument) (s : Scopes)
    → behind ps (run ++ c ∷ []) (prints_of ds args s) ≡ behind ps run (prints_of (byte c ∷ ds) args s)
one_byte ps run c ds args s = put_byte ps run c (prints_of ds args s)

put_piece : (ps : List Print) (run : List ℕ) (p : Print) (r : Typing Prints) → is_bytes p ≡ false
    → behind (with_run ps run ++ p ∷ []) [] r ≡ behind ps run (go_on r (λ qs s. Ok (with_print p qs, s)))
put_piece ps run p (Ok q) h = ap (λ qs. Ok (qs, q.1)) (piece_laid ps run p q.0 h)
put_piece ps run p (Err e) h = refl

first : (d : Directive) (ds : List Directive) (a : Argument) (args : List Argument) (s : Scopes) → is_taken d ≡ true
    → prints_of (d ∷ ds) (a ∷ args) s ≡ go_on (printed_one d a s) (λ p s. go_on (prints_of ds args s) (λ qs s. Ok (with_print p qs, s)))
first (byte c) ds a args s h = absurd (cc)
first (number how) ds a args s h = refl
first text ds a args s h = refl

-- a piece more
pub one_piece : (ps : List Print) (run : List ℕ) (d : Directive) (ds : List Directive) (a : Argument) (args : List Argument) (p : Print) (s t : Scopes)
    → is_taken d ≡ true → is_bytes p ≡ false → printed_one d a s ≡ Ok (p, t)
    → behind (with_run ps run ++ p ∷ []) [] (prints_of ds args t) ≡ behind ps run (prints_of (d ∷ ds) (a ∷ args) s)
one_piece ps run d ds a args p s t h k made =
    put_piece ps run p (prints_of ds args t) k
    ∙ sym (ap (behind ps run) (first d ds a args s h
    ∙ ap (λ r. go_on r (λ p s. go_on (prints_of ds args s) (λ qs s. Ok (with_print p qs, s)))) made))

-- a rule that the next argument breaks
pub broken : (ps : List Print) (run : List ℕ) (d : Directive) (ds : List Directive) (a : Argument) (args : List Argument) (s : Scopes) (e : Refusal)
    → is_taken d ≡ true → printed_one d a s ≡ Err e → behind ps run (prints_of (d ∷ ds) (a ∷ args) s) ≡ Err e
broken ps run d ds a args s e h made =
    ap (behind ps run) (first d ds a args s h
    ∙ ap (λ r. go_on r (λ p s. go_on (prints_of ds args s) (λ qs s. Ok (with_print p qs, s)))) made)

no_argument : (d : Directive) (ds : List Directive) (s : Scopes) → is_taken d ≡ true → prints_of (d ∷ ds) [] s ≡ Ok (no_prints, s)
no_argument (byte c) ds s h = absurd (cc)
no_argument (number how) ds s h = refl
no_argument text ds s h = refl

-- no argument is left
pub none_left : (ps : List Print) (run : List ℕ) (d : Directive) (ds : List Directive) (s : Scopes) → is_taken d ≡ true
    → behind ps run (prints_of (d ∷ ds) [] s) ≡ Ok (views.prints_of (with_run ps run), s)
none_left ps run d ds s h = ap (behind ps run) (no_argument d ds s h) ∙ ap (λ qs. Ok (qs, s)) (all_laid ps run)

-- nothing of the format is left
pub at_end : (ps : List Print) (run : List ℕ) (args : List Argument) (s : Scopes)
    → behind ps run (prints_of [] args s) ≡ Ok (views.prints_of (with_run ps run), s)
at_end ps run args s = ap (λ qs. Ok (qs, s)) (all_laid ps run)

all_in : (r : Typing Prints) → behind [] [] r ≡ r
all_in (Ok q) = refl
all_in (Err e) = refl

-- nothing was shown yet
pub none_shown : (ds : List Directive) (args : List Argument) (s : Scopes) → behind [] [] (prints_of ds args s) ≡ prints_of ds args s
none_shown ds args s = all_in (prints_of ds args s)
