-- Lines of a text.
use Rattle.std.proofs.Common.{◌≡◌, ◌≢◌, ℕ, Bool, true, false, eqb, List, [], ◌∷◌, ◌++◌, Option, Some, None, refl, sym, ap, subst, ◌∙◌, append_assoc}
use Rattle.std.proofs.lemmas.Bool.{eqb-true, eqb-false, eq-eqb}
use Rattle.porch_flat_text.specs.FirstWrong.{IsLine}
use Rattle.std.specs.List.{concat, AllByRecursion}
use Rattle.porch_flat_text.specs.inside.Cuts.{with_front, line_of}

pub front_more : (front : List ℕ) (c : ℕ) (o : Option (List ℕ × List ℕ)) → with_front front (with_front (c ∷ []) o) ≡ with_front (front ++ c ∷ []) o
front_more front c None = refl
front_more front c (Some found) = ap (λ xs. Some (xs, found.1)) (sym (append_assoc front (c ∷ []) found.0))

line_further : (c : ℕ) (cs : List ℕ) (b : Bool) → eqb c 10 ≡ b → b ≡ false → line_of (c ∷ cs) ≡ with_front (c ∷ []) (line_of cs)
line_further c cs b e f = rw (e ∙ f) refl

line_here : (c : ℕ) (cs : List ℕ) → eqb c 10 ≡ true → line_of (c ∷ cs) ≡ Some (c ∷ [], cs)
line_here c cs e = rw e refl

-- the first line is one, and the rest stands behind it
abbrev Found : List ℕ → Option (List ℕ × List ℕ) → Type 0
Found s None = Unit {0}
Found s (Some p) = IsLine p.0 × (s ≡ p.0 ++ p.1)

longer_line : (c : ℕ) (line : List ℕ) → c ≢ 10 → IsLine line → IsLine (c ∷ line)
longer_line c [] other is = absurd is
longer_line c (d ∷ line) other is = (other, is)

found_further : (c : ℕ) (cs : List ℕ) (o : Option (List ℕ × List ℕ)) → c ≢ 10 → Found cs o → Found (c ∷ cs) (with_front (c ∷ []) o)
found_further c cs None other f = tt
found_further c cs (Some p) other f = (longer_line c p.0 other f.0, ap (λ s. c ∷ s) f.1)

found_at : (c : ℕ) (cs : List ℕ) (b : Bool) → eqb c 10 ≡ b → Found cs (line_of cs) → Found (c ∷ cs) (line_of (c ∷ cs))
found_at c cs true e f = subst (Found (c ∷ cs)) (sym (line_here c cs e)) (eqb-true c 10 e, refl)
found_at c cs false e f = subst (Found (c ∷ cs)) (sym (line_further c cs false e refl)) (found_further c cs (line_of cs) (eqb-false c 10 e) f)

found : (s : List ℕ) → Found s (line_of s)
found [] = tt
found (c ∷ cs) = found_at c cs (eqb c 10) refl (found cs)

pub line_found : (s line more : List ℕ) → line_of s ≡ Some (line, more) → IsLine line × (s ≡ line ++ more)
line_found s line more e = subst (Found s) e (found s)

not_newline : (c : ℕ) (b : Bool) → eqb c 10 ≡ b → c ≢ 10 → eqb c 10 ≡ false
not_newline c true e other = absurd (other (eqb-true c 10 e))
not_newline c false e other = e

-- a line before a text is its first
pub line_first : (line more : List ℕ) → IsLine line → line_of (line ++ more) ≡ Some (line, more)
line_first [] more is = absurd is
line_first (c ∷ []) more is = line_here c more (eq-eqb c 10 is)
line_first (c ∷ d ∷ cs) more is =
    line_further c ((d ∷ cs) ++ more) false (not_newline c (eqb c 10) refl is.0) refl ∙ ap (with_front (c ∷ [])) (line_first (d ∷ cs) more is.1)

-- lines that make one text begin alike: those of the one are the first of the other
pub record Continues (texts lines : List (List ℕ)) (rest : List ℕ) : Type 0 where
  pub more : List (List ℕ)
  pub are : texts ≡ lines ++ more
  pub behind : rest ≡ concat more

abbrev found_line : List ℕ → Option (List ℕ × List ℕ) → List ℕ
found_line other None = other
found_line other (Some p) = p.0

abbrev found_rest : List ℕ → Option (List ℕ × List ℕ) → List ℕ
found_rest other None = other
found_rest other (Some p) = p.1

no_line : (line more : List ℕ) → IsLine line → [] ≡ line ++ more → ⊥
no_line [] more is e = is
no_line (c ∷ cs) more is e = cc

pub lines_alike : (lines texts : List (List ℕ)) (rest : List ℕ) → AllByRecursion IsLine lines → AllByRecursion IsLine texts → concat texts ≡ concat lines ++ rest → Continues texts lines rest
lines_alike [] texts rest whole each e = record { more = texts; are = refl; behind = sym e }
lines_alike (line ∷ lines) [] rest whole each e = absurd (no_line line (concat lines ++ rest) whole.0 (e ∙ append_assoc line (concat lines) rest))
lines_alike (line ∷ lines) (text ∷ texts) rest whole each e =
    let same = sym (line_first text (concat texts) each.0) ∙ ap line_of (e ∙ append_assoc line (concat lines) rest) ∙ line_first line (concat lines ++ rest) whole.0 in
    let front : text ≡ line = ap (found_line []) same in
    let back : concat texts ≡ concat lines ++ rest = ap (found_rest []) same in
    let next = lines_alike lines texts rest whole.1 each.1 back in
    record { more = next.more; are = ap (λ t. t ∷ texts) front ∙ ap (λ ts. line ∷ ts) next.are; behind = next.behind }
