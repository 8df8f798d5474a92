-- The text that is read is a program, and each program is read.
use Rattle.std.proofs.Common.{◌≡◌, ℕ, ◌≤◌, ◌^◌, List, [], length, Option, Some, None, refl, sym, ap, subst, ◌∙◌}
use Rattle.std.specs.Prelude.{Result, Ok, Err, IfOk, IfSome}
use Rattle.std.specs.declared.alloc.AllocError.{AllocError}
use Rattle.std.specs.Option.{option_map}
use Rattle.porch_syntax.specs.declared.token.Token.{Token}
use Rattle.porch_syntax.specs.declared.tree.Tree.{Tree}
use Rattle.porch_syntax.specs.Tree.{Program, program_of}
use Rattle.porch_syntax.specs.Token.{Spells}
use Rattle.porch_syntax.specs.Language.{unit_tokens, IsSource}
use Rattle.porch_syntax.specs.inside.Lexing.{Lexed, lex}
use Rattle.porch_syntax.specs.inside.Source.{program_in_tokens, source_of}
use Rattle.porch_syntax.proofs.Complete.{complete}
use Rattle.porch_syntax.proofs.Stated.{Programs, IsProgram, sound}
use Rattle.porch_syntax.proofs.Numbers.{Numbered, program_number, one_number}
use Rattle.porch_syntax.proofs.Texts.{LexIs, LexesAs, lexes, fits}

is_source : (text : List ℕ) (p : Program) (l : Lexed) → length text ≤ 2 ^ 20 → LexIs text [] l → IsProgram l.tokens p → IsSource text p
is_source text p l h g i =
    record {
      small = h;
      names = l.names;
      named = g.names;
      counted = one_number l.tokens 0 (length l.names) (length p.declarations) g.numbered
          (subst (λ (ts : List Token). Numbered 0 (length p.declarations) ts) i.tokens (program_number p i.declared i.stated));
      spelled = subst (λ (ts : List Token). Spells l.names text ts) (sym i.tokens) g.spells;
      declared = i.declared;
      stated = i.stated;
    }

read_in : (text : List ℕ) (p : Program) (o : Option Lexed) → length text ≤ 2 ^ 20 → LexesAs text [] o → program_in_tokens (option_map (λ l. l.tokens) o) ≡ Some p → IsSource text p
read_in text p None h g e = cc
read_in text p (Some l) h g e = is_source text p l h g (subst (λ (o : Option Program). Programs l.tokens o) e (sound l.tokens))

pub parsed : (text : List ℕ) (p : Program) → length text ≤ 2 ^ 20 → source_of text ≡ Some p → IsSource text p
unfolding source_of
parsed text p h e = read_in text p (lex text 0 []) h (lexes text 0 [] tt) e

pub parses : (text : List ℕ) (p : Program) → IsSource text p → source_of text ≡ Some p
unfolding source_of
parses text p h =
    ap (λ (o : Option Lexed). program_in_tokens (option_map (λ l. l.tokens) o))
    (fits (unit_tokens p) text [] h.names h.names refl h.named h.spelled
    (subst (λ (m : ℕ). Numbered 0 m (unit_tokens p)) (sym h.counted) (program_number p h.declared h.stated)))
    ∙ complete p h.declared h.stated

-- what the code answers
tree_read : (text : List ℕ) (found : Option Tree) → length text ≤ 2 ^ 20 → option_map program_of found ≡ source_of text → IfSome found (λ tree. IsSource text (program_of tree))
tree_read text None h e = tt
tree_read text (Some tree) h e = parsed text (program_of tree) h (sym e)

pub text_read : (text : List ℕ) (r : Result (Option Tree) AllocError) → length text ≤ 2 ^ 20 → IfOk r (λ found. option_map program_of found ≡ source_of text)
    → IfOk r (λ found. IfSome found (λ tree. IsSource text (program_of tree)))
text_read text (Ok found) h e = tree_read text found h e
text_read text (Err x) h e = tt

pub text_only : (text : List ℕ) (r : Result (Option Tree) AllocError) → IfOk r (λ found. option_map program_of found ≡ source_of text)
    → IfOk r (λ found. (p : Program) → IsSource text p → option_map program_of found ≡ Some p)
text_only text (Ok found) e = λ p s. e ∙ parses text p s
text_only text (Err x) e = tt

pub one_program : (text : List ℕ) (p q : Program) → IsSource text p → IsSource text q → p ≡ q
one_program text p q a b =
    let both : Some p ≡ Some q = sym (parses text p a) ∙ parses text q b in
    cc
