-- The first tokens of expressions, and of what stands behind entries and initialisers.
use Rattle.std.proofs.Common.{◌≡◌, ℕ, suc, Bool, true, false, List, [], ◌∷◌, Option, Some, None, refl, sym, subst}
use Rattle.porch_tree.specs.declared.word.Mark.{Mark}
use Rattle.porch_tree.specs.declared.word.Mark.TheVariants as mark
use Rattle.porch_tree.specs.declared.word.Word.{Word}
use Rattle.porch_tree.specs.declared.word.Word.TheVariants as word
use Rattle.porch_tree.specs.declared.tree.Prefix.{Prefix}
use Rattle.porch_tree.specs.declared.tree.Prefix.TheVariants as prefix
use Rattle.porch_tree.specs.Words.{prefix_word}
use Rattle.porch_tree.specs.Mirror.{Expr, name, whole, character, texts, nested, suffixed, prefixed, size_of, cast, row, conditional, assign, sequence, Initial, Initials, no_initials, with_initial, Entry}
use Rattle.porch_tree.specs.Pieces.{Spelled, Piece, mark as mark_piece, expr_pieces, comma_pieces, more_initials_pieces, begun_pieces, more_entries_pieces}
use Rattle.porch_tree.specs.Grammar.{AreMatched}
use Rattle.porch_parts.specs.Signs.{sign_of}
use Rattle.porch_parts.specs.Types.{is_close_brace}
use Rattle.porch_parts.specs.Ends.{ends_single, ends_declared}
use Rattle.porch_declarations.specs.Declarations.{is_open_brace}

-- no brace
abbrev pub IsNoBrace : Word → Type 0
IsNoBrace w = (is_open_brace (sign_of w) ≡ false) × (is_close_brace (sign_of w) ≡ false)

abbrev pub LeadsNoBrace : List Piece → Type 0
LeadsNoBrace [] = ⊥
LeadsNoBrace (p ∷ ps) = IsNoBrace p.word

abbrev pub IsLedByNone : List Spelled → Type 0
IsLedByNone [] = ⊥
IsLedByNone (t ∷ ts) = IsNoBrace t.word

pub led_by_none : (ps : List Piece) (ts : List Spelled) → LeadsNoBrace ps → AreMatched ts ps → IsLedByNone ts
led_by_none [] ts l h = absurd l
led_by_none (p ∷ ps) [] l h = absurd h
led_by_none (p ∷ ps) (t ∷ ts) l h = subst IsNoBrace (sym h.0.word) l

prefix_first : (p : Prefix) → IsNoBrace (prefix_word p)
prefix_first prefix.Increase = (refl, refl)
prefix_first p = (refl, refl)

pub expr_first : (i : Bool) (e : Expr) (d : ℕ) (ps : List Piece) → LeadsNoBrace (expr_pieces i e d ps)
expr_first i (name n) d ps = (refl, refl)
expr_first i (whole n) d ps = (refl, refl)
expr_first i (character n) d ps = (refl, refl)
expr_first i (texts n ns) d ps = (refl, refl)
expr_first i (nested at e) d ps = (refl, refl)
expr_first i (suffixed e ss) d ps = expr_first i e d _
expr_first i (prefixed at p e) d ps = prefix_first p
expr_first i (size_of at t) d ps = (refl, refl)
expr_first i (cast at t e) d ps = (refl, refl)
expr_first i (row l e os) d ps = expr_first i e d _
expr_first i (conditional e a b) d ps = expr_first i e (suc d) _
expr_first i (assign a x e) d ps = expr_first i x (suc d) _
expr_first i (sequence e es) d ps = expr_first i e d _

-- These pieces begin with a mark that ends what stands in front of them.
pub record Next (ends : Mark → Bool) (qs : List Piece) : Type 0 where
  pub piece : Piece
  pub others : List Piece
  pub kind : Mark
  pub same : qs ≡ piece ∷ others
  pub word : piece.word ≡ word.Mark kind
  pub good : ends kind ≡ true

pub next : (ends : Mark → Bool) (i : Bool) (m : Mark) (d : ℕ) (ps : List Piece) → ends m ≡ true → Next ends (mark_piece i m d ∷ ps)
next ends i m d ps g = record { piece = mark_piece i m d; others = ps; kind = m; same = refl; word = refl; good = g }

pub more_next : (ends : Mark → Bool) → ends mark.Comma ≡ true → ends mark.Semicolon ≡ true → (i : Bool) (es : List Entry) (d : ℕ) (ps : List Piece)
    → Next ends (more_entries_pieces i es d (mark_piece i mark.Semicolon d ∷ ps))
more_next ends c s i [] d ps = next ends i mark.Semicolon d ps s
more_next ends c s i (e ∷ es) d ps = next ends i mark.Comma d _ c

pub begun_next : (o : Option Initial) (i : Bool) (es : List Entry) (d : ℕ) (ps : List Piece)
    → Next ends_declared (begun_pieces i o d (more_entries_pieces i es d (mark_piece i mark.Semicolon d ∷ ps)))
begun_next None i es d ps = more_next ends_declared refl refl i es d ps
begun_next (Some x) i es d ps = next ends_declared i mark.Equal d _ refl

pub items_next : (xs : Initials) (comma : Bool) (i : Bool) (d : ℕ) (ps : List Piece)
    → Next ends_single (more_initials_pieces i xs d (comma_pieces i comma d (mark_piece i mark.CloseBrace d ∷ ps)))
items_next no_initials true i d ps = next ends_single i mark.Comma d _ refl
items_next no_initials false i d ps = next ends_single i mark.CloseBrace d _ refl
items_next (with_initial x xs) comma i d ps = next ends_single i mark.Comma d _ refl
