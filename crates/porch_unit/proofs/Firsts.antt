-- The first tokens of expressions and statements.
use Rattle.std.proofs.Common.{◌≡◌, ℕ, suc, Bool, true, false, List, [], ◌∷◌, Option, Some, None, refl, sym, subst}
use Rattle.porch_tree.specs.declared.word.Word.{Word}
use Rattle.porch_tree.specs.declared.word.Word.TheVariants as word
use Rattle.porch_tree.specs.declared.tree.Prefix.{Prefix}
use Rattle.porch_tree.specs.declared.tree.Prefix.TheVariants as prefix
use Rattle.porch_tree.specs.Words.{prefix_word}
use Rattle.porch_tree.specs.Mirror.{Expr, name, whole, character, texts, nested, suffixed, prefixed, size_of, cast, row, conditional, assign, sequence, absent, present, Stmt, block, evaluate, choose, choose_else, while_loop, do_loop, for_loop, switch, break, continue, give, Stmts, no_stmts, with_stmt, SwitchEntries, no_entries, with_entry, case, default, stmt}
use Rattle.porch_tree.specs.Pieces.{Spelled, Piece, expr_pieces, stmt_pieces, stmts_pieces, switch_pieces}
use Rattle.porch_tree.specs.Grammar.{AreMatched}
use Rattle.porch_declarations.specs.Declarations.{is_static}
use Rattle.porch_unit.specs.declared.lead.Lead.TheVariants as lead
use Rattle.porch_unit.specs.Units.{lead_of, is_ending, is_else}

-- what an expression begins with
pub record Opening (w : Word) : Type 0 where
  pub goes : is_ending w ≡ false
  pub leads : lead_of w ≡ lead.Other
  pub no_else : is_else w ≡ false
  pub no_static : is_static w ≡ false

abbrev pub Leads : (Word → Type 0) → List Piece → Type 0
Leads P [] = ⊥
Leads P (p ∷ ps) = P p.word

abbrev pub IsLed : (Word → Type 0) → List Spelled → Type 0
IsLed P [] = ⊥
IsLed P (t ∷ ts) = P t.word

pub led : (P : Word → Type 0) (ps : List Piece) (ts : List Spelled) → Leads P ps → AreMatched ts ps → IsLed P ts
led P [] ts l h = absurd l
led P (p ∷ ps) [] l h = absurd h
led P (p ∷ ps) (t ∷ ts) l h = subst P (sym h.0.word) l

prefix_first : (p : Prefix) → Opening (prefix_word p)
prefix_first prefix.Increase = record { goes = refl; leads = refl; no_else = refl; no_static = refl }
prefix_first p = record { goes = refl; leads = refl; no_else = refl; no_static = refl }

pub expr_first : (i : Bool) (e : Expr) (d : ℕ) (ps : List Piece) → Leads Opening (expr_pieces i e d ps)
expr_first i (name n) d ps = record { goes = refl; leads = refl; no_else = refl; no_static = refl }
expr_first i (whole n) d ps = record { goes = refl; leads = refl; no_else = refl; no_static = refl }
expr_first i (character n) d ps = record { goes = refl; leads = refl; no_else = refl; no_static = refl }
expr_first i (texts n ns) d ps = record { goes = refl; leads = refl; no_else = refl; no_static = refl }
expr_first i (nested at e) d ps = record { goes = refl; leads = refl; no_else = refl; no_static = refl }
expr_first i (suffixed e ss) d ps = expr_first i e d _
expr_first i (prefixed at p e) d ps = prefix_first p
expr_first i (size_of at t) d ps = record { goes = refl; leads = refl; no_else = refl; no_static = refl }
expr_first i (cast at t e) d ps = record { goes = refl; leads = refl; no_else = refl; no_static = refl }
expr_first i (row l e os) d ps = expr_first i e d _
expr_first i (conditional e a b) d ps = expr_first i e (suc d) _
expr_first i (assign a x e) d ps = expr_first i x (suc d) _
expr_first i (sequence e es) d ps = expr_first i e d _

-- No statement begins with `else`.
abbrev pub NoElse : Word → Type 0
NoElse w = is_else w ≡ false

no_else : (ps : List Piece) → Leads Opening ps → Leads NoElse ps
no_else [] l = absurd l
no_else (p ∷ ps) l = l.no_else

pub stmt_first : (s : Stmt) (d : ℕ) (ps : List Piece) → Leads NoElse (stmt_pieces s d ps)
stmt_first (block at ds ss) d ps = refl
stmt_first (evaluate absent) d ps = refl
stmt_first (evaluate (present e)) d ps = no_else _ (expr_first true e (suc (suc d)) _)
stmt_first (choose at e s) d ps = refl
stmt_first (choose_else at e s t) d ps = refl
stmt_first (while_loop at e s) d ps = refl
stmt_first (do_loop at s e) d ps = refl
stmt_first (for_loop at a b c s) d ps = refl
stmt_first (switch at e xs) d ps = refl
stmt_first (break at) d ps = refl
stmt_first (continue at) d ps = refl
stmt_first (give at e) d ps = refl

pub stmts_first : (ss : Stmts) (d : ℕ) (ps : List Piece) → Leads NoElse ps → Leads NoElse (stmts_pieces ss d ps)
stmts_first no_stmts d ps l = l
stmts_first (with_stmt s ss) d ps l = stmt_first s d _

pub entries_first : (xs : SwitchEntries) (d : ℕ) (ps : List Piece) → Leads NoElse ps → Leads NoElse (switch_pieces xs d ps)
entries_first no_entries d ps l = l
entries_first (with_entry (case at e) xs) d ps l = refl
entries_first (with_entry (default at) xs) d ps l = refl
entries_first (with_entry (stmt s) xs) d ps l = stmt_first s d _
