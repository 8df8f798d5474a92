-- What is pending has tokens that bring it to an end.
use Rattle.std.proofs.Common.{◌≡◌, ℕ, Bool, true, false, if◌then◌else◌, List, [], ◌∷◌, None, refl, sym, ap, ◌∙◌}
use Rattle.porch_tree.specs.declared.word.Keyword.{Keyword}
use Rattle.porch_tree.specs.declared.word.Keyword.TheVariants as key
use Rattle.porch_tree.specs.declared.word.Mark.TheVariants as mark
use Rattle.porch_tree.specs.declared.word.Word.{Word}
use Rattle.porch_tree.specs.declared.word.Word.TheVariants as word
use Rattle.porch_tree.specs.declared.tree.TagSort.{TagSort}
use Rattle.porch_tree.specs.Pieces.{Piece}
use Rattle.porch_walk.specs.declared.symbol.Mode.{Mode}
use Rattle.porch_walk.specs.declared.symbol.Mode.TheVariants as mode
use Rattle.porch_walk.specs.declared.symbol.Naming.TheVariants as naming
use Rattle.porch_walk.specs.declared.symbol.Kinds.{Kinds}
use Rattle.porch_walk.specs.declared.symbol.Symbol.{Symbol}
use Rattle.porch_walk.specs.declared.symbol.Symbol.TheVariants.{Must, Operand, Open, Texts, Suffixes, Behind, Commas, Optional, Base, Kind, Consts, Tag, TagBody, Fields, MoreDeclarators, ConstantValue, Constants, Declarator, Pointer, Nameless, Brackets, Counts, Count, Parameters, Void, MoreParameters, Entries, Entry, MoreEntries, Initial, MoreInitials, NextInitial, FileEntries, FirstEntry, EndTypedef, Body, Statements, Statement, Else, Cases}
use Rattle.porch_walk.specs.Walk.{run_from, is, is_key, heard, kinds_of, rest_of, takes_type, goes, kind as kind_stage, open_on, declaration, statement}
use Rattle.porch_walk.proofs.Words.{same, itself}
use Rattle.porch_walk.proofs.Passes.{over, Heads, closes, leaves, behind_base, closes_are_ends, ends_are_parts, parts_are_follows, not_text, skips, passes, takes, at, pass_suffixes, pass_behind, as_row, pass_commas, pass_texts}
use Rattle.porch_walk.proofs.Accepts.{on, pass_optional, pass_brackets, pass_counts, pass_declarator, no_value, not_const, no_kind_of, follows_no_text, after_star, leaves_no_const, tag_consts}
use Rattle.porch_walk.proofs.Units.{Complete, complete}

-- a token that ends something
abbrev pub by : Bool → Word → Piece
by i w = record { word = w; at = None; bytes = []; uses = 0; inside = i }

-- words that bring what is pending to an end
abbrev pub completion : Bool → List Symbol → List Piece
completion false [] = []
completion true [] = by true (word.Mark mark.CloseBrace) ∷ []
completion i (Must w ∷ ss) = by i w ∷ completion i ss
completion i (Operand m ∷ ss) = by i word.Whole ∷ completion i ss
completion i (Open mode.Size ∷ ss) = by i (word.Key key.Int) ∷ by i (word.Mark mark.CloseParenthesis) ∷ completion i ss
completion i (Open m ∷ ss) = by i word.Whole ∷ by i (word.Mark mark.CloseParenthesis) ∷ completion i ss
completion i (Texts ∷ ss) = completion i ss
completion i (Suffixes ∷ ss) = completion i ss
completion i (Commas ∷ ss) = completion i ss
completion i (Optional ∷ ss) = completion i ss
completion i (Consts ∷ ss) = completion i ss
completion i (ConstantValue ∷ ss) = completion i ss
completion i (Brackets ∷ ss) = completion i ss
completion i (Counts ∷ ss) = completion i ss
completion i (Body ∷ ss) = completion i ss
completion i (Statements ∷ ss) = completion i ss
completion i (Else ∷ ss) = completion i ss
completion i (Cases ∷ ss) = completion i ss
completion i (Behind u ∷ ss) = completion i ss
completion i (Base ∷ ss) = by i (word.Key key.Int) ∷ completion i ss
completion i (Kind s ∷ ss) = completion i ss
completion i (Tag s ∷ ss) = by i word.Name ∷ completion i ss
completion i (TagBody s ∷ ss) = completion i ss
completion i (Declarator naming.Must ∷ ss) = by i word.Name ∷ completion i ss
completion i (Declarator naming.Typedef ∷ ss) = by i word.Name ∷ completion i ss
completion i (Declarator n ∷ ss) = completion i ss
completion i (Pointer naming.Must ∷ ss) = by i word.Name ∷ completion i ss
completion i (Pointer naming.Typedef ∷ ss) = by i word.Name ∷ completion i ss
completion i (Pointer n ∷ ss) = completion i ss
completion i (Initial ∷ ss) = by i word.Whole ∷ completion i ss
completion i (Fields ∷ ss) = by i (word.Mark mark.CloseBrace) ∷ completion i ss
completion i (MoreDeclarators ∷ ss) = by i (word.Mark mark.Semicolon) ∷ completion i ss
completion i (Constants ∷ ss) = by i (word.Mark mark.CloseBrace) ∷ completion i ss
completion i (Nameless ∷ ss) = by i (word.Mark mark.CloseParenthesis) ∷ completion i ss
completion i (Count ∷ ss) = by i (word.Mark mark.CloseBracket) ∷ completion i ss
completion i (Parameters ∷ ss) = by i (word.Mark mark.CloseParenthesis) ∷ completion i ss
completion i (Void ∷ ss) = by i (word.Mark mark.CloseParenthesis) ∷ completion i ss
completion i (MoreParameters ∷ ss) = by i (word.Mark mark.CloseParenthesis) ∷ completion i ss
completion i (Entries ∷ ss) = by i (word.Mark mark.Semicolon) ∷ completion i ss
completion i (Entry ∷ ss) = by i (word.Mark mark.Semicolon) ∷ completion i ss
completion i (MoreEntries ∷ ss) = by i (word.Mark mark.Semicolon) ∷ completion i ss
completion i (MoreInitials ∷ ss) = by i (word.Mark mark.CloseBrace) ∷ completion i ss
completion i (NextInitial ∷ ss) = by i (word.Mark mark.CloseBrace) ∷ completion i ss
completion i (FileEntries ∷ ss) = by i (word.Mark mark.Semicolon) ∷ completion i ss
completion i (FirstEntry ∷ ss) = by i (word.Mark mark.Semicolon) ∷ completion i ss
completion i (EndTypedef ∷ ss) = by i (word.Mark mark.Semicolon) ∷ completion i ss
completion i (Statement ∷ ss) = by i (word.Mark mark.Semicolon) ∷ completion i ss

-- a word that isn't outside the language in a block
abbrev pub safe_key : Keyword → Bool
safe_key key.While = true
safe_key key.Int = true
safe_key k = false

abbrev pub safe : Word → Bool
safe (word.Key k) = safe_key k
safe w = true

abbrev pub brace : Word → Bool
brace w = is w (word.Mark mark.CloseBrace)

abbrev pub no_else : Word → Bool
no_else w = if is_key key.Else w then false else true

abbrev pub IsLast : List Symbol → Type 0
IsLast [] = Unit {0}
IsLast (s ∷ ss) = ⊥

-- what may be left out has a word behind it that ends it
abbrev pub Good : Bool → List Symbol → Type 0
Good i [] = Unit {0}
Good i (Must w ∷ ss) = (safe w ≡ true) × Good i ss
Good i (Texts ∷ ss) = Heads closes (completion i ss) × Good i ss
Good i (Suffixes ∷ ss) = Heads closes (completion i ss) × Good i ss
Good i (Commas ∷ ss) = Heads closes (completion i ss) × Good i ss
Good i (Optional ∷ ss) = Heads closes (completion i ss) × Good i ss
Good i (ConstantValue ∷ ss) = Heads closes (completion i ss) × Good i ss
Good i (Initial ∷ ss) = Heads closes (completion i ss) × Good i ss
Good i (Base ∷ ss) = Heads behind_base (completion i ss) × Good i ss
Good i (Consts ∷ ss) = Heads behind_base (completion i ss) × Good i ss
Good i (Nameless ∷ ss) = Heads leaves (completion i ss) × Good i ss
Good i (Brackets ∷ ss) = Heads leaves (completion i ss) × Good i ss
Good i (Counts ∷ ss) = Heads leaves (completion i ss) × Good i ss
Good i (Body ∷ ss) = Heads brace (completion i ss) × Good i ss
Good i (Statements ∷ ss) = Heads brace (completion i ss) × Good i ss
Good i (Cases ∷ ss) = Heads brace (completion i ss) × Good i ss
Good i (Statement ∷ ss) = Heads no_else (completion i ss) × Good i ss
Good i (Else ∷ ss) = Heads no_else (completion i ss) × Good i ss
Good i (Operand m ∷ ss) = Heads closes (completion i ss) × Good i ss
Good i (Open m ∷ ss) = Heads closes (completion i ss) × Good i ss
Good i (Behind u ∷ ss) = Heads closes (completion i ss) × Good i ss
Good i (Kind s ∷ ss) = Heads behind_base (completion i ss) × Good i ss
Good i (Tag s ∷ ss) = Heads behind_base (completion i ss) × Good i ss
Good i (TagBody s ∷ ss) = Heads behind_base (completion i ss) × Good i ss
Good i (Declarator n ∷ ss) = Heads leaves (completion i ss) × Good i ss
Good i (Pointer n ∷ ss) = Heads leaves (completion i ss) × Good i ss
Good i (FileEntries ∷ ss) = IsLast ss
Good i (FirstEntry ∷ ss) = IsLast ss
Good i (Fields ∷ ss) = Good i ss
Good i (MoreDeclarators ∷ ss) = Good i ss
Good i (Constants ∷ ss) = Good i ss
Good i (Count ∷ ss) = Good i ss
Good i (Parameters ∷ ss) = Good i ss
Good i (Void ∷ ss) = Good i ss
Good i (MoreParameters ∷ ss) = Good i ss
Good i (Entries ∷ ss) = Good i ss
Good i (Entry ∷ ss) = Good i ss
Good i (MoreEntries ∷ ss) = Good i ss
Good i (MoreInitials ∷ ss) = Good i ss
Good i (NextInitial ∷ ss) = Good i ss
Good i (EndTypedef ∷ ss) = Good i ss

pub brace_is : (w : Word) → brace w ≡ true → w ≡ word.Mark mark.CloseBrace
brace_is w h = same w (word.Mark mark.CloseBrace) h

pub brace_no_else : (ps : List Piece) → Heads brace ps → Heads no_else ps
brace_no_else [] h = absurd h
brace_no_else (p ∷ ps) h = ap no_else (brace_is p.word h)

pub brace_closes : (ps : List Piece) → Heads brace ps → Heads closes ps
brace_closes [] h = absurd h
brace_closes (p ∷ ps) h = ap closes (brace_is p.word h)

pub flipped : (b : Bool) → (if b then false else true) ≡ true → b ≡ false
flipped true h = sym h
flipped false h = refl

pub not_name_closes : (ps : List Piece) → Heads closes ps → Heads not_text ps
not_name_closes ps h = follows_no_text ps (parts_are_follows ps (ends_are_parts ps (closes_are_ends ps h)))

module _ (types : List (List ℕ)) (i : Bool) where
  -- what is left out in front of a brace, and of other words

  no_statement : (f : List ℕ) (ss : List Symbol) (w : Word) → brace w ≡ true → statement types f i ss w ≡ None
  no_statement f ss w h = ap (statement types f i ss) (brace_is w h)

  no_declaration : (f : List ℕ) (ss : List Symbol) (w : Word) (bs : List ℕ) → brace w ≡ true → declaration types f i ss (heard w bs) ≡ None
  no_declaration f ss w bs h = ap (λ v. declaration types f i ss (heard v bs)) (brace_is w h)

  pass_statements : (f : List ℕ) (ss : List Symbol) (ps : List Piece) → Heads brace ps → on types i f (Statements ∷ ss) ps ≡ on types i f ss ps
  pass_statements f ss [] h = absurd h
  pass_statements f ss (p ∷ ps) h = passes _ _ (λ n. over n ps) (no_statement f (Statements ∷ ss) p.word h)

  pass_body : (f : List ℕ) (ss : List Symbol) (ps : List Piece) → Heads brace ps → on types i f (Body ∷ ss) ps ≡ on types i f ss ps
  pass_body f ss [] h = absurd h
  pass_body f ss (p ∷ ps) h = passes _ _ (λ n. over n ps) (no_declaration f (Body ∷ ss) p.word p.bytes h) ∙ passes _ _ (λ n. over n ps) (no_statement f (Statements ∷ ss) p.word h)

  pass_cases : (f : List ℕ) (ss : List Symbol) (ps : List Piece) → Heads brace ps → on types i f (Cases ∷ ss) ps ≡ on types i f ss ps
  pass_cases f ss [] h = absurd h
  pass_cases f ss (p ∷ ps) h =
      skips _ _ (λ n. over n ps) (ap (is_key key.Case) (brace_is p.word h)) ∙ skips _ _ (λ n. over n ps) (ap (is_key key.Default) (brace_is p.word h))
      ∙ passes _ _ (λ n. over n ps) (no_statement f (Cases ∷ ss) p.word h)

  pass_else : (f : List ℕ) (ss : List Symbol) (ps : List Piece) → Heads no_else ps → on types i f (Else ∷ ss) ps ≡ on types i f ss ps
  pass_else f ss [] h = absurd h
  pass_else f ss (p ∷ ps) h = skips _ _ (λ n. over n ps) (flipped (is_key key.Else p.word) h)

  pass_any : (u : Bool) (f : List ℕ) (ss : List Symbol) (ps : List Piece) → Heads closes ps → on types i f (Behind u ∷ ss) ps ≡ on types i f ss ps
  pass_any u f ss ps h = let e = closes_are_ends ps h in as_row types i f u ss ps (ends_are_parts ps e) ∙ pass_behind types i f ss ps e

  pass_suffix : (f : List ℕ) (ss : List Symbol) (ps : List Piece) → Heads closes ps → on types i f (Suffixes ∷ ss) ps ≡ on types i f ss ps
  pass_suffix f ss ps h = pass_suffixes types i f ss ps (parts_are_follows ps (ends_are_parts ps (closes_are_ends ps h)))

  pass_consts : (f : List ℕ) (ss : List Symbol) (ps : List Piece) → Heads behind_base ps → on types i f (Consts ∷ ss) ps ≡ on types i f ss ps
  pass_consts f ss [] h = absurd h
  pass_consts f ss (p ∷ ps) h = not_const types i f ss p ps h

  pass_kind : (s : Kinds) (f : List ℕ) (ss : List Symbol) (ps : List Piece) → Heads behind_base ps → on types i f (Kind s ∷ ss) ps ≡ on types i f ss ps
  pass_kind s f ss [] h = absurd h
  pass_kind s f ss (p ∷ ps) h = passes (kind_stage types f i ss (kinds_of s p.word)) _ (λ n. over n ps) (ap (kind_stage types f i ss) (no_kind_of types i s p.word h))

  pass_tag : (s : TagSort) (f : List ℕ) (ss : List Symbol) (ps : List Piece) → Heads behind_base ps → on types i f (TagBody s ∷ ss) ps ≡ on types i f ss ps
  pass_tag s f ss ps h = tag_consts types i s 0 f ss 0 ps h

  -- an operand, and what is behind it
  after_operand : (m : Mode) (f : List ℕ) (ss : List Symbol) (ps : List Piece) → Heads closes ps → on types i f (Suffixes ∷ rest_of m ss) ps ≡ on types i f ss ps
  after_operand mode.Assign f ss ps h = pass_suffix f (Behind true ∷ ss) ps h ∙ pass_any true f ss ps h
  after_operand mode.Cond f ss ps h = pass_suffix f (Behind false ∷ ss) ps h ∙ pass_any false f ss ps h
  after_operand mode.Cast f ss ps h = pass_suffix f ss ps h
  after_operand mode.Unary f ss ps h = pass_suffix f ss ps h
  after_operand mode.Size f ss ps h = pass_suffix f ss ps h

  open_whole : (b : Bool) (m : Mode) (f : List ℕ) (ss : List Symbol) → open_on types f i b m ss (heard word.Whole []) ≡ goes types f i (Suffixes ∷ Behind true ∷ Commas ∷ Must (word.Mark mark.CloseParenthesis) ∷ Suffixes ∷ rest_of m ss)
  open_whole true m f ss = refl
  open_whole false m f ss = refl

  must_run : (w : Word) (f : List ℕ) (ss : List Symbol) (ps : List Piece) → on types i f (Must w ∷ ss) (by i w ∷ ps) ≡ on types i f ss ps
  must_run w f ss ps = takes _ _ (λ n. over n ps) (itself w)

on_to : (types : List (List ℕ)) (i : Bool) (f : List ℕ) (ss rs : List Symbol) (ps qs : List Piece) → on types i f ss ps ≡ on types i f rs qs → Complete (at types i f rs) qs → Complete (at types i f ss) ps
on_to types i f ss rs ps qs e c = complete (at types i f ss) (at types i f rs) ps qs e c

on_open : (types : List (List ℕ)) (i : Bool) (m : Mode) (f : List ℕ) (ss : List Symbol) → Heads closes (completion i ss) → Complete (at types i f ss) (completion i ss)
    → Complete (at types i f (Open m ∷ ss)) (by i word.Whole ∷ by i (word.Mark mark.CloseParenthesis) ∷ completion i ss)
on_open types i m f ss h =
    on_to types i f (Open m ∷ ss) ss (by i word.Whole ∷ by i (word.Mark mark.CloseParenthesis) ∷ completion i ss) (completion i ss)
    (ap (λ o. run_from o (λ n. over n (by i (word.Mark mark.CloseParenthesis) ∷ completion i ss))) (open_whole types i (takes_type m) m f ss) ∙ after_operand types i m f ss (completion i ss) h)

pub last_good : (i : Bool) (ss : List Symbol) → IsLast ss → Good i ss
last_good i [] h = tt
last_good i (s ∷ ss) h = absurd h

statement_end : (types : List (List ℕ)) (i : Bool) (f : List ℕ) (ss : List Symbol) (ps : List Piece) → on types i f (Statement ∷ ss) (by i (word.Mark mark.Semicolon) ∷ ps) ≡ on types i f ss ps
statement_end types i f ss ps = refl

on_typedef : (types : List (List ℕ)) (i : Bool) (f : List ℕ) (ss : List Symbol) (s : Symbol) → Heads leaves (completion i ss) → on types i f (s ∷ ss) (by i word.Name ∷ completion i ss) ≡ on types i [] (Brackets ∷ ss) (completion i ss)
    → Complete (at types i [] ss) (completion i ss) → Complete (at types i f (s ∷ ss)) (by i word.Name ∷ completion i ss)
on_typedef types i f ss s h e c = complete (at types i f (s ∷ ss)) (at types i [] ss) (by i word.Name ∷ completion i ss) (completion i ss) (e ∙ pass_brackets types i [] ss (completion i ss) h) c

pub completes : (ss : List Symbol) (types : List (List ℕ)) (f : List ℕ) (i : Bool) → Good i ss → Complete (at types i f ss) (completion i ss)
completes [] types f false g = record { last = at types false f []; run = refl; ended = refl }
completes [] types f true g = record { last = at types false f []; run = refl; ended = refl }
completes (Must w ∷ ss) types f i g = on_to types i f (Must w ∷ ss) ss (completion i (Must w ∷ ss)) (completion i ss) (must_run types i w f ss (completion i ss)) (completes ss types f i g.1)
completes (Operand m ∷ ss) types f i g = on_to types i f (Operand m ∷ ss) ss (completion i (Operand m ∷ ss)) (completion i ss) (after_operand types i m f ss (completion i ss) g.0) (completes ss types f i g.1)
completes (Open mode.Size ∷ ss) types f i g = on_to types i f (Open mode.Size ∷ ss) ss (completion i (Open mode.Size ∷ ss)) (completion i ss) refl (completes ss types f i g.1)
completes (Open mode.Assign ∷ ss) types f i g = on_open types i mode.Assign f ss g.0 (completes ss types f i g.1)
completes (Open mode.Cond ∷ ss) types f i g = on_open types i mode.Cond f ss g.0 (completes ss types f i g.1)
completes (Open mode.Cast ∷ ss) types f i g = on_open types i mode.Cast f ss g.0 (completes ss types f i g.1)
completes (Open mode.Unary ∷ ss) types f i g = on_open types i mode.Unary f ss g.0 (completes ss types f i g.1)
completes (Texts ∷ ss) types f i g = on_to types i f (Texts ∷ ss) ss (completion i (Texts ∷ ss)) (completion i ss) (pass_texts types i f ss (completion i ss) (not_name_closes (completion i ss) g.0)) (completes ss types f i g.1)
completes (Suffixes ∷ ss) types f i g = on_to types i f (Suffixes ∷ ss) ss (completion i (Suffixes ∷ ss)) (completion i ss) (pass_suffix types i f ss (completion i ss) g.0) (completes ss types f i g.1)
completes (Commas ∷ ss) types f i g = on_to types i f (Commas ∷ ss) ss (completion i (Commas ∷ ss)) (completion i ss) (pass_commas types i f ss (completion i ss) g.0) (completes ss types f i g.1)
completes (Optional ∷ ss) types f i g = on_to types i f (Optional ∷ ss) ss (completion i (Optional ∷ ss)) (completion i ss) (pass_optional types i f ss (completion i ss) g.0) (completes ss types f i g.1)
completes (Consts ∷ ss) types f i g = on_to types i f (Consts ∷ ss) ss (completion i (Consts ∷ ss)) (completion i ss) (pass_consts types i f ss (completion i ss) g.0) (completes ss types f i g.1)
completes (ConstantValue ∷ ss) types f i g = on_to types i f (ConstantValue ∷ ss) ss (completion i (ConstantValue ∷ ss)) (completion i ss) (no_value types i f ss (completion i ss) (closes_are_ends (completion i ss) g.0)) (completes ss types f i g.1)
completes (Brackets ∷ ss) types f i g = on_to types i f (Brackets ∷ ss) ss (completion i (Brackets ∷ ss)) (completion i ss) (pass_brackets types i f ss (completion i ss) g.0) (completes ss types f i g.1)
completes (Counts ∷ ss) types f i g = on_to types i f (Counts ∷ ss) ss (completion i (Counts ∷ ss)) (completion i ss) (pass_counts types i f ss (completion i ss) g.0) (completes ss types f i g.1)
completes (Body ∷ ss) types f i g = on_to types i f (Body ∷ ss) ss (completion i (Body ∷ ss)) (completion i ss) (pass_body types i f ss (completion i ss) g.0) (completes ss types f i g.1)
completes (Statements ∷ ss) types f i g = on_to types i f (Statements ∷ ss) ss (completion i (Statements ∷ ss)) (completion i ss) (pass_statements types i f ss (completion i ss) g.0) (completes ss types f i g.1)
completes (Else ∷ ss) types f i g = on_to types i f (Else ∷ ss) ss (completion i (Else ∷ ss)) (completion i ss) (pass_else types i f ss (completion i ss) g.0) (completes ss types f i g.1)
completes (Cases ∷ ss) types f i g = on_to types i f (Cases ∷ ss) ss (completion i (Cases ∷ ss)) (completion i ss) (pass_cases types i f ss (completion i ss) g.0) (completes ss types f i g.1)
completes (Behind u ∷ ss) types f i g = on_to types i f (Behind u ∷ ss) ss (completion i (Behind u ∷ ss)) (completion i ss) (pass_any types i u f ss (completion i ss) g.0) (completes ss types f i g.1)
completes (Kind s ∷ ss) types f i g = on_to types i f (Kind s ∷ ss) ss (completion i (Kind s ∷ ss)) (completion i ss) (pass_kind types i s f ss (completion i ss) g.0) (completes ss types f i g.1)
completes (TagBody s ∷ ss) types f i g = on_to types i f (TagBody s ∷ ss) ss (completion i (TagBody s ∷ ss)) (completion i ss) (pass_tag types i s f ss (completion i ss) g.0) (completes ss types f i g.1)
completes (Tag s ∷ ss) types f i g = on_to types i f (Tag s ∷ ss) ss (completion i (Tag s ∷ ss)) (completion i ss) (pass_tag types i s f ss (completion i ss) g.0) (completes ss types f i g.1)
completes (Base ∷ ss) types f i g = on_to types i f (Base ∷ ss) ss (completion i (Base ∷ ss)) (completion i ss) (pass_kind types i _ f ss (completion i ss) g.0) (completes ss types f i g.1)
completes (Declarator naming.Typedef ∷ ss) types f i g = on_typedef types i f ss (Declarator naming.Typedef) g.0 refl (completes ss types [] i g.1)
completes (Pointer naming.Typedef ∷ ss) types f i g = on_typedef types i f ss (Pointer naming.Typedef) g.0 refl (completes ss types [] i g.1)
completes (Declarator naming.Must ∷ ss) types f i g = on_to types i f (Declarator naming.Must ∷ ss) ss (completion i (Declarator naming.Must ∷ ss)) (completion i ss) (pass_brackets types i f ss (completion i ss) g.0) (completes ss types f i g.1)
completes (Pointer naming.Must ∷ ss) types f i g = on_to types i f (Pointer naming.Must ∷ ss) ss (completion i (Pointer naming.Must ∷ ss)) (completion i ss) (pass_brackets types i f ss (completion i ss) g.0) (completes ss types f i g.1)
completes (Declarator naming.May ∷ ss) types f i g = on_to types i f (Declarator naming.May ∷ ss) ss (completion i (Declarator naming.May ∷ ss)) (completion i ss) (pass_declarator types i naming.May f ss (completion i ss) refl g.0) (completes ss types f i g.1)
completes (Pointer naming.May ∷ ss) types f i g = on_to types i f (Pointer naming.May ∷ ss) ss (completion i (Pointer naming.May ∷ ss)) (completion i ss) (after_star types i naming.May f ss (completion i ss) (leaves_no_const types i (completion i ss) g.0) ∙ pass_declarator types i naming.May f ss (completion i ss) refl g.0) (completes ss types f i g.1)
completes (Declarator naming.Abstract ∷ ss) types f i g = on_to types i f (Declarator naming.Abstract ∷ ss) ss (completion i (Declarator naming.Abstract ∷ ss)) (completion i ss) (pass_declarator types i naming.Abstract f ss (completion i ss) refl g.0) (completes ss types f i g.1)
completes (Pointer naming.Abstract ∷ ss) types f i g = on_to types i f (Pointer naming.Abstract ∷ ss) ss (completion i (Pointer naming.Abstract ∷ ss)) (completion i ss) (after_star types i naming.Abstract f ss (completion i ss) (leaves_no_const types i (completion i ss) g.0) ∙ pass_declarator types i naming.Abstract f ss (completion i ss) refl g.0) (completes ss types f i g.1)
completes (Initial ∷ ss) types f i g = on_to types i f (Initial ∷ ss) ss (completion i (Initial ∷ ss)) (completion i ss) (after_operand types i mode.Assign f ss (completion i ss) g.0) (completes ss types f i g.1)
completes (Nameless ∷ ss) types f i g = on_to types i f (Nameless ∷ ss) ss (completion i (Nameless ∷ ss)) (completion i ss) (pass_brackets types i f ss (completion i ss) g.0) (completes ss types f i g.1)
completes (Fields ∷ ss) types f i g = on_to types i f (Fields ∷ ss) ss (completion i (Fields ∷ ss)) (completion i ss) (refl) (completes ss types f i g)
completes (MoreDeclarators ∷ ss) types f i g = on_to types i f (MoreDeclarators ∷ ss) ss (completion i (MoreDeclarators ∷ ss)) (completion i ss) (refl) (completes ss types f i g)
completes (Constants ∷ ss) types f i g = on_to types i f (Constants ∷ ss) ss (completion i (Constants ∷ ss)) (completion i ss) (refl) (completes ss types f i g)
completes (Count ∷ ss) types f i g = on_to types i f (Count ∷ ss) ss (completion i (Count ∷ ss)) (completion i ss) (refl) (completes ss types f i g)
completes (Parameters ∷ ss) types f i g = on_to types i f (Parameters ∷ ss) ss (completion i (Parameters ∷ ss)) (completion i ss) (refl) (completes ss types f i g)
completes (Void ∷ ss) types f i g = on_to types i f (Void ∷ ss) ss (completion i (Void ∷ ss)) (completion i ss) (refl) (completes ss types f i g)
completes (MoreParameters ∷ ss) types f i g = on_to types i f (MoreParameters ∷ ss) ss (completion i (MoreParameters ∷ ss)) (completion i ss) (refl) (completes ss types f i g)
completes (Entries ∷ ss) types f i g = on_to types i f (Entries ∷ ss) ss (completion i (Entries ∷ ss)) (completion i ss) (refl) (completes ss types f i g)
completes (Entry ∷ ss) types f i g = on_to types i f (Entry ∷ ss) ss (completion i (Entry ∷ ss)) (completion i ss) (refl) (completes ss types f i g)
completes (MoreEntries ∷ ss) types f i g = on_to types i f (MoreEntries ∷ ss) ss (completion i (MoreEntries ∷ ss)) (completion i ss) (refl) (completes ss types f i g)
completes (MoreInitials ∷ ss) types f i g = on_to types i f (MoreInitials ∷ ss) ss (completion i (MoreInitials ∷ ss)) (completion i ss) (refl) (completes ss types f i g)
completes (NextInitial ∷ ss) types f i g = on_to types i f (NextInitial ∷ ss) ss (completion i (NextInitial ∷ ss)) (completion i ss) (refl) (completes ss types f i g)
completes (EndTypedef ∷ ss) types f i g = complete (at types i f (EndTypedef ∷ ss)) (at (f ∷ types) i f ss) (completion i (EndTypedef ∷ ss)) (completion i ss) refl (completes ss (f ∷ types) f i g)
completes (Statement ∷ ss) types f i g = on_to types i f (Statement ∷ ss) ss (completion i (Statement ∷ ss)) (completion i ss) (statement_end types i f ss (completion i ss)) (completes ss types f i g.1)
completes (FileEntries ∷ ss) types f i g = on_to types i f (FileEntries ∷ ss) ss (completion i (FileEntries ∷ ss)) (completion i ss) (refl) (completes ss types f i (last_good i ss g))
completes (FirstEntry ∷ ss) types f i g = on_to types i f (FirstEntry ∷ ss) ss (completion i (FirstEntry ∷ ss)) (completion i ss) (refl) (completes ss types f i (last_good i ss g))
