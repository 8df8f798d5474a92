-- The walk takes the pieces of declarations, statements and units.
use Rattle.std.proofs.Common.{◌≡◌, ℕ, suc, inl, inr, Bool, true, false, if◌then◌else◌, List, [], ◌∷◌, Option, Some, None, refl, sym, ap, ◌∙◌}
use Rattle.porch_tree.specs.declared.word.Keyword.{Keyword}
use Rattle.porch_tree.specs.declared.word.Keyword.TheVariants as key
use Rattle.porch_tree.specs.declared.word.Mark.{Mark}
use Rattle.porch_tree.specs.declared.word.Mark.TheVariants as mark
use Rattle.porch_tree.specs.declared.word.Word.{Word}
use Rattle.porch_tree.specs.declared.word.Word.TheVariants as word
use Rattle.porch_tree.specs.Mirror.{Expr, Perhaps, absent, present, Base, Declarator, Initial, value, braced, Initials, no_initials, with_initial, Entry, Declaration, Stmt, block, evaluate, choose, choose_else, while_loop, do_loop, for_loop, switch, break, continue, give, Stmts, no_stmts, with_stmt, case, default, stmt, SwitchEntries, no_entries, with_entry, typedef, declaration, function, TranslationUnit}
use Rattle.porch_tree.specs.Pieces.{Piece, mark as mark_piece, key as key_piece, expr_pieces, whole_pieces, optional_pieces, comma_pieces, initial_pieces, more_initials_pieces, begun_pieces, more_entries_pieces, entries_pieces, declarator_pieces, base_pieces, static_pieces, declaration_pieces, declarations_pieces, stmt_pieces, stmts_pieces, switch_pieces, unit_pieces}
use Rattle.porch_tree.specs.Formed.{IsExpr, IsOptional, IsInitial, AreInitials, IsStart, AreEntries, IsDeclaration, AreDeclarations, IsBase, IsDeclarator, IsClosed, IsStmt, AreStmts, AreSwitchEntries, AreItems}
use Rattle.porch_tree.specs.Names.{first_name, IsPlain, BeginsPlain, ReadsExpr, ReadsPerhaps, ReadsInitial, ReadsInitials, ReadsStart, ReadsEntries, ReadsDeclaration, ReadsDeclarations, ReadsBase, ReadsStmt, ReadsStmts, ReadsEntriesOf, ReadsNames, name_in}
use Rattle.porch_walk.specs.declared.symbol.Mode.TheVariants as mode
use Rattle.porch_walk.specs.declared.symbol.Naming.TheVariants as naming
use Rattle.porch_walk.specs.declared.symbol.Symbol.{Symbol}
use Rattle.porch_walk.specs.declared.symbol.Symbol.TheVariants.{Must, Operand, Commas, Optional, Base as Base_to_come, Declarator as Declarator_to_come, Entries, Entry as Entry_to_come, MoreEntries, Initial as Initial_to_come, MoreInitials, NextInitial, Consts, FileEntries, FirstEntry, EndTypedef, Body, Statements, Statement, Else, Cases}
use Rattle.porch_walk.specs.Walk.{Stage, is_over, is_key, heard, name_bytes, names_type, goes, base_key, base_of, condition, declaration as declaration_stage, statement_key, statement_word, statement}
use Rattle.porch_walk.proofs.Expressions.{never}
use Rattle.porch_walk.proofs.Passes.{over, Heads, closes, ends, leaves, behind_base, starts, begins, begins_mark, begins_key, begins_base, skips, passes, differs, at, expr_first, bytes_at, not_known}
use Rattle.porch_walk.proofs.Accepts.{on, StartOf, expr_runs, base_run, declarator_run, optional_first, base_first, assigned, conditioned, declared_behind, must_tokens, some_first, base_there, declarator_first, pass_optional}

-- where a statement begins
abbrev pub begins_stmt_key : Keyword → Bool
begins_stmt_key key.If = true
begins_stmt_key key.While = true
begins_stmt_key key.Do = true
begins_stmt_key key.For = true
begins_stmt_key key.Switch = true
begins_stmt_key key.Break = true
begins_stmt_key key.Continue = true
begins_stmt_key key.Return = true
begins_stmt_key key.Sizeof = true
begins_stmt_key k = false

abbrev pub begins_stmt_mark : Mark → Bool
begins_stmt_mark mark.OpenBrace = true
begins_stmt_mark mark.Semicolon = true
begins_stmt_mark mark.OpenParenthesis = true
begins_stmt_mark mark.PlusPlus = true
begins_stmt_mark mark.MinusMinus = true
begins_stmt_mark mark.And = true
begins_stmt_mark mark.Star = true
begins_stmt_mark mark.Plus = true
begins_stmt_mark mark.Minus = true
begins_stmt_mark mark.Tilde = true
begins_stmt_mark mark.Not = true
begins_stmt_mark m = false

abbrev pub begins_stmt : Word → Bool
begins_stmt word.Name = true
begins_stmt word.Whole = true
begins_stmt word.Character = true
begins_stmt word.Text = true
begins_stmt (word.Key k) = begins_stmt_key k
begins_stmt (word.Mark m) = begins_stmt_mark m

also_stmt_key : (k : Keyword) → begins_key k ≡ true → begins_stmt_key k ≡ true
also_stmt_key key.Sizeof h = refl
also_stmt_key k h = absurd (never (sym h))

also_stmt_mark : (m : Mark) → begins_mark m ≡ true → begins_stmt_mark m ≡ true
also_stmt_mark mark.OpenParenthesis h = refl
also_stmt_mark mark.PlusPlus h = refl
also_stmt_mark mark.MinusMinus h = refl
also_stmt_mark mark.And h = refl
also_stmt_mark mark.Star h = refl
also_stmt_mark mark.Plus h = refl
also_stmt_mark mark.Minus h = refl
also_stmt_mark mark.Tilde h = refl
also_stmt_mark mark.Not h = refl
also_stmt_mark m h = absurd (never (sym h))

also_stmt : (w : Word) → begins w ≡ true → begins_stmt w ≡ true
also_stmt word.Name h = refl
also_stmt word.Whole h = refl
also_stmt word.Character h = refl
also_stmt word.Text h = refl
also_stmt (word.Key k) h = also_stmt_key k h
also_stmt (word.Mark m) h = also_stmt_mark m h

abbrev pub first_of : Stmt → Option (List ℕ)
first_of (evaluate (present e)) = first_name e
first_of s = None

-- the first piece of a statement
pub record StmtFirst (o : Option (List ℕ)) (p : Piece) : Type 0 where
  pub begins : begins_stmt p.word ≡ true
  pub plain : p.word ≡ word.Name → o ≡ Some p.bytes

pub stmt_first : (types : List (List ℕ)) (P : List Piece → Type 0) (s : Stmt) → ((p : Piece) (ps : List Piece) → StmtFirst (first_of s) p → P (p ∷ ps)) → (d : ℕ) (ps : List Piece) → P (stmt_pieces s d ps)
stmt_first types P (evaluate (present e)) f d ps = expr_first types true P e (λ p qs k. f p qs (record { begins = also_stmt p.word k.begins; plain = k.plain })) (suc (suc d)) _
stmt_first types P (evaluate absent) f d ps = f _ _ (record { begins = refl; plain = λ h. cc })
stmt_first types P (block k ds ss) f d ps = f _ _ (record { begins = refl; plain = λ h. cc })
stmt_first types P (choose k e s) f d ps = f _ _ (record { begins = refl; plain = λ h. cc })
stmt_first types P (choose_else k e s t) f d ps = f _ _ (record { begins = refl; plain = λ h. cc })
stmt_first types P (while_loop k e s) f d ps = f _ _ (record { begins = refl; plain = λ h. cc })
stmt_first types P (do_loop k s e) f d ps = f _ _ (record { begins = refl; plain = λ h. cc })
stmt_first types P (for_loop k a b c s) f d ps = f _ _ (record { begins = refl; plain = λ h. cc })
stmt_first types P (switch k e xs) f d ps = f _ _ (record { begins = refl; plain = λ h. cc })
stmt_first types P (break k) f d ps = f _ _ (record { begins = refl; plain = λ h. cc })
stmt_first types P (continue k) f d ps = f _ _ (record { begins = refl; plain = λ h. cc })
stmt_first types P (give k e) f d ps = f _ _ (record { begins = refl; plain = λ h. cc })

pub plain_first_of : (types : List (List ℕ)) (s : Stmt) (ss : Stmts) → BeginsPlain types (with_stmt s ss) → IsPlain types (first_of s)
plain_first_of types (evaluate (present e)) ss h = h
plain_first_of types (evaluate absent) ss h = tt
plain_first_of types (block k ds xs) ss h = tt
plain_first_of types s ss h = tt

-- what is pending behind a statement: an Else for each choice without its other branch at the end
abbrev pub elses : Stmt → List Symbol → List Symbol
elses (choose k e s) ss = elses s (Else ∷ ss)
elses (choose_else k e s t) ss = elses t ss
elses (while_loop k e s) ss = elses s ss
elses (for_loop k a b c s) ss = elses s ss
elses s ss = ss

pub closed_elses : (s : Stmt) → IsClosed s → (ss : List Symbol) → elses s ss ≡ ss
closed_elses (choose k e s) c ss = absurd c
closed_elses (choose_else k e s t) c ss = closed_elses t c ss
closed_elses (while_loop k e s) c ss = closed_elses s c ss
closed_elses (for_loop k a b d s) c ss = closed_elses s c ss
closed_elses (block k ds xs) c ss = refl
closed_elses s c ss = refl

abbrev pub no_else : Word → Bool
no_else w = if is_key key.Else w then false else true

pub flipped : (b : Bool) → (if b then false else true) ≡ true → b ≡ false
flipped true h = sym h
flipped false h = refl

pub if_none : (b : Bool) (x y : Option Stage) → b ≡ false → (if b then x else y) ≡ None → y ≡ None
if_none true x y h e = absurd (never h)
if_none false x y h e = e

module _ (types : List (List ℕ)) where
  module _ (i : Bool) where
    not_brace : (e : Expr) (f : List ℕ) (ss : List Symbol) (d : ℕ) (ps : List Piece) → on types i f (Initial_to_come ∷ ss) (expr_pieces i e d ps) ≡ on types i f (Operand mode.Assign ∷ ss) (expr_pieces i e d ps)
    not_brace e f ss d ps =
        expr_first types i (λ q. on types i f (Initial_to_come ∷ ss) q ≡ on types i f (Operand mode.Assign ∷ ss) q) e
        (λ p qs k. skips _ _ (λ n. over n qs) (differs begins p.word (word.Mark mark.OpenBrace) k.begins refl)) d ps

    next_value : (e : Expr) (f : List ℕ) (ss : List Symbol) (d : ℕ) (ps : List Piece) → on types i f (NextInitial ∷ ss) (expr_pieces i e d ps) ≡ on types i f (Initial_to_come ∷ MoreInitials ∷ ss) (expr_pieces i e d ps)
    next_value e f ss d ps =
        expr_first types i (λ q. on types i f (NextInitial ∷ ss) q ≡ on types i f (Initial_to_come ∷ MoreInitials ∷ ss) q) e
        (λ p qs k. skips _ _ (λ n. over n qs) (differs begins p.word (word.Mark mark.CloseBrace) k.begins refl)) d ps

    next_first : (x : Initial) (f : List ℕ) (ss : List Symbol) (d : ℕ) (ps : List Piece) → on types i f (NextInitial ∷ ss) (initial_pieces i x d ps) ≡ on types i f (Initial_to_come ∷ MoreInitials ∷ ss) (initial_pieces i x d ps)
    next_first (value e) f ss d ps = next_value e f ss (suc d) ps
    next_first (braced k xs c) f ss d ps = refl

    pub initials_end : (xs : Initials) (c : Bool) (d : ℕ) (ps : List Piece) → Heads ends (more_initials_pieces i xs d (comma_pieces i c d (mark_piece i mark.CloseBrace d ∷ ps)))
    initials_end no_initials true d ps = refl
    initials_end no_initials false d ps = refl
    initials_end (with_initial x xs) c d ps = refl

    mutual
      initial_run : (x : Initial) → IsInitial x → ReadsInitial types x → (f : List ℕ) (ss : List Symbol) (d : ℕ) (ps : List Piece) → Heads ends ps → on types i f (Initial_to_come ∷ ss) (initial_pieces i x d ps) ≡ on types i f ss ps
      initial_run (value e) g r f ss d ps h = not_brace e f ss (suc d) ps ∙ assigned types i e (expr_runs types i e g.1) g.0 r f ss (suc d) ps h
      initial_run (braced k no_initials c) g r f ss d ps h = absurd (g.0 refl)
      initial_run (braced k (with_initial x xs) c) g r f ss d ps h =
          initial_run x g.1.0 r.0 f (MoreInitials ∷ ss) (suc d) _ (initials_end xs c (suc d) ps) ∙ initials_run xs c g.1.1 r.1 f ss (suc d) ps

      initials_run : (xs : Initials) (c : Bool) → AreInitials xs → ReadsInitials types xs → (f : List ℕ) (ss : List Symbol) (d : ℕ) (ps : List Piece)
          → on types i f (MoreInitials ∷ ss) (more_initials_pieces i xs d (comma_pieces i c d (mark_piece i mark.CloseBrace d ∷ ps))) ≡ on types i f ss ps
      initials_run no_initials true g r f ss d ps = refl
      initials_run no_initials false g r f ss d ps = refl
      initials_run (with_initial x xs) c g r f ss d ps = next_first x f ss d _ ∙ initial_run x g.0 r.0 f (MoreInitials ∷ ss) d _ (initials_end xs c d ps) ∙ initials_run xs c g.1 r.1 f ss d ps

    pub entries_end : (es : List Entry) (d : ℕ) (ps : List Piece) → Heads ends (more_entries_pieces i es d (mark_piece i mark.Semicolon d ∷ ps))
    entries_end [] d ps = refl
    entries_end (e ∷ es) d ps = refl

    pub begun_leaves : (s : Option Initial) (es : List Entry) (d : ℕ) (ps : List Piece) → Heads leaves (begun_pieces i s d (more_entries_pieces i es d (mark_piece i mark.Semicolon d ∷ ps)))
    begun_leaves None [] d ps = refl
    begun_leaves None (e ∷ es) d ps = refl
    begun_leaves (Some x) es d ps = refl

    no_start : (es : List Entry) (f : List ℕ) (ss : List Symbol) (d : ℕ) (ps : List Piece)
        → on types i f (Entry_to_come ∷ ss) (more_entries_pieces i es d (mark_piece i mark.Semicolon d ∷ ps)) ≡ on types i f (MoreEntries ∷ ss) (more_entries_pieces i es d (mark_piece i mark.Semicolon d ∷ ps))
    no_start [] f ss d ps = refl
    no_start (e ∷ es) f ss d ps = refl

    pub begun_run : (s : Option Initial) (es : List Entry) → IsStart s → ReadsStart types s → (f : List ℕ) (ss : List Symbol) (d : ℕ) (ps : List Piece)
        → on types i f (MoreEntries ∷ ss) (more_entries_pieces i es d (mark_piece i mark.Semicolon d ∷ ps)) ≡ on types i f ss ps
        → on types i f (Entry_to_come ∷ ss) (begun_pieces i s d (more_entries_pieces i es d (mark_piece i mark.Semicolon d ∷ ps))) ≡ on types i f ss ps
    begun_run None es g r f ss d ps m = no_start es f ss d ps ∙ m
    begun_run (Some x) es g r f ss d ps m = initial_run x g r f (MoreEntries ∷ ss) d _ (entries_end es d ps) ∙ m

    pub more_entries_run : (es : List Entry) → AreEntries es → ReadsEntries types es → (f : List ℕ) (ss : List Symbol) (d : ℕ) (ps : List Piece)
        → on types i f (MoreEntries ∷ ss) (more_entries_pieces i es d (mark_piece i mark.Semicolon d ∷ ps)) ≡ on types i f ss ps
    more_entries_run [] g r f ss d ps = refl
    more_entries_run (e ∷ es) g r f ss d ps =
        declarator_run types i naming.Must e.declarator g.0 r.0 f (Entry_to_come ∷ ss) (suc d) _ (begun_leaves e.initial es d ps)
        ∙ begun_run e.initial es g.1 r.1 f ss d ps (more_entries_run es g.2 r.2 f ss d ps)

    -- an entry begins with a declarator, which isn't the semicolon
    entry_first : (next : Symbol) (list : Symbol) (x : Declarator) → IsDeclarator true x → (f : List ℕ) (ss : List Symbol) (d : ℕ) (ps : List Piece)
        → ((p : Piece) (qs : List Piece) → starts p.word ≡ true → on types i f (list ∷ ss) (p ∷ qs) ≡ on types i f (Declarator_to_come naming.Must ∷ next ∷ ss) (p ∷ qs))
        → on types i f (list ∷ ss) (declarator_pieces i x d ps) ≡ on types i f (Declarator_to_come naming.Must ∷ next ∷ ss) (declarator_pieces i x d ps)
    entry_first next list x g f ss d ps k =
        declarator_first types i (λ q. on types i f (list ∷ ss) q ≡ on types i f (Declarator_to_come naming.Must ∷ next ∷ ss) q) x k d ps (inl (must_tokens types i x g))

    entries_run : (es : List Entry) → AreEntries es → ReadsEntries types es → (f : List ℕ) (ss : List Symbol) (d : ℕ) (ps : List Piece)
        → on types i f (Entries ∷ ss) (entries_pieces i es d (mark_piece i mark.Semicolon d ∷ ps)) ≡ on types i f ss ps
    entries_run [] g r f ss d ps = refl
    entries_run (e ∷ es) g r f ss d ps =
        entry_first Entry_to_come Entries e.declarator g.0 f ss (suc d) _ (λ p qs h. skips _ _ (λ n. over n qs) (differs starts p.word (word.Mark mark.Semicolon) h refl))
        ∙ declarator_run types i naming.Must e.declarator g.0 r.0 f (Entry_to_come ∷ ss) (suc d) _ (begun_leaves e.initial es d ps)
        ∙ begun_run e.initial es g.1 r.1 f ss d ps (more_entries_run es g.2 r.2 f ss d ps)

    pub entries_behind : (es : List Entry) → AreEntries es → (d : ℕ) (ps : List Piece) → Heads behind_base (entries_pieces i es d (mark_piece i mark.Semicolon d ∷ ps))
    entries_behind [] g d ps = refl
    entries_behind (e ∷ es) g d ps = declared_behind types i e.declarator (suc d) _ (inl (must_tokens types i e.declarator g.0))

  abbrev in_block : List ℕ → List Symbol → List Piece → Option Stage
  in_block f ss ps = on types true f ss ps

  -- declarations in a block

  pub not_static : (p : Piece) → StartOf types true p → is_key key.Static p.word ≡ false
  not_static p k = differs begins_base p.word (word.Key key.Static) k.begins refl

  declared_first : (b : Base) → IsBase b → ReadsBase types b → (f : List ℕ) (ss : List Symbol) (d : ℕ) (ps : List Piece)
      → in_block f (Body ∷ ss) (base_pieces true b d ps) ≡ in_block f (Base_to_come ∷ Entries ∷ Body ∷ ss) (base_pieces true b d ps)
  declared_first b g r f ss d ps =
      base_first types true (λ q. in_block f (Body ∷ ss) q ≡ in_block f (Base_to_come ∷ Entries ∷ Body ∷ ss) q)
      (λ p qs k. some_first types true (declaration_stage types f true (Body ∷ ss) (heard p.word p.bytes)) _ (λ n. over n qs)
      (λ e. base_there types true f (Entries ∷ Body ∷ ss) p k (if_none (is_key key.Static p.word) _ _ (not_static p k) e))
      ∙ skips _ _ (λ n. over n qs) (not_static p k)) b g r d ps

  declared_run : (k : Option ℕ) (b : Base) → IsBase b → ReadsBase types b → (f : List ℕ) (ss : List Symbol) (d : ℕ) (ps : List Piece)
      → in_block f (Body ∷ ss) (static_pieces true k d (base_pieces true b d ps)) ≡ in_block f (Base_to_come ∷ Entries ∷ Body ∷ ss) (base_pieces true b d ps)
  declared_run None b g r f ss d ps = declared_first b g r f ss d ps
  declared_run (Some k) b g r f ss d ps = refl

  declaration_run : (x : Declaration) → IsDeclaration x → ReadsDeclaration types x → (f : List ℕ) (ss : List Symbol) (d : ℕ) (ps : List Piece) → in_block f (Body ∷ ss) (declaration_pieces true x d ps) ≡ in_block f (Body ∷ ss) ps
  declaration_run x g r f ss d ps =
      declared_run x.fixed x.base g.0 r.0 f ss d _ ∙ base_run types true x.base g.0 r.0 f (Entries ∷ Body ∷ ss) d _ (entries_behind true x.entries g.1 d ps) ∙ entries_run true x.entries g.1 r.1 f (Body ∷ ss) d ps

  -- statements

  optional_run : (e : Perhaps) → IsOptional e → ReadsPerhaps types e → (f : List ℕ) (ss : List Symbol) (d : ℕ) (p : Piece) (ps : List Piece) → closes p.word ≡ true → in_block f (Optional ∷ ss) (optional_pieces true e d (p ∷ ps)) ≡ in_block f ss (p ∷ ps)
  optional_run absent g r f ss d p ps h = pass_optional types true f ss (p ∷ ps) h
  optional_run (present e) g r f ss d p ps h = let q = expr_runs types true e g in optional_first types true e f ss (suc d) _ ∙ q.any r f ss (suc d) _ h

  condition_run : (e : Expr) → IsExpr e → ReadsExpr types e true → (f : List ℕ) (ss : List Symbol) (d : ℕ) (ps : List Piece)
      → in_block f (condition ss) (mark_piece true mark.OpenParenthesis d ∷ whole_pieces true e d (mark_piece true mark.CloseParenthesis d ∷ ps)) ≡ in_block f ss ps
  condition_run e g r f ss d ps = let q = expr_runs types true e g in q.any r f (Must (word.Mark mark.CloseParenthesis) ∷ ss) (suc d) _ refl

  no_word_mark : (f : List ℕ) (ss : List Symbol) (m : Mark) → begins_mark m ≡ true → statement_word types f true ss (word.Mark m) ≡ None
  no_word_mark f ss mark.OpenParenthesis h = refl
  no_word_mark f ss mark.PlusPlus h = refl
  no_word_mark f ss mark.MinusMinus h = refl
  no_word_mark f ss mark.And h = refl
  no_word_mark f ss mark.Star h = refl
  no_word_mark f ss mark.Plus h = refl
  no_word_mark f ss mark.Minus h = refl
  no_word_mark f ss mark.Tilde h = refl
  no_word_mark f ss mark.Not h = refl
  no_word_mark f ss m h = absurd (never (sym h))

  no_word_key : (f : List ℕ) (ss : List Symbol) (k : Keyword) → begins_key k ≡ true → statement_key types f true ss k ≡ None
  no_word_key f ss key.Sizeof h = refl
  no_word_key f ss k h = absurd (never (sym h))

  pub no_word : (f : List ℕ) (ss : List Symbol) (w : Word) → begins w ≡ true → statement_word types f true ss w ≡ None
  no_word f ss word.Name h = refl
  no_word f ss word.Whole h = refl
  no_word f ss word.Character h = refl
  no_word f ss word.Text h = refl
  no_word f ss (word.Key k) h = no_word_key f ss k h
  no_word f ss (word.Mark m) h = no_word_mark f ss m h

  evaluate_first : (e : Expr) (f : List ℕ) (ss : List Symbol) (d : ℕ) (ps : List Piece)
      → in_block f (Statement ∷ ss) (expr_pieces true e d ps) ≡ in_block f (Operand mode.Assign ∷ Commas ∷ Must (word.Mark mark.Semicolon) ∷ ss) (expr_pieces true e d ps)
  evaluate_first e f ss d ps =
      expr_first types true (λ q. in_block f (Statement ∷ ss) q ≡ in_block f (Operand mode.Assign ∷ Commas ∷ Must (word.Mark mark.Semicolon) ∷ ss) q) e
      (λ p qs k. passes _ _ (λ n. over n qs) (no_word f ss p.word k.begins)) d ps

  elses_run : (s : Stmt) (f : List ℕ) (ss : List Symbol) (p : Piece) (ps : List Piece) → is_key key.Else p.word ≡ false → in_block f (elses s ss) (p ∷ ps) ≡ in_block f ss (p ∷ ps)
  elses_run (choose k e s) f ss p ps h = elses_run s f (Else ∷ ss) p ps h ∙ skips _ _ (λ n. over n ps) h
  elses_run (choose_else k e s t) f ss p ps h = elses_run t f ss p ps h
  elses_run (while_loop k e s) f ss p ps h = elses_run s f ss p ps h
  elses_run (for_loop k a b c s) f ss p ps h = elses_run s f ss p ps h
  elses_run (block k ds xs) f ss p ps h = refl
  elses_run s f ss p ps h = refl

  elses_over : (s : Stmt) (f : List ℕ) (ss : List Symbol) (ps : List Piece) → Heads no_else ps → in_block f (elses s ss) ps ≡ in_block f ss ps
  elses_over s f ss [] h = absurd h
  elses_over s f ss (p ∷ ps) h = elses_run s f ss p ps (flipped (is_key key.Else p.word) h)

  statement_mark_there : (f : List ℕ) (ss : List Symbol) (m : Mark) → begins_stmt_mark m ≡ true → statement types f true ss (word.Mark m) ≡ None → ⊥
  statement_mark_there f ss mark.OpenBrace h e = cc
  statement_mark_there f ss mark.Semicolon h e = cc
  statement_mark_there f ss mark.OpenParenthesis h e = cc
  statement_mark_there f ss mark.PlusPlus h e = cc
  statement_mark_there f ss mark.MinusMinus h e = cc
  statement_mark_there f ss mark.And h e = cc
  statement_mark_there f ss mark.Star h e = cc
  statement_mark_there f ss mark.Plus h e = cc
  statement_mark_there f ss mark.Minus h e = cc
  statement_mark_there f ss mark.Tilde h e = cc
  statement_mark_there f ss mark.Not h e = cc
  statement_mark_there f ss m h e = never (sym h)

  statement_key_there : (f : List ℕ) (ss : List Symbol) (k : Keyword) → begins_stmt_key k ≡ true → statement types f true ss (word.Key k) ≡ None → ⊥
  statement_key_there f ss key.If h e = cc
  statement_key_there f ss key.While h e = cc
  statement_key_there f ss key.Do h e = cc
  statement_key_there f ss key.For h e = cc
  statement_key_there f ss key.Switch h e = cc
  statement_key_there f ss key.Break h e = cc
  statement_key_there f ss key.Continue h e = cc
  statement_key_there f ss key.Return h e = cc
  statement_key_there f ss key.Sizeof h e = cc
  statement_key_there f ss k h e = never (sym h)

  pub statement_there : (f : List ℕ) (ss : List Symbol) (w : Word) → begins_stmt w ≡ true → statement types f true ss w ≡ None → ⊥
  statement_there f ss word.Name h e = cc
  statement_there f ss word.Whole h e = cc
  statement_there f ss word.Character h e = cc
  statement_there f ss word.Text h e = cc
  statement_there f ss (word.Key k) h e = statement_key_there f ss k h e
  statement_there f ss (word.Mark m) h e = statement_mark_there f ss m h e

  stmts_first : (s : Stmt) (f : List ℕ) (ss : List Symbol) (d : ℕ) (ps : List Piece) → in_block f (Statements ∷ ss) (stmt_pieces s d ps) ≡ in_block f (Statement ∷ Statements ∷ ss) (stmt_pieces s d ps)
  stmts_first s f ss d ps =
      stmt_first types (λ q. in_block f (Statements ∷ ss) q ≡ in_block f (Statement ∷ Statements ∷ ss) q) s
      (λ p qs k. some_first types true _ _ (λ n. over n qs) (statement_there f (Statements ∷ ss) p.word k.begins)) d ps

  cases_first : (s : Stmt) (f : List ℕ) (ss : List Symbol) (d : ℕ) (ps : List Piece) → in_block f (Cases ∷ ss) (stmt_pieces s d ps) ≡ in_block f (Statement ∷ Cases ∷ ss) (stmt_pieces s d ps)
  cases_first s f ss d ps =
      stmt_first types (λ q. in_block f (Cases ∷ ss) q ≡ in_block f (Statement ∷ Cases ∷ ss) q) s
      (λ p qs k. skips _ _ (λ n. over n qs) (differs begins_stmt p.word (word.Key key.Case) k.begins refl) ∙ skips _ _ (λ n. over n qs) (differs begins_stmt p.word (word.Key key.Default) k.begins refl)
      ∙ some_first types true _ _ (λ n. over n qs) (statement_there f (Cases ∷ ss) p.word k.begins)) d ps

  -- what comes behind a statement in a block isn't an `else`
  next_run : (s : Stmt) (f : List ℕ) (ss : List Symbol) (xs : Stmts) (d : ℕ) (ps : List Piece) → in_block f (elses s ss) (stmts_pieces xs d (mark_piece true mark.CloseBrace d ∷ ps)) ≡ in_block f ss (stmts_pieces xs d (mark_piece true mark.CloseBrace d ∷ ps))
  next_run s f ss no_stmts d ps = elses_over s f ss (mark_piece true mark.CloseBrace d ∷ ps) refl
  next_run s f ss (with_stmt t xs) d ps =
      stmt_first types (λ q. in_block f (elses s ss) q ≡ in_block f ss q) t (λ p qs k. elses_run s f ss p qs (differs begins_stmt p.word (word.Key key.Else) k.begins refl)) d _

  next_case : (s : Stmt) (f : List ℕ) (ss : List Symbol) (xs : SwitchEntries) (d : ℕ) (ps : List Piece) → in_block f (elses s ss) (switch_pieces xs d (mark_piece true mark.CloseBrace d ∷ ps)) ≡ in_block f ss (switch_pieces xs d (mark_piece true mark.CloseBrace d ∷ ps))
  next_case s f ss no_entries d ps = elses_over s f ss (mark_piece true mark.CloseBrace d ∷ ps) refl
  next_case s f ss (with_entry (case k e) xs) d ps = elses_over s f ss (switch_pieces (with_entry (case k e) xs) d (mark_piece true mark.CloseBrace d ∷ ps)) refl
  next_case s f ss (with_entry (default k) xs) d ps = elses_over s f ss (switch_pieces (with_entry (default k) xs) d (mark_piece true mark.CloseBrace d ∷ ps)) refl
  next_case s f ss (with_entry (stmt t) xs) d ps =
      stmt_first types (λ q. in_block f (elses s ss) q ≡ in_block f ss q) t (λ p qs k. elses_run s f ss p qs (differs begins_stmt p.word (word.Key key.Else) k.begins refl)) d _

  -- where no declaration comes any more

  no_base_key : (f : List ℕ) (ss : List Symbol) (k : Keyword) → begins_stmt_key k ≡ true → base_key types f true ss k ≡ None
  no_base_key f ss key.If h = refl
  no_base_key f ss key.While h = refl
  no_base_key f ss key.Do h = refl
  no_base_key f ss key.For h = refl
  no_base_key f ss key.Switch h = refl
  no_base_key f ss key.Break h = refl
  no_base_key f ss key.Continue h = refl
  no_base_key f ss key.Return h = refl
  no_base_key f ss key.Sizeof h = refl
  no_base_key f ss k h = absurd (never (sym h))

  no_base_of : (f : List ℕ) (ss : List Symbol) (w : Word) (b : Bool) → begins_stmt w ≡ true → (w ≡ word.Name → b ≡ false) → base_of types f true ss w b ≡ None
  no_base_of f ss (word.Key k) b h g = no_base_key f ss k h
  no_base_of f ss word.Name b h g = ap (λ (c : Bool). if c then goes types f true (Consts ∷ ss) else None) (g refl)
  no_base_of f ss w b h g = refl

  if_both : (b : Bool) (x y : Option Stage) → b ≡ false → y ≡ None → (if b then x else y) ≡ None
  if_both true x y h e = absurd (never h)
  if_both false x y h e = e

  pub no_declaration : (f : List ℕ) (ss : List Symbol) (o : Option (List ℕ)) (p : Piece) → StmtFirst o p → IsPlain types o → declaration_stage types f true (Body ∷ ss) (heard p.word p.bytes) ≡ None
  no_declaration f ss o p k h =
      if_both (is_key key.Static p.word) _ _ (differs begins_stmt p.word (word.Key key.Static) k.begins refl)
      (no_base_of f (Entries ∷ Body ∷ ss) p.word (names_type types (name_bytes p.word p.bytes)) k.begins
      (λ e. ap (names_type types) (bytes_at types true p.word p.bytes e) ∙ not_known types true o p.bytes (k.plain e) h))

  pub body_run : (ds : List Declaration) → AreDeclarations ds → ReadsDeclarations types ds → (f : List ℕ) (ss : List Symbol) (d : ℕ) (ps : List Piece) → in_block f (Body ∷ ss) (declarations_pieces true ds d ps) ≡ in_block f (Body ∷ ss) ps
  body_run [] g r f ss d ps = refl
  body_run (x ∷ ds) g r f ss d ps = declaration_run x g.0 r.0 f ss d _ ∙ body_run ds g.1 r.1 f ss d ps

  body_same : (f : List ℕ) (ss : List Symbol) (p : Piece) (ps : List Piece) → declaration_stage types f true (Body ∷ ss) (heard p.word p.bytes) ≡ None → (statement types f true (Statements ∷ ss) p.word ≡ None → ⊥)
      → in_block f (Body ∷ ss) (p ∷ ps) ≡ in_block f (Statements ∷ ss) (p ∷ ps)
  body_same f ss p ps h k = passes _ _ (λ n. over n ps) h

  pub body_first : (xs : Stmts) → BeginsPlain types xs → (f : List ℕ) (ss : List Symbol) (d : ℕ) (ps : List Piece)
      → in_block f (Body ∷ ss) (stmts_pieces xs d (mark_piece true mark.CloseBrace d ∷ ps)) ≡ in_block f (Statements ∷ ss) (stmts_pieces xs d (mark_piece true mark.CloseBrace d ∷ ps))
  body_first no_stmts b f ss d ps = refl
  body_first (with_stmt s xs) b f ss d ps =
      stmt_first types (λ q. in_block f (Body ∷ ss) q ≡ in_block f (Statements ∷ ss) q) s
      (λ p qs k. body_same f ss p qs (no_declaration f ss (first_of s) p k (plain_first_of types s xs b)) (statement_there f (Statements ∷ ss) p.word k.begins)) d _

  mutual
    stmt_run : (s : Stmt) → IsStmt s → ReadsStmt types s → (f : List ℕ) (ss : List Symbol) (d : ℕ) (ps : List Piece) → in_block f (Statement ∷ ss) (stmt_pieces s d ps) ≡ in_block f (elses s ss) ps
    stmt_run (block k ds xs) g r f ss d ps = body_run ds g.0 r.0 f (Must (word.Mark mark.CloseBrace) ∷ ss) (suc (suc d)) _ ∙ body_first xs r.1 f (Must (word.Mark mark.CloseBrace) ∷ ss) (suc (suc d)) ps ∙ stmts_run xs g.1 r.2 f (Must (word.Mark mark.CloseBrace) ∷ ss) (suc (suc d)) ps
    stmt_run (evaluate absent) g r f ss d ps = refl
    stmt_run (evaluate (present e)) g r f ss d ps = let q = expr_runs types true e g in evaluate_first e f ss (suc (suc d)) _ ∙ q.any r f (Must (word.Mark mark.Semicolon) ∷ ss) (suc (suc d)) _ refl
    stmt_run (choose k e s) g r f ss d ps = condition_run e g.0 r.0 f (Statement ∷ Else ∷ ss) (suc d) _ ∙ stmt_run s g.1 r.1 f (Else ∷ ss) (suc d) ps
    stmt_run (choose_else k e s t) g r f ss d ps =
        condition_run e g.0 r.0 f (Statement ∷ Else ∷ ss) (suc d) _ ∙ stmt_run s g.2 r.1 f (Else ∷ ss) (suc d) _
        ∙ ap (λ n. in_block f n (key_piece true key.Else (suc d) ∷ stmt_pieces t (suc d) ps)) (closed_elses s g.1 (Else ∷ ss)) ∙ stmt_run t g.3 r.2 f ss (suc d) ps
    stmt_run (while_loop k e s) g r f ss d ps = condition_run e g.0 r.0 f (Statement ∷ ss) (suc d) _ ∙ stmt_run s g.1 r.1 f ss (suc d) ps
    stmt_run (do_loop k s e) g r f ss d ps =
        stmt_run s g.0 r.0 f (Must (word.Key key.While) ∷ condition (Must (word.Mark mark.Semicolon) ∷ ss)) (suc d) _ ∙ elses_over s f (Must (word.Key key.While) ∷ condition (Must (word.Mark mark.Semicolon) ∷ ss)) (key_piece true key.While (suc d) ∷ mark_piece true mark.OpenParenthesis (suc d) ∷ whole_pieces true e (suc d) (mark_piece true mark.CloseParenthesis (suc d) ∷ mark_piece true mark.Semicolon (suc d) ∷ ps)) refl
        ∙ condition_run e g.1 r.1 f (Must (word.Mark mark.Semicolon) ∷ ss) (suc d) _
    stmt_run (for_loop k a b c s) g r f ss d ps =
        optional_run a g.0 r.0 f (Must (word.Mark mark.Semicolon) ∷ Optional ∷ Must (word.Mark mark.Semicolon) ∷ Optional ∷ Must (word.Mark mark.CloseParenthesis) ∷ Statement ∷ ss) (suc d) _ _ refl
        ∙ optional_run b g.1 r.1 f (Must (word.Mark mark.Semicolon) ∷ Optional ∷ Must (word.Mark mark.CloseParenthesis) ∷ Statement ∷ ss) (suc d) _ _ refl
        ∙ optional_run c g.2 r.2 f (Must (word.Mark mark.CloseParenthesis) ∷ Statement ∷ ss) (suc d) _ _ refl ∙ stmt_run s g.3 r.3 f ss (suc d) ps
    stmt_run (switch k e xs) g r f ss d ps =
        condition_run e g.0 r.0 f (Must (word.Mark mark.OpenBrace) ∷ Cases ∷ Must (word.Mark mark.CloseBrace) ∷ ss) (suc d) _ ∙ cases_run xs g.1 r.1 f (Must (word.Mark mark.CloseBrace) ∷ ss) (suc d) ps
    stmt_run (break k) g r f ss d ps = refl
    stmt_run (continue k) g r f ss d ps = refl
    stmt_run (give k e) g r f ss d ps = optional_run e g r f (Must (word.Mark mark.Semicolon) ∷ ss) (suc d) _ _ refl

    pub stmts_run : (xs : Stmts) → AreStmts xs → ReadsStmts types xs → (f : List ℕ) (ss : List Symbol) (d : ℕ) (ps : List Piece)
        → in_block f (Statements ∷ ss) (stmts_pieces xs d (mark_piece true mark.CloseBrace d ∷ ps)) ≡ in_block f ss (mark_piece true mark.CloseBrace d ∷ ps)
    stmts_run no_stmts g r f ss d ps = refl
    stmts_run (with_stmt s xs) g r f ss d ps =
        stmts_first s f ss d _ ∙ stmt_run s g.0 r.0 f (Statements ∷ ss) d _ ∙ next_run s f (Statements ∷ ss) xs d ps ∙ stmts_run xs g.1 r.1 f ss d ps

    cases_run : (xs : SwitchEntries) → AreSwitchEntries xs → ReadsEntriesOf types xs → (f : List ℕ) (ss : List Symbol) (d : ℕ) (ps : List Piece)
        → in_block f (Cases ∷ ss) (switch_pieces xs d (mark_piece true mark.CloseBrace d ∷ ps)) ≡ in_block f ss (mark_piece true mark.CloseBrace d ∷ ps)
    cases_run no_entries g r f ss d ps = refl
    cases_run (with_entry (case k e) xs) g r f ss d ps =
        conditioned types true e (expr_runs types true e g.0.1) g.0.0 r.0 f (Must (word.Mark mark.Colon) ∷ Cases ∷ ss) d _ refl ∙ cases_run xs g.1 r.1 f ss d ps
    cases_run (with_entry (default k) xs) g r f ss d ps = cases_run xs g.1 r.1 f ss d ps
    cases_run (with_entry (stmt s) xs) g r f ss d ps = cases_first s f ss d _ ∙ stmt_run s g.0 r.0 f (Cases ∷ ss) d _ ∙ next_case s f (Cases ∷ ss) xs d ps ∙ cases_run xs g.1 r.1 f ss d ps

  -- items

  abbrev in_file : List ℕ → List Symbol → List Piece → Option Stage
  in_file f ss ps = on types false f ss ps

  file_first : (k : Option ℕ) (b : Base) → IsBase b → ReadsBase types b → (f : List ℕ) (d : ℕ) (ps : List Piece)
      → in_file f [] (static_pieces false k d (base_pieces false b d ps)) ≡ in_file f (Base_to_come ∷ FileEntries ∷ []) (base_pieces false b d ps)
  file_first (Some k) b g r f d ps = refl
  file_first None b g r f d ps =
      base_first types false (λ q. in_file f [] q ≡ in_file f (Base_to_come ∷ FileEntries ∷ []) q)
      (λ p qs k. skips _ _ (λ n. over n qs) (differs begins_base p.word (word.Key key.Typedef) k.begins refl) ∙ skips _ _ (λ n. over n qs) (differs begins_base p.word (word.Key key.Static) k.begins refl)) b g r d ps

  file_entry : (x : Declarator) → IsDeclarator true x → (f : List ℕ) (d : ℕ) (ps : List Piece)
      → in_file f (FileEntries ∷ []) (declarator_pieces false x d ps) ≡ in_file f (Declarator_to_come naming.Must ∷ FirstEntry ∷ []) (declarator_pieces false x d ps)
  file_entry x g f d ps =
      entry_first false FirstEntry FileEntries x g f [] d ps (λ p qs h. skips _ _ (λ n. over n qs) (differs starts p.word (word.Mark mark.Semicolon) h refl))

  first_begun : (s : Option Initial) (es : List Entry) (f : List ℕ) (d : ℕ) (ps : List Piece)
      → in_file f (FirstEntry ∷ []) (begun_pieces false s d (more_entries_pieces false es d (mark_piece false mark.Semicolon d ∷ ps))) ≡ in_file f (Entry_to_come ∷ []) (begun_pieces false s d (more_entries_pieces false es d (mark_piece false mark.Semicolon d ∷ ps)))
  first_begun None [] f d ps = refl
  first_begun None (e ∷ es) f d ps = refl
  first_begun (Some x) es f d ps = refl

  file_entries : (es : List Entry) → AreEntries es → ReadsEntries types es → (f : List ℕ) (d : ℕ) (ps : List Piece) → in_file f (FileEntries ∷ []) (entries_pieces false es d (mark_piece false mark.Semicolon d ∷ ps)) ≡ in_file f [] ps
  file_entries [] g r f d ps = refl
  file_entries (e ∷ es) g r f d ps =
      file_entry e.declarator g.0 f (suc d) _ ∙ declarator_run types false naming.Must e.declarator g.0 r.0 f (FirstEntry ∷ []) (suc d) _ (begun_leaves false e.initial es d ps)
      ∙ first_begun e.initial es f d ps ∙ begun_run false e.initial es g.1 r.1 f [] d ps (more_entries_run false es g.2 r.2 f [] d ps)

-- a run that ends where a unit may
pub record Complete (s : Stage) (ps : List Piece) : Type 0 where
  pub last : Stage
  pub run : over s ps ≡ Some last
  pub ended : is_over last ≡ true

pub complete : (s t : Stage) (ps qs : List Piece) → over s ps ≡ over t qs → Complete t qs → Complete s ps
complete s t ps qs e c = record { last = c.last; run = e ∙ c.run; ended = c.ended }

pub unit_run : (u : TranslationUnit) (types : List (List ℕ)) (f : List ℕ) → AreItems u → ReadsNames types u → Complete (at types false f []) (unit_pieces u)
unit_run [] types f g r = record { last = at types false f []; run = refl; ended = refl }
unit_run (typedef b x ∷ u) types f g r =
    complete (at types false f []) (at (name_in x ∷ types) false (name_in x) []) _ (unit_pieces u)
    (base_run types false b g.0.0 r.0 f (Declarator_to_come naming.Typedef ∷ EndTypedef ∷ []) 0 _ (declared_behind types false x 1 _ (inr refl))
    ∙ declarator_run types false naming.Typedef x g.0.1 r.1 f (EndTypedef ∷ []) 1 _ refl)
    (unit_run u (name_in x ∷ types) (name_in x) g.1 r.2)
unit_run (declaration x ∷ u) types f g r =
    complete (at types false f []) (at types false f []) _ (unit_pieces u)
    (file_first types x.fixed x.base g.0.0 r.0.0 f 0 _ ∙ base_run types false x.base g.0.0 r.0.0 f (FileEntries ∷ []) 0 _ (entries_behind types false x.entries g.0.1 0 _) ∙ file_entries types x.entries g.0.1 r.0.1 f 0 _)
    (unit_run u types f g.1 r.1)
unit_run (function x ∷ u) types f g r =
    complete (at types false f []) (at types false f []) _ (unit_pieces u)
    (file_first types x.fixed x.base g.0.0 r.0.0 f 0 _ ∙ base_run types false x.base g.0.0 r.0.0 f (FileEntries ∷ []) 0 _ (declared_behind types false x.declarator 1 _ (inl (must_tokens types false x.declarator g.0.1)))
    ∙ file_entry types x.declarator g.0.1 f 1 _ ∙ declarator_run types false naming.Must x.declarator g.0.1 r.0.1 f (FirstEntry ∷ []) 1 _ refl
    ∙ body_run types x.declarations g.0.2 r.0.2 f [] 1 _ ∙ body_first types x.body r.0.3 f [] 1 (unit_pieces u) ∙ stmts_run types x.body g.0.3 r.0.4 f [] 1 (unit_pieces u))
    (unit_run u types f g.1 r.1)
