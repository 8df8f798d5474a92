-- The walk shows over the pieces of declarations, statements and units in how many uses each lies.
use Rattle.std.proofs.Common.{◌≡◌, ℕ, suc, ◌+◌, inl, inr, Bool, true, false, ◌||◌, if◌then◌else◌, List, [], ◌∷◌, ◌++◌, map, length, Option, Some, None, refl, sym, subst, ap, ◌∙◌}
use Rattle.porch_tree.specs.declared.word.Keyword.{Keyword}
use Rattle.porch_tree.specs.declared.word.Keyword.TheVariants as key
use Rattle.porch_tree.specs.declared.word.Mark.{Mark}
use Rattle.porch_tree.specs.declared.word.Mark.TheVariants as mark
use Rattle.porch_tree.specs.declared.word.Word.{Word}
use Rattle.porch_tree.specs.declared.word.Word.TheVariants as word
use Rattle.porch_tree.specs.Mirror.{Expr, Perhaps, absent, present, Base, Declarator, declarator as declared, lacking as lacking_core, named as named_core, inner, Initial, value, braced, Initials, no_initials, with_initial, Entry, Declaration, Stmt, block, evaluate, choose, choose_else, while_loop, do_loop, for_loop, switch, break, continue, give, Stmts, no_stmts, with_stmt, case, default, stmt, SwitchEntries, no_entries, with_entry, typedef, declaration, function, TranslationUnit}
use Rattle.porch_tree.specs.Pieces.{Piece, mark as mark_piece, key as key_piece, expr_pieces, whole_pieces, optional_pieces, comma_pieces, initial_pieces, more_initials_pieces, begun_pieces, more_entries_pieces, entries_pieces, declarator_pieces, base_pieces, static_pieces, declaration_pieces, declarations_pieces, stmt_pieces, stmts_pieces, switch_pieces, unit_pieces}
use Rattle.porch_tree.specs.Formed.{IsExpr, IsOptional, IsInitial, AreInitials, IsStart, AreEntries, IsDeclaration, AreDeclarations, IsBase, IsDeclarator, IsClosed, IsStmt, AreStmts, AreSwitchEntries, AreItems}
use Rattle.porch_tree.specs.Names.{BeginsPlain, IsPlain, ReadsExpr, ReadsPerhaps, ReadsInitial, ReadsInitials, ReadsStart, ReadsEntries, ReadsDeclaration, ReadsDeclarations, ReadsBase, ReadsStmt, ReadsStmts, ReadsEntriesOf, ReadsNames, name_in}
use Rattle.porch_walk.specs.declared.symbol.Mode.TheVariants as mode
use Rattle.porch_walk.specs.declared.symbol.Naming.TheVariants as naming
use Rattle.porch_walk.specs.declared.symbol.Symbol.{Symbol}
use Rattle.porch_walk.specs.declared.symbol.Symbol.TheVariants.{Must, Operand, Commas, Optional, Base as Base_to_come, Declarator as Declarator_to_come, Entries, Entry as Entry_to_come, MoreEntries, Initial as Initial_to_come, MoreInitials, NextInitial, FileEntries, FirstEntry, EndTypedef, Body, Statements, Statement, Else, Cases}
use Rattle.porch_walk.specs.declared.level.Level.{Level}
use Rattle.porch_walk.specs.declared.level.Step.{Step}
use Rattle.porch_walk.specs.Walk.{or_else, is, is_mark, is_key, heard, name_bytes, names_type, condition}
use Rattle.porch_walk.specs.Plans.{Plan, ahead, up, took, begins_base as begins_base_plan, begins_base_key, statement_word, statement_key, operand, initial, statement, expression, item}
use Rattle.porch_walk.specs.Levels.{level, GROUND, placed, Read, read_by, read_or, read}
use Rattle.porch_walk.proofs.Expressions.{never}
use Rattle.porch_walk.proofs.Passes.{Heads, closes, ends, leaves, behind_base, begins, begins_key, begins_base, differs, at, expr_first, bytes_at, not_known}
use Rattle.porch_walk.proofs.Accepts.{StartOf, base_first, base_there, declared_behind, must_tokens}
use Rattle.porch_walk.proofs.Units.{begins_stmt, begins_stmt_key, begins_stmt_mark, first_of, StmtFirst, stmt_first, plain_first_of, elses, closed_elses, no_else, flipped, if_none, initials_end, entries_end, begun_leaves, entries_behind, not_static, no_word, statement_there, no_declaration}
use Rattle.porch_walk.proofs.Owing.{Seen, seen, Short, Owes, nothing, owing, both, one, even, by0, by1, by2, IsRight, taken_as, Rt, knows_piece, left_out}
use Rattle.porch_walk.proofs.LeftOut.{off, pass, either_off}
use Rattle.porch_walk.proofs.LeftOut as out
use Rattle.porch_walk.proofs.Openings.{some, met, names, deeper_name, begins_same, known_first, ahead_on, moved, moved_alone}
use Rattle.porch_walk.proofs.Openings as opening
use Rattle.porch_walk.proofs.ShownParts.{On, Then, from, expr_shows, base_shows, declarator_shows}

-- What a statement begins with has a plan, and begins no declaration.

plan_there_mark : (m : Mark) → begins_stmt_mark m ≡ true → statement (word.Mark m) ≡ None → ⊥
plan_there_mark mark.OpenBrace h e = cc
plan_there_mark mark.Semicolon h e = cc
plan_there_mark mark.OpenParenthesis h e = cc
plan_there_mark mark.PlusPlus h e = cc
plan_there_mark mark.MinusMinus h e = cc
plan_there_mark mark.And h e = cc
plan_there_mark mark.Star h e = cc
plan_there_mark mark.Plus h e = cc
plan_there_mark mark.Minus h e = cc
plan_there_mark mark.Tilde h e = cc
plan_there_mark mark.Not h e = cc
plan_there_mark m h e = never (sym h)

plan_there_key : (k : Keyword) → begins_stmt_key k ≡ true → statement (word.Key k) ≡ None → ⊥
plan_there_key key.If h e = cc
plan_there_key key.While h e = cc
plan_there_key key.Do h e = cc
plan_there_key key.For h e = cc
plan_there_key key.Switch h e = cc
plan_there_key key.Break h e = cc
plan_there_key key.Continue h e = cc
plan_there_key key.Return h e = cc
plan_there_key key.Sizeof h e = cc
plan_there_key k h e = never (sym h)

plan_there : (w : Word) → begins_stmt w ≡ true → statement w ≡ None → ⊥
plan_there word.Name h e = cc
plan_there word.Whole h e = cc
plan_there word.Character h e = cc
plan_there word.Text h e = cc
plan_there (word.Key k) h e = plan_there_key k h e
plan_there (word.Mark m) h e = plan_there_mark m h e

no_base_key : (k : Keyword) → begins_stmt_key k ≡ true → begins_base_key k ≡ false
no_base_key key.If h = refl
no_base_key key.While h = refl
no_base_key key.Do h = refl
no_base_key key.For h = refl
no_base_key key.Switch h = refl
no_base_key key.Break h = refl
no_base_key key.Continue h = refl
no_base_key key.Return h = refl
no_base_key key.Sizeof h = refl
no_base_key k h = absurd (never (sym h))

no_base_plan : (known : Bool) (w : Word) → begins_stmt w ≡ true → (w ≡ word.Name → known ≡ false) → begins_base_plan known w ≡ false
no_base_plan known (word.Key k) h f = no_base_key k h
no_base_plan known word.Name h f = f refl
no_base_plan known w h f = refl

no_statement_key : (k : Keyword) → begins_key k ≡ true → statement_key k ≡ None
no_statement_key key.Sizeof h = refl
no_statement_key k h = absurd (never (sym h))

no_statement_word : (w : Word) → begins w ≡ true → statement_word w ≡ None
no_statement_word (word.Key k) h = no_statement_key k h
no_statement_word (word.Mark m) h =
    off _ _ (differs begins (word.Mark m) (word.Mark mark.OpenBrace) h refl) ∙ off _ _ (differs begins (word.Mark m) (word.Mark mark.Semicolon) h refl)
no_statement_word w h = refl

either_on : (a b : Bool) → b ≡ true → (a || b) ≡ true
either_on true b h = refl
either_on false b h = h

begins_no_else : (w : Word) → begins_stmt w ≡ true → no_else w ≡ true
begins_no_else w h = ap (λ (b : Bool). if b then false else true) (differs begins_stmt w (word.Key key.Else) h refl)

-- The levels of what is pending behind a statement, where these are those behind it.
abbrev pub AreElses : Stmt → List Level → List Level → Type 0
AreElses (choose k e s) ls ms = (x : Level) × AreElses s (x ∷ ls) ms
AreElses (choose_else k e s t) ls ms = AreElses t ls ms
AreElses (while_loop k e s) ls ms = AreElses s ls ms
AreElses (for_loop k a b c s) ls ms = AreElses s ls ms
AreElses s ls ms = ms ≡ ls

closed_levels : (s : Stmt) → IsClosed s → (ls ms : List Level) → AreElses s ls ms → ms ≡ ls
closed_levels (choose k e s) c ls ms h = absurd c
closed_levels (choose_else k e s t) c ls ms h = closed_levels t c ls ms h
closed_levels (while_loop k e s) c ls ms h = closed_levels s c ls ms h
closed_levels (for_loop k a b d s) c ls ms h = closed_levels s c ls ms h
closed_levels (block k ds xs) c ls ms h = h
closed_levels s c ls ms h = h

module _ (types : List (List ℕ)) where
  module _ (i : Bool) where
    -- initialisers

    not_brace : (e : Expr) (f : List ℕ) (ss : List Symbol) (l : Level) (ls : List Level) (os : List Seen) (d : ℕ) (ps : List Piece)
        → On types i f (Operand mode.Assign ∷ ss) (level (l.uses + 1) (length os) ∷ ls) os (expr_pieces i e d ps) → On types i f (Initial_to_come ∷ ss) (l ∷ ls) os (expr_pieces i e d ps)
    not_brace e f ss l ls os d ps =
        expr_first types i (λ q. On types i f (Operand mode.Assign ∷ ss) (level (l.uses + 1) (length os) ∷ ls) os q → On types i f (Initial_to_come ∷ ss) (l ∷ ls) os q) e
        (λ p qs k h. taken_as (at types i f (Initial_to_come ∷ ss)) (at types i f (Operand mode.Assign ∷ ss)) (l ∷ ls) (level (l.uses + 1) (length os) ∷ ls) os p qs
        (off _ _ (differs begins p.word (word.Mark mark.OpenBrace) k.begins refl))
        (ap (λ v. read_or l (length os) v ls (read (knows_piece types i p) (length os) p.word ss ls)) (off _ _ (differs begins p.word (word.Mark mark.OpenBrace) k.begins refl))
        ∙ moved_alone p.word 1 l (length os) ls _ _) h) d ps

    no_initial : (w : Word) → begins w ≡ true → initial w ≡ None → ⊥
    no_initial w h e = opening.operand_plan w 1 (sym (off _ _ (differs begins w (word.Mark mark.OpenBrace) h refl)) ∙ e)

    next_value : (e : Expr) (f : List ℕ) (ss : List Symbol) (l : Level) (ls : List Level) (os : List Seen) (d : ℕ) (ps : List Piece)
        → On types i f (Initial_to_come ∷ MoreInitials ∷ ss) (l ∷ level (l.uses + 0) (length os) ∷ ls) os (expr_pieces i e d ps) → On types i f (NextInitial ∷ ss) (l ∷ ls) os (expr_pieces i e d ps)
    next_value e f ss l ls os d ps =
        expr_first types i (λ q. On types i f (Initial_to_come ∷ MoreInitials ∷ ss) (l ∷ level (l.uses + 0) (length os) ∷ ls) os q → On types i f (NextInitial ∷ ss) (l ∷ ls) os q) e
        (λ p qs k h. taken_as (at types i f (NextInitial ∷ ss)) (at types i f (Initial_to_come ∷ MoreInitials ∷ ss)) (l ∷ ls) (l ∷ level (l.uses + 0) (length os) ∷ ls) os p qs
        (off _ _ (differs begins p.word (word.Mark mark.CloseBrace) k.begins refl))
        (ap (λ v. read_or l (length os) v ls (read (knows_piece types i p) (length os) p.word ss ls)) (off _ _ (differs begins p.word (word.Mark mark.CloseBrace) k.begins refl))
        ∙ ahead_on (initial p.word) (no_initial p.word k.begins) (up 0 ∷ []) l (length os) ls _ _) h) d ps

    next_first : (x : Initial) (f : List ℕ) (ss : List Symbol) (l : Level) (ls : List Level) (os : List Seen) (d : ℕ) (ps : List Piece)
        → On types i f (Initial_to_come ∷ MoreInitials ∷ ss) (l ∷ level (l.uses + 0) (length os) ∷ ls) os (initial_pieces i x d ps) → On types i f (NextInitial ∷ ss) (l ∷ ls) os (initial_pieces i x d ps)
    next_first (value e) f ss l ls os d ps h = next_value e f ss l ls os (suc d) ps h
    next_first (braced at xs c) f ss l ls os d ps h = h

    mutual
      initial_shows : (x : Initial) → IsInitial x → ReadsInitial types x → (f : List ℕ) (ss : List Symbol) (l : Level) (ls : List Level) (os : List Seen) (k d : ℕ) (ps : List Piece) → Short k l.uses d → Heads ends ps
          → Then k os (λ new. On types i f ss ls new ps) → On types i f (Initial_to_come ∷ ss) (l ∷ ls) os (initial_pieces i x d ps)
      initial_shows (value e) g r f ss l ls os k d ps s h t =
          let q = expr_shows types i e g.1 in
          not_brace e f ss l ls os (suc d) ps (q.free true g.0 r f ss _ ls os k (suc d) ps (by1 s) h t)
      initial_shows (braced at no_initials c) g r f ss l ls os k d ps s h t = absurd (g.0 refl)
      initial_shows (braced at (with_initial x xs) c) g r f ss l ls os k d ps s h t =
          initial_shows x g.1.0 r.0 f (MoreInitials ∷ ss) _ _ _ k (suc d) _ (by1 s) (initials_end types i xs c (suc d) ps)
          (λ n1 v1. initials_show xs c g.1.1 r.1 f ss _ ls n1 k (suc d) ps (by1 s) (from (λ new. On types i f ss ls new ps) (both (one (by1 s)) v1) t))

      initials_show : (xs : Initials) (c : Bool) → AreInitials xs → ReadsInitials types xs → (f : List ℕ) (ss : List Symbol) (l : Level) (ls : List Level) (os : List Seen) (k d : ℕ) (ps : List Piece) → Short k l.uses d
          → Then k os (λ new. On types i f ss ls new ps) → On types i f (MoreInitials ∷ ss) (l ∷ ls) os (more_initials_pieces i xs d (comma_pieces i c d (mark_piece i mark.CloseBrace d ∷ ps)))
      initials_show no_initials true g r f ss l ls os k d ps s t = t _ (owing (by0 (by0 s)) (one (by0 s)))
      initials_show no_initials false g r f ss l ls os k d ps s t = t _ (one (by0 s))
      initials_show (with_initial x xs) c g r f ss l ls os k d ps s t =
          next_first x f ss _ ls _ d _
          (initial_shows x g.0 r.0 f (MoreInitials ∷ ss) _ _ _ k d _ (by0 s) (initials_end types i xs c d ps)
          (λ n1 v1. initials_show xs c g.1 r.1 f ss _ ls n1 k d ps (by0 (by0 s)) (from (λ new. On types i f ss ls new ps) (both (one (by0 s)) v1) t)))

    -- entries

    abbrev rest_of_entries : List Entry → ℕ → List Piece → List Piece
    rest_of_entries es d ps = more_entries_pieces i es d (mark_piece i mark.Semicolon d ∷ ps)

    no_start : (es : List Entry) (f : List ℕ) (ss : List Symbol) (l : Level) (ls : List Level) (os : List Seen) (d : ℕ) (ps : List Piece)
        → On types i f (MoreEntries ∷ ss) (l ∷ ls) os (rest_of_entries es d ps) → On types i f (Entry_to_come ∷ ss) (l ∷ ls) os (rest_of_entries es d ps)
    no_start [] f ss l ls os d ps h = h
    no_start (e ∷ es) f ss l ls os d ps h = h

    begun_shows : (x : Option Initial) (es : List Entry) → IsStart x → ReadsStart types x → (f : List ℕ) (ss : List Symbol) (l : Level) (ls : List Level) (os : List Seen) (k d : ℕ) (ps : List Piece) → Short k l.uses d
        → ((a : Level) → Short k a.uses d → Then k os (λ new. On types i f (MoreEntries ∷ ss) (a ∷ ls) new (rest_of_entries es d ps)))
        → On types i f (Entry_to_come ∷ ss) (l ∷ ls) os (begun_pieces i x d (rest_of_entries es d ps))
    begun_shows None es g r f ss l ls os k d ps s t = no_start es f ss l ls os d ps (t l s os nothing)
    begun_shows (Some x) es g r f ss l ls os k d ps s t =
        initial_shows x g r f (MoreEntries ∷ ss) _ _ _ k d _ (by0 s) (entries_end types i es d ps)
        (from (λ new. On types i f (MoreEntries ∷ ss) (_ ∷ ls) new (rest_of_entries es d ps)) (one (by0 s)) (t _ (by0 s)))

    more_entries_show : (es : List Entry) → AreEntries es → ReadsEntries types es → (f : List ℕ) (ss : List Symbol) (l : Level) (ls : List Level) (os : List Seen) (k d : ℕ) (ps : List Piece) → Short k l.uses d
        → Then k os (λ new. On types i f ss ls new ps) → On types i f (MoreEntries ∷ ss) (l ∷ ls) os (rest_of_entries es d ps)
    more_entries_show [] g r f ss l ls os k d ps s t = t _ (one (by0 s))
    more_entries_show (e ∷ es) g r f ss l ls os k d ps s t =
        declarator_shows types i naming.Must e.declarator g.0 r.0 f (Entry_to_come ∷ ss) _ _ _ k (suc d) _ (by1 s) (begun_leaves types i e.initial es d ps)
        (λ n1 v1. begun_shows e.initial es g.1 r.1 f ss _ ls n1 k d ps (by0 s)
        (λ a z n2 v2. more_entries_show es g.2 r.2 f ss a ls n2 k d ps z (from (λ new. On types i f ss ls new ps) (both (both (one (by0 s)) v1) v2) t)))

    -- the first piece of a declarator that has a name
    named_first : (P : List Piece → Type 0) (x : Declarator) → IsDeclarator true x → ((p : Piece) (ps : List Piece) → names p.word ≡ true → P (p ∷ ps)) → (d : ℕ) (ps : List Piece) → P (declarator_pieces i x d ps)
    named_first P (declared at (c ∷ cs) core bs) g f d ps = f _ _ refl
    named_first P (declared at [] (named_core n) bs) g f d ps = f _ _ refl
    named_first P (declared at [] (inner j x) bs) g f d ps = f _ _ refl
    named_first P (declared at [] lacking_core bs) g f d ps = absurd g.2

    entries_first : (x : Declarator) → IsDeclarator true x → (f : List ℕ) (ss : List Symbol) (l : Level) (ls : List Level) (os : List Seen) (d : ℕ) (ps : List Piece)
        → On types i f (Declarator_to_come naming.Must ∷ Entry_to_come ∷ ss) (level (l.uses + 1) (length os) ∷ level (l.uses + 0) (length os) ∷ ls) os (declarator_pieces i x d ps) → On types i f (Entries ∷ ss) (l ∷ ls) os (declarator_pieces i x d ps)
    entries_first x g f ss l ls os d ps =
        named_first (λ q. On types i f (Declarator_to_come naming.Must ∷ Entry_to_come ∷ ss) (level (l.uses + 1) (length os) ∷ level (l.uses + 0) (length os) ∷ ls) os q → On types i f (Entries ∷ ss) (l ∷ ls) os q) x g
        (λ p qs k h. taken_as (at types i f (Entries ∷ ss)) (at types i f (Declarator_to_come naming.Must ∷ Entry_to_come ∷ ss)) (l ∷ ls) (level (l.uses + 1) (length os) ∷ level (l.uses + 0) (length os) ∷ ls) os p qs
        (off _ _ (differs names p.word (word.Mark mark.Semicolon) k refl))
        (ap (λ v. read_or l (length os) v ls (read (knows_piece types i p) (length os) p.word ss ls)) (off _ _ (differs names p.word (word.Mark mark.Semicolon) k refl))
        ∙ deeper_name p.word k (up 0 ∷ []) l (length os) ls _ _) h) d ps

    file_entries_first : (x : Declarator) → IsDeclarator true x → (f : List ℕ) (ss : List Symbol) (l : Level) (ls : List Level) (os : List Seen) (d : ℕ) (ps : List Piece)
        → On types i f (Declarator_to_come naming.Must ∷ FirstEntry ∷ ss) (level (l.uses + 1) (length os) ∷ level (l.uses + 0) (length os) ∷ ls) os (declarator_pieces i x d ps) → On types i f (FileEntries ∷ ss) (l ∷ ls) os (declarator_pieces i x d ps)
    file_entries_first x g f ss l ls os d ps =
        named_first (λ q. On types i f (Declarator_to_come naming.Must ∷ FirstEntry ∷ ss) (level (l.uses + 1) (length os) ∷ level (l.uses + 0) (length os) ∷ ls) os q → On types i f (FileEntries ∷ ss) (l ∷ ls) os q) x g
        (λ p qs k h. taken_as (at types i f (FileEntries ∷ ss)) (at types i f (Declarator_to_come naming.Must ∷ FirstEntry ∷ ss)) (l ∷ ls) (level (l.uses + 1) (length os) ∷ level (l.uses + 0) (length os) ∷ ls) os p qs
        (off _ _ (differs names p.word (word.Mark mark.Semicolon) k refl))
        (ap (λ v. read_or l (length os) v ls (read (knows_piece types i p) (length os) p.word ss ls)) (off _ _ (differs names p.word (word.Mark mark.Semicolon) k refl))
        ∙ deeper_name p.word k (up 0 ∷ []) l (length os) ls _ _) h) d ps

    entries_show : (es : List Entry) → AreEntries es → ReadsEntries types es → (f : List ℕ) (ss : List Symbol) (l : Level) (ls : List Level) (os : List Seen) (k d : ℕ) (ps : List Piece) → Short k l.uses d
        → Then k os (λ new. On types i f ss ls new ps) → On types i f (Entries ∷ ss) (l ∷ ls) os (entries_pieces i es d (mark_piece i mark.Semicolon d ∷ ps))
    entries_show [] g r f ss l ls os k d ps s t = t _ (one (by0 s))
    entries_show (e ∷ es) g r f ss l ls os k d ps s t =
        entries_first e.declarator g.0 f ss l ls os (suc d) _
        (declarator_shows types i naming.Must e.declarator g.0 r.0 f (Entry_to_come ∷ ss) _ _ os k (suc d) _ (by1 s) (begun_leaves types i e.initial es d ps)
        (λ n1 v1. begun_shows e.initial es g.1 r.1 f ss _ ls n1 k d ps (by0 s)
        (λ a z n2 v2. more_entries_show es g.2 r.2 f ss a ls n2 k d ps z (from (λ new. On types i f ss ls new ps) (both v1 v2) t))))

  -- declarations in a block

  declared_first : (b : Base) → IsBase b → ReadsBase types b → (f : List ℕ) (ss : List Symbol) (l : Level) (ls : List Level) (os : List Seen) (d : ℕ) (ps : List Piece)
      → On types true f (Base_to_come ∷ Entries ∷ Body ∷ ss) (l ∷ level (l.uses + 0) (length os) ∷ level (l.uses + 0) (length os) ∷ ls) os (base_pieces true b d ps) → On types true f (Body ∷ ss) (l ∷ ls) os (base_pieces true b d ps)
  declared_first b g r f ss l ls os d ps =
      base_first types true (λ q. On types true f (Base_to_come ∷ Entries ∷ Body ∷ ss) (l ∷ level (l.uses + 0) (length os) ∷ level (l.uses + 0) (length os) ∷ ls) os q → On types true f (Body ∷ ss) (l ∷ ls) os q)
      (λ p qs k h. taken_as (at types true f (Body ∷ ss)) (at types true f (Base_to_come ∷ Entries ∷ Body ∷ ss)) (l ∷ ls) (l ∷ level (l.uses + 0) (length os) ∷ level (l.uses + 0) (length os) ∷ ls) os p qs
      (some _ _ (λ e. base_there types true f (Entries ∷ Body ∷ ss) p k (if_none (is_key key.Static p.word) _ _ (not_static types p k) e)) ∙ off _ _ (not_static types p k))
      (ap (λ v. read_or l (length os) v ls (read (knows_piece types true p) (length os) p.word ss ls)) (met _ _ (either_on (is_key key.Static p.word) _ (known_first types true p k)))) h) b g r d ps

  declared_shows : (x : Option ℕ) (b : Base) → IsBase b → ReadsBase types b → (f : List ℕ) (ss : List Symbol) (l : Level) (ls : List Level) (os : List Seen) (k d : ℕ) (ps : List Piece) → Short k l.uses d
      → ((a c e : Level) → Short k a.uses d → Short k c.uses d → Short k e.uses d → Then k os (λ new. On types true f (Base_to_come ∷ Entries ∷ Body ∷ ss) (a ∷ c ∷ e ∷ ls) new (base_pieces true b d ps)))
      → On types true f (Body ∷ ss) (l ∷ ls) os (static_pieces true x d (base_pieces true b d ps))
  declared_shows None b g r f ss l ls os k d ps s t = declared_first b g r f ss l ls os d ps (t _ _ _ s (by0 s) (by0 s) os nothing)
  declared_shows (Some x) b g r f ss l ls os k d ps s t = t _ _ _ (by0 s) (by0 s) (by0 s) _ (one (by0 s))

  declaration_shows : (x : Declaration) → IsDeclaration x → ReadsDeclaration types x → (f : List ℕ) (ss : List Symbol) (l : Level) (ls : List Level) (os : List Seen) (k d : ℕ) (ps : List Piece) → Short k l.uses d
      → ((a : Level) → Short k a.uses d → Then k os (λ new. On types true f (Body ∷ ss) (a ∷ ls) new ps)) → On types true f (Body ∷ ss) (l ∷ ls) os (declaration_pieces true x d ps)
  declaration_shows x g r f ss l ls os k d ps s t =
      declared_shows x.fixed x.base g.0 r.0 f ss l ls os k d _ s
      (λ a c e z1 z2 z3 n1 v1. base_shows types true x.base g.0 r.0 f (Entries ∷ Body ∷ ss) a (c ∷ e ∷ ls) n1 k d _ z1 (entries_behind types true x.entries g.1 d ps)
      (λ n2 v2. entries_show true x.entries g.1 r.1 f (Body ∷ ss) c (e ∷ ls) n2 k d ps z2 (from (λ new. On types true f (Body ∷ ss) (e ∷ ls) new ps) (both v1 v2) (t e z3))))

  body_shows : (xs : List Declaration) → AreDeclarations xs → ReadsDeclarations types xs → (f : List ℕ) (ss : List Symbol) (l : Level) (ls : List Level) (os : List Seen) (k d : ℕ) (ps : List Piece) → Short k l.uses d
      → ((a : Level) → Short k a.uses d → Then k os (λ new. On types true f (Body ∷ ss) (a ∷ ls) new ps)) → On types true f (Body ∷ ss) (l ∷ ls) os (declarations_pieces true xs d ps)
  body_shows [] g r f ss l ls os k d ps s t = t l s os nothing
  body_shows (x ∷ xs) g r f ss l ls os k d ps s t =
      declaration_shows x g.0 r.0 f ss l ls os k d _ s
      (λ a z n1 v1. body_shows xs g.1 r.1 f ss a ls n1 k d ps z (λ c y. from (λ new. On types true f (Body ∷ ss) (c ∷ ls) new ps) v1 (t c y)))

  -- expressions in statements

  optional_shows : (e : Perhaps) → IsOptional e → ReadsPerhaps types e → (f : List ℕ) (ss : List Symbol) (l : Level) (ls : List Level) (os : List Seen) (k d : ℕ) (p : Piece) (ps : List Piece) → Short k l.uses (suc d) → closes p.word ≡ true
      → Then k os (λ new. On types true f ss ls new (p ∷ ps)) → On types true f (Optional ∷ ss) (l ∷ ls) os (optional_pieces true e d (p ∷ ps))
  optional_shows absent g r f ss l ls os k d p ps s h t = out.pass_optional types true f ss l ls os (p ∷ ps) h (t os nothing)
  optional_shows (present e) g r f ss l ls os k d p ps s h t =
      let q = expr_shows types true e g in
      opening.optional_first types true e f ss l ls os (suc d) _ (q.any r f ss _ _ ls os k (suc d) _ (by0 s) (by0 s) h t)

  condition_shows : (e : Expr) → IsExpr e → ReadsExpr types e true → (f : List ℕ) (ss : List Symbol) (a b c z : Level) (ls : List Level) (os : List Seen) (k d : ℕ) (ps : List Piece) → Short k a.uses d → Short k b.uses (suc d) → Short k c.uses (suc d) → Short k z.uses d
      → Then k os (λ new. On types true f ss ls new ps)
      → On types true f (condition ss) (a ∷ b ∷ c ∷ z ∷ ls) os (mark_piece true mark.OpenParenthesis d ∷ whole_pieces true e d (mark_piece true mark.CloseParenthesis d ∷ ps))
  condition_shows e g r f ss a b c z ls os k d ps s1 s2 s3 s4 t =
      let q = expr_shows types true e g in
      q.any r f (Must (word.Mark mark.CloseParenthesis) ∷ ss) b c (z ∷ ls) _ k (suc d) _ s2 s3 refl (λ n1 v1. t _ (owing (by0 s4) (both (one (by0 s1)) v1)))

  evaluate_first : (e : Expr) (f : List ℕ) (ss : List Symbol) (l : Level) (ls : List Level) (os : List Seen) (d : ℕ) (ps : List Piece)
      → On types true f (Operand mode.Assign ∷ Commas ∷ Must (word.Mark mark.Semicolon) ∷ ss) (level (l.uses + 2) (length os) ∷ level (l.uses + 2) (length os) ∷ level (l.uses + 1) (length os) ∷ ls) os (expr_pieces true e d ps)
      → On types true f (Statement ∷ ss) (l ∷ ls) os (expr_pieces true e d ps)
  evaluate_first e f ss l ls os d ps =
      expr_first types true
      (λ q. On types true f (Operand mode.Assign ∷ Commas ∷ Must (word.Mark mark.Semicolon) ∷ ss) (level (l.uses + 2) (length os) ∷ level (l.uses + 2) (length os) ∷ level (l.uses + 1) (length os) ∷ ls) os q → On types true f (Statement ∷ ss) (l ∷ ls) os q) e
      (λ p qs k h. taken_as (at types true f (Statement ∷ ss)) (at types true f (Operand mode.Assign ∷ Commas ∷ Must (word.Mark mark.Semicolon) ∷ ss)) (l ∷ ls)
      (level (l.uses + 2) (length os) ∷ level (l.uses + 2) (length os) ∷ level (l.uses + 1) (length os) ∷ ls) os p qs
      (pass _ _ (no_word types f ss p.word k.begins))
      (ap (λ v. read_or l (length os) v ls (read (knows_piece types true p) (length os) p.word ss ls)) (pass _ _ (no_statement_word p.word k.begins) ∙ met _ _ (begins_same p.word k.begins))
      ∙ moved p.word 2 (up 2 ∷ up 1 ∷ []) l (length os) ls _ _) h) d ps

  -- what may be left out behind a statement

  elses_pass : (s : Stmt) (f : List ℕ) (ss : List Symbol) (ls ms : List Level) (os : List Seen) (p : Piece) (ps : List Piece) → AreElses s ls ms → is_key key.Else p.word ≡ false
      → On types true f ss ls os (p ∷ ps) → On types true f (elses s ss) ms os (p ∷ ps)
  elses_pass (choose k e s) f ss ls ms os p ps a h t = elses_pass s f (Else ∷ ss) (a.0 ∷ ls) ms os p ps a.1 h (left_out types true f Else ss a.0 ls os p ps (off _ _ h) (off _ _ h) t)
  elses_pass (choose_else k e s v) f ss ls ms os p ps a h t = elses_pass v f ss ls ms os p ps a h t
  elses_pass (while_loop k e s) f ss ls ms os p ps a h t = elses_pass s f ss ls ms os p ps a h t
  elses_pass (for_loop k x y z s) f ss ls ms os p ps a h t = elses_pass s f ss ls ms os p ps a h t
  elses_pass (block k ds xs) f ss ls ms os p ps a h t = subst (λ q. On types true f ss q os (p ∷ ps)) (sym a) t
  elses_pass (evaluate e) f ss ls ms os p ps a h t = subst (λ q. On types true f ss q os (p ∷ ps)) (sym a) t
  elses_pass (do_loop k s e) f ss ls ms os p ps a h t = subst (λ q. On types true f ss q os (p ∷ ps)) (sym a) t
  elses_pass (switch k e xs) f ss ls ms os p ps a h t = subst (λ q. On types true f ss q os (p ∷ ps)) (sym a) t
  elses_pass (break k) f ss ls ms os p ps a h t = subst (λ q. On types true f ss q os (p ∷ ps)) (sym a) t
  elses_pass (continue k) f ss ls ms os p ps a h t = subst (λ q. On types true f ss q os (p ∷ ps)) (sym a) t
  elses_pass (give k e) f ss ls ms os p ps a h t = subst (λ q. On types true f ss q os (p ∷ ps)) (sym a) t

  elses_over : (s : Stmt) (f : List ℕ) (ss : List Symbol) (ls ms : List Level) (os : List Seen) (ps : List Piece) → AreElses s ls ms → Heads no_else ps
      → On types true f ss ls os ps → On types true f (elses s ss) ms os ps
  elses_over s f ss ls ms os [] a h t = absurd h
  elses_over s f ss ls ms os (p ∷ ps) a h t = elses_pass s f ss ls ms os p ps a (flipped (is_key key.Else p.word) h) t

  stmts_no_else : (xs : Stmts) (d : ℕ) (ps : List Piece) → Heads no_else (stmts_pieces xs d (mark_piece true mark.CloseBrace d ∷ ps))
  stmts_no_else no_stmts d ps = refl
  stmts_no_else (with_stmt s xs) d ps = stmt_first types (Heads no_else) s (λ p qs k. begins_no_else p.word k.begins) d _

  cases_no_else : (xs : SwitchEntries) (d : ℕ) (ps : List Piece) → Heads no_else (switch_pieces xs d (mark_piece true mark.CloseBrace d ∷ ps))
  cases_no_else no_entries d ps = refl
  cases_no_else (with_entry (case k e) xs) d ps = refl
  cases_no_else (with_entry (default k) xs) d ps = refl
  cases_no_else (with_entry (stmt s) xs) d ps = stmt_first types (Heads no_else) s (λ p qs k. begins_no_else p.word k.begins) d _

  -- where statements begin

  stmts_first : (s : Stmt) (f : List ℕ) (ss : List Symbol) (l : Level) (ls : List Level) (os : List Seen) (d : ℕ) (ps : List Piece)
      → On types true f (Statement ∷ Statements ∷ ss) (l ∷ level (l.uses + 0) (length os) ∷ ls) os (stmt_pieces s d ps) → On types true f (Statements ∷ ss) (l ∷ ls) os (stmt_pieces s d ps)
  stmts_first s f ss l ls os d ps =
      stmt_first types (λ q. On types true f (Statement ∷ Statements ∷ ss) (l ∷ level (l.uses + 0) (length os) ∷ ls) os q → On types true f (Statements ∷ ss) (l ∷ ls) os q) s
      (λ p qs k h. taken_as (at types true f (Statements ∷ ss)) (at types true f (Statement ∷ Statements ∷ ss)) (l ∷ ls) (l ∷ level (l.uses + 0) (length os) ∷ ls) os p qs
      (some _ _ (statement_there types f (Statements ∷ ss) p.word k.begins)) (ahead_on (statement p.word) (plan_there p.word k.begins) (up 0 ∷ []) l (length os) ls _ _) h) d ps

  cases_first : (s : Stmt) (f : List ℕ) (ss : List Symbol) (l : Level) (ls : List Level) (os : List Seen) (d : ℕ) (ps : List Piece)
      → On types true f (Statement ∷ Cases ∷ ss) (l ∷ level (l.uses + 0) (length os) ∷ ls) os (stmt_pieces s d ps) → On types true f (Cases ∷ ss) (l ∷ ls) os (stmt_pieces s d ps)
  cases_first s f ss l ls os d ps =
      stmt_first types (λ q. On types true f (Statement ∷ Cases ∷ ss) (l ∷ level (l.uses + 0) (length os) ∷ ls) os q → On types true f (Cases ∷ ss) (l ∷ ls) os q) s
      (λ p qs k h. taken_as (at types true f (Cases ∷ ss)) (at types true f (Statement ∷ Cases ∷ ss)) (l ∷ ls) (l ∷ level (l.uses + 0) (length os) ∷ ls) os p qs
      (off _ _ (differs begins_stmt p.word (word.Key key.Case) k.begins refl) ∙ off _ _ (differs begins_stmt p.word (word.Key key.Default) k.begins refl) ∙ some _ _ (statement_there types f (Cases ∷ ss) p.word k.begins))
      (ap (λ v. read_or l (length os) v ls (read (knows_piece types true p) (length os) p.word ss ls)) (off _ _ (differs begins_stmt p.word (word.Key key.Case) k.begins refl) ∙ off _ _ (differs begins_stmt p.word (word.Key key.Default) k.begins refl))
      ∙ ahead_on (statement p.word) (plan_there p.word k.begins) (up 0 ∷ []) l (length os) ls _ _) h) d ps

  body_first : (xs : Stmts) → BeginsPlain types xs → (f : List ℕ) (ss : List Symbol) (l : Level) (ls : List Level) (os : List Seen) (d : ℕ) (ps : List Piece)
      → On types true f (Statements ∷ ss) (l ∷ ls) os (stmts_pieces xs d (mark_piece true mark.CloseBrace d ∷ ps)) → On types true f (Body ∷ ss) (l ∷ ls) os (stmts_pieces xs d (mark_piece true mark.CloseBrace d ∷ ps))
  body_first no_stmts b f ss l ls os d ps h = h
  body_first (with_stmt s xs) b f ss l ls os d ps h =
      stmt_first types (λ q. On types true f (Statements ∷ ss) (l ∷ ls) os q → On types true f (Body ∷ ss) (l ∷ ls) os q) s
      (λ p qs k h. taken_as (at types true f (Body ∷ ss)) (at types true f (Statements ∷ ss)) (l ∷ ls) (l ∷ ls) os p qs
      (pass _ _ (no_declaration types f ss (first_of s) p k (plain_first_of types s xs b)))
      (ap (λ v. read_or l (length os) v ls (read (knows_piece types true p) (length os) p.word ss ls))
      (off _ _ (either_off _ _ (differs begins_stmt p.word (word.Key key.Static) k.begins refl)
      (no_base_plan (knows_piece types true p) p.word k.begins (λ e. ap (names_type types) (bytes_at types true p.word p.bytes e) ∙ not_known types true (first_of s) p.bytes (k.plain e) (plain_first_of types s xs b)))))) h) d _ h

  mutual
    stmt_shows : (s : Stmt) → IsStmt s → ReadsStmt types s → (f : List ℕ) (ss : List Symbol) (l : Level) (ls : List Level) (os : List Seen) (k d : ℕ) (ps : List Piece) → Short k l.uses d
        → ((ms : List Level) → AreElses s ls ms → Then k os (λ new. On types true f (elses s ss) ms new ps)) → On types true f (Statement ∷ ss) (l ∷ ls) os (stmt_pieces s d ps)
    stmt_shows (block at ds xs) g r f ss l ls os k d ps s t =
        body_shows ds g.0 r.0 f (Must (word.Mark mark.CloseBrace) ∷ ss) _ _ _ k (suc (suc d)) _ (by2 s)
        (λ a z n1 v1. body_first xs r.1 f (Must (word.Mark mark.CloseBrace) ∷ ss) a _ n1 (suc (suc d)) ps
        (stmts_show xs g.1 r.2 f (Must (word.Mark mark.CloseBrace) ∷ ss) a _ n1 k (suc (suc d)) ps z
        (λ n2 v2. t ls refl _ (owing (by0 (by2 s)) (both (both (one (by2 s)) v1) v2)))))
    stmt_shows (evaluate absent) g r f ss l ls os k d ps s t = t ls refl _ (one (by1 s))
    stmt_shows (evaluate (present e)) g r f ss l ls os k d ps s t =
        let q = expr_shows types true e g in
        evaluate_first e f ss l ls os (suc (suc d)) _
        (q.any r f (Must (word.Mark mark.Semicolon) ∷ ss) _ _ _ os k (suc (suc d)) _ (by2 s) (by2 s) refl (λ n1 v1. t ls refl _ (owing (by0 (by1 s)) v1)))
    stmt_shows (choose at e x) g r f ss l ls os k d ps s t =
        condition_shows e g.0 r.0 f (Statement ∷ Else ∷ ss) (level (l.uses + 1) (length os)) _ _ _ _ _ k (suc d) _ (by1 s) (by2 s) (by2 s) (by1 s)
        (λ n1 v1. stmt_shows x g.1 r.1 f (Else ∷ ss) _ _ n1 k (suc d) ps (by1 s) (λ ms m n2 v2. t ms (_, m) n2 (both (both (one (by1 s)) v1) v2)))
    stmt_shows (choose_else at e x y) g r f ss l ls os k d ps s t =
        condition_shows e g.0 r.0 f (Statement ∷ Else ∷ ss) (level (l.uses + 1) (length os)) _ _ _ _ _ k (suc d) _ (by1 s) (by2 s) (by2 s) (by1 s)
        (λ n1 v1. stmt_shows x g.2 r.1 f (Else ∷ ss) _ (level (l.uses + 1) (length os) ∷ ls) n1 k (suc d) _ (by1 s)
        (λ ms m n2 v2. subst (λ q. On types true f q ms n2 (key_piece true key.Else (suc d) ∷ stmt_pieces y (suc d) ps)) (sym (closed_elses x g.1 (Else ∷ ss)))
        (subst (λ q. On types true f (Else ∷ ss) q n2 (key_piece true key.Else (suc d) ∷ stmt_pieces y (suc d) ps)) (sym (closed_levels x g.1 (level (l.uses + 1) (length os) ∷ ls) ms m))
        (stmt_shows y g.3 r.2 f ss _ ls _ k (suc d) ps (by0 (by1 s)) (λ us w n3 v3. t us w n3 (both (owing (by0 (by1 s)) (both (both (one (by1 s)) v1) v2)) v3))))))
    stmt_shows (while_loop at e x) g r f ss l ls os k d ps s t =
        condition_shows e g.0 r.0 f (Statement ∷ ss) (level (l.uses + 1) (length os)) _ _ _ _ _ k (suc d) _ (by1 s) (by2 s) (by2 s) (by1 s)
        (λ n1 v1. stmt_shows x g.1 r.1 f ss _ ls n1 k (suc d) ps (by1 s) (λ ms m n2 v2. t ms m n2 (both (both (one (by1 s)) v1) v2)))
    stmt_shows (do_loop at x e) g r f ss l ls os k d ps s t =
        stmt_shows x g.0 r.0 f (Must (word.Key key.While) ∷ condition (Must (word.Mark mark.Semicolon) ∷ ss)) _ _ _ k (suc d) _ (by1 s)
        (λ ms m n1 v1. elses_over x f (Must (word.Key key.While) ∷ condition (Must (word.Mark mark.Semicolon) ∷ ss)) _ ms n1
        (key_piece true key.While (suc d) ∷ mark_piece true mark.OpenParenthesis (suc d) ∷ whole_pieces true e (suc d) (mark_piece true mark.CloseParenthesis (suc d) ∷ mark_piece true mark.Semicolon (suc d) ∷ ps)) m refl
        (condition_shows e g.1 r.1 f (Must (word.Mark mark.Semicolon) ∷ ss) (level (l.uses + 1) (length os)) (level (l.uses + 2) (length os)) (level (l.uses + 2) (length os)) (level (l.uses + 1) (length os)) (level (l.uses + 1) (length os) ∷ ls) (seen (l.uses + 1 + 0) (suc d) ∷ n1) k (suc d) (mark_piece true mark.Semicolon (suc d) ∷ ps) (by1 s) (by2 s) (by2 s) (by1 s)
        (λ n2 v2. t ls refl _ (owing (by0 (by1 s)) (both (owing (by0 (by1 s)) (both (one (by1 s)) v1)) v2)))))
    stmt_shows (for_loop at a b c x) g r f ss l ls os k d ps s t =
        optional_shows a g.0 r.0 f (Must (word.Mark mark.Semicolon) ∷ Optional ∷ Must (word.Mark mark.Semicolon) ∷ Optional ∷ Must (word.Mark mark.CloseParenthesis) ∷ Statement ∷ ss) _ _ _ k (suc d) _ _ (by2 s) refl
        (λ n1 v1. optional_shows b g.1 r.1 f (Must (word.Mark mark.Semicolon) ∷ Optional ∷ Must (word.Mark mark.CloseParenthesis) ∷ Statement ∷ ss) _ _ _ k (suc d) _ _ (by2 s) refl
        (λ n2 v2. optional_shows c g.2 r.2 f (Must (word.Mark mark.CloseParenthesis) ∷ Statement ∷ ss) _ _ _ k (suc d) _ _ (by2 s) refl
        (λ n3 v3. stmt_shows x g.3 r.3 f ss _ ls _ k (suc d) ps (by1 s)
        (λ ms m n4 v4. t ms m n4 (both (owing (by0 (by1 s)) (both (owing (by0 (by1 s)) (both (owing (by0 (by1 s)) (both (owing (by0 (by1 s)) (one (by1 s))) v1)) v2)) v3)) v4)))))
    stmt_shows (switch at e xs) g r f ss l ls os k d ps s t =
        condition_shows e g.0 r.0 f (Must (word.Mark mark.OpenBrace) ∷ Cases ∷ Must (word.Mark mark.CloseBrace) ∷ ss) (level (l.uses + 1) (length os)) _ _ _ _ _ k (suc d) _ (by1 s) (by2 s) (by2 s) (by1 s)
        (λ n1 v1. cases_show xs g.1 r.1 f (Must (word.Mark mark.CloseBrace) ∷ ss) _ _ _ k (suc d) ps (by1 s)
        (λ n2 v2. t ls refl _ (owing (by0 (by1 s)) (both (owing (by0 (by1 s)) (both (one (by1 s)) v1)) v2))))
    stmt_shows (break at) g r f ss l ls os k d ps s t = t ls refl _ (owing (by0 (by1 s)) (one (by1 s)))
    stmt_shows (continue at) g r f ss l ls os k d ps s t = t ls refl _ (owing (by0 (by1 s)) (one (by1 s)))
    stmt_shows (give at e) g r f ss l ls os k d ps s t =
        optional_shows e g r f (Must (word.Mark mark.Semicolon) ∷ ss) _ _ _ k (suc d) _ _ (by2 s) refl (λ n1 v1. t ls refl _ (owing (by0 (by1 s)) (both (one (by1 s)) v1)))

    stmts_show : (xs : Stmts) → AreStmts xs → ReadsStmts types xs → (f : List ℕ) (ss : List Symbol) (l : Level) (ls : List Level) (os : List Seen) (k d : ℕ) (ps : List Piece) → Short k l.uses d
        → Then k os (λ new. On types true f ss ls new (mark_piece true mark.CloseBrace d ∷ ps)) → On types true f (Statements ∷ ss) (l ∷ ls) os (stmts_pieces xs d (mark_piece true mark.CloseBrace d ∷ ps))
    stmts_show no_stmts g r f ss l ls os k d ps s t = t os nothing
    stmts_show (with_stmt x xs) g r f ss l ls os k d ps s t =
        stmts_first x f ss l ls os d _
        (stmt_shows x g.0 r.0 f (Statements ∷ ss) l _ os k d _ s
        (λ ms m n1 v1. elses_over x f (Statements ∷ ss) _ ms n1 _ m (stmts_no_else xs d ps)
        (stmts_show xs g.1 r.1 f ss _ ls n1 k d ps (by0 s) (from (λ new. On types true f ss ls new (mark_piece true mark.CloseBrace d ∷ ps)) v1 t))))

    cases_show : (xs : SwitchEntries) → AreSwitchEntries xs → ReadsEntriesOf types xs → (f : List ℕ) (ss : List Symbol) (l : Level) (ls : List Level) (os : List Seen) (k d : ℕ) (ps : List Piece) → Short k l.uses d
        → Then k os (λ new. On types true f ss ls new (mark_piece true mark.CloseBrace d ∷ ps)) → On types true f (Cases ∷ ss) (l ∷ ls) os (switch_pieces xs d (mark_piece true mark.CloseBrace d ∷ ps))
    cases_show no_entries g r f ss l ls os k d ps s t = t os nothing
    cases_show (with_entry (case at e) xs) g r f ss l ls os k d ps s t =
        let q = expr_shows types true e g.0.1 in
        q.free false g.0.0 r.0 f (Must (word.Mark mark.Colon) ∷ Cases ∷ ss) _ _ _ k d _ (by0 s) refl
        (λ n1 v1. cases_show xs g.1 r.1 f ss _ ls _ k d ps (by0 s) (from (λ new. On types true f ss ls new (mark_piece true mark.CloseBrace d ∷ ps)) (owing (by0 (by0 s)) (both (one (by0 s)) v1)) t))
    cases_show (with_entry (default at) xs) g r f ss l ls os k d ps s t =
        cases_show xs g.1 r.1 f ss _ ls _ k d ps (by0 s) (from (λ new. On types true f ss ls new (mark_piece true mark.CloseBrace d ∷ ps)) (owing (by0 (by0 s)) (one (by0 s))) t)
    cases_show (with_entry (stmt x) xs) g r f ss l ls os k d ps s t =
        cases_first x f ss l ls os d _
        (stmt_shows x g.0 r.0 f (Cases ∷ ss) l _ os k d _ s
        (λ ms m n1 v1. elses_over x f (Cases ∷ ss) _ ms n1 _ m (cases_no_else xs d ps)
        (cases_show xs g.1 r.1 f ss _ ls n1 k d ps (by0 s) (from (λ new. On types true f ss ls new (mark_piece true mark.CloseBrace d ∷ ps)) v1 t))))

  -- items

  file_first : (b : Base) → IsBase b → ReadsBase types b → (f : List ℕ) (os : List Seen) (d : ℕ) (ps : List Piece)
      → On types false f (Base_to_come ∷ FileEntries ∷ []) (level 0 (length os) ∷ level 0 (length os) ∷ []) os (base_pieces false b d ps) → On types false f [] [] os (base_pieces false b d ps)
  file_first b g r f os d ps =
      base_first types false (λ q. On types false f (Base_to_come ∷ FileEntries ∷ []) (level 0 (length os) ∷ level 0 (length os) ∷ []) os q → On types false f [] [] os q)
      (λ p qs k h. taken_as (at types false f []) (at types false f (Base_to_come ∷ FileEntries ∷ [])) [] (level 0 (length os) ∷ level 0 (length os) ∷ []) os p qs
      (off _ _ (differs begins_base p.word (word.Key key.Typedef) k.begins refl) ∙ off _ _ (differs begins_base p.word (word.Key key.Static) k.begins refl))
      (ap (λ v. read_by GROUND (length os) v []) (off _ _ (differs begins_base p.word (word.Mark mark.CloseBrace) k.begins refl) ∙ off _ _ (differs begins_base p.word (word.Key key.Typedef) k.begins refl))) h) b g r d ps

  file_shows : (x : Option ℕ) (b : Base) → IsBase b → ReadsBase types b → (f : List ℕ) (os : List Seen) (ps : List Piece)
      → ((a c : Level) → Short 0 a.uses 0 → Short 0 c.uses 0 → Then 0 os (λ new. On types false f (Base_to_come ∷ FileEntries ∷ []) (a ∷ c ∷ []) new (base_pieces false b 0 ps)))
      → On types false f [] [] os (static_pieces false x 0 (base_pieces false b 0 ps))
  file_shows None b g r f os ps t = file_first b g r f os 0 ps (t _ _ even even os nothing)
  file_shows (Some x) b g r f os ps t = t _ _ even even _ (one even)

  first_begun : (x : Option Initial) (es : List Entry) (f : List ℕ) (l : Level) (os : List Seen) (d : ℕ) (ps : List Piece)
      → On types false f (Entry_to_come ∷ []) (l ∷ []) os (begun_pieces false x d (more_entries_pieces false es d (mark_piece false mark.Semicolon d ∷ ps)))
      → On types false f (FirstEntry ∷ []) (l ∷ []) os (begun_pieces false x d (more_entries_pieces false es d (mark_piece false mark.Semicolon d ∷ ps)))
  first_begun None [] f l os d ps h = h
  first_begun None (e ∷ es) f l os d ps h = h
  first_begun (Some x) es f l os d ps h = h

  file_entries_show : (es : List Entry) → AreEntries es → ReadsEntries types es → (f : List ℕ) (l : Level) (os : List Seen) (ps : List Piece) → Short 0 l.uses 0
      → Then 0 os (λ new. On types false f [] [] new ps) → On types false f (FileEntries ∷ []) (l ∷ []) os (entries_pieces false es 0 (mark_piece false mark.Semicolon 0 ∷ ps))
  file_entries_show [] g r f l os ps s t = t _ (one (by0 s))
  file_entries_show (e ∷ es) g r f l os ps s t =
      file_entries_first false e.declarator g.0 f [] l [] os 1 _
      (declarator_shows types false naming.Must e.declarator g.0 r.0 f (FirstEntry ∷ []) _ _ os 0 1 _ (by1 s) (begun_leaves types false e.initial es 0 ps)
      (λ n1 v1. first_begun e.initial es f _ n1 0 ps
      (begun_shows false e.initial es g.1 r.1 f [] _ [] n1 0 0 ps (by0 s)
      (λ a z n2 v2. more_entries_show false es g.2 r.2 f [] a [] n2 0 0 ps z (from (λ new. On types false f [] [] new ps) (both v1 v2) t)))))

-- over the pieces of a unit the walk shows what each lies in
pub unit_shows : (u : TranslationUnit) (types : List (List ℕ)) (f : List ℕ) (os : List Seen) → AreItems u → ReadsNames types u → Owes 0 [] os → IsRight (at types false f []) [] os (unit_pieces u)
unit_shows [] types f os g r o = o
unit_shows (typedef b x ∷ u) types f os g r o =
    base_shows types false b g.0.0 r.0 f (Declarator_to_come naming.Typedef ∷ EndTypedef ∷ []) _ _ _ 0 0 _ even (declared_behind types false x 1 _ (inr refl))
    (λ n1 v1. declarator_shows types false naming.Typedef x g.0.1 r.1 f (EndTypedef ∷ []) _ _ n1 0 1 _ even refl
    (λ n2 v2. unit_shows u (name_in x ∷ types) (name_in x) _ g.1 r.2 (owing even (both (both (owing even o) v1) v2))))
unit_shows (declaration x ∷ u) types f os g r o =
    file_shows types x.fixed x.base g.0.0 r.0.0 f os _
    (λ a c z1 z2 n1 v1. base_shows types false x.base g.0.0 r.0.0 f (FileEntries ∷ []) a _ n1 0 0 _ z1 (entries_behind types false x.entries g.0.1 0 _)
    (λ n2 v2. file_entries_show types x.entries g.0.1 r.0.1 f c n2 _ z2
    (λ n3 v3. unit_shows u types f n3 g.1 r.1 (both (both (both o v1) v2) v3))))
unit_shows (function x ∷ u) types f os g r o =
    file_shows types x.fixed x.base g.0.0 r.0.0 f os _
    (λ a c z1 z2 n1 v1. base_shows types false x.base g.0.0 r.0.0 f (FileEntries ∷ []) a _ n1 0 0 _ z1 (declared_behind types false x.declarator 1 _ (inl (must_tokens types false x.declarator g.0.1)))
    (λ n2 v2. file_entries_first types false x.declarator g.0.1 f [] c [] n2 1 _
    (declarator_shows types false naming.Must x.declarator g.0.1 r.0.1 f (FirstEntry ∷ []) _ _ n2 0 1 _ (by1 z2) refl
    (λ n3 v3. body_shows types x.declarations g.0.2 r.0.2 f [] _ [] _ 0 1 _ (by1 (by0 z2))
    (λ b z n4 v4. body_first types x.body r.0.3 f [] b [] n4 1 (unit_pieces u)
    (stmts_show types x.body g.0.3 r.0.4 f [] b [] n4 0 1 (unit_pieces u) z
    (λ n5 v5. unit_shows u types f _ g.1 r.1 (owing even (both (both (owing (by1 (by0 z2)) (both (both (both o v1) v2) v3)) v4) v5)))))))))
