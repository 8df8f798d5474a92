-- The builder's run over the tokens of statements, switches and blocks reaches them.
use Rattle.std.proofs.Common.{◌≡◌, ℕ, suc, Bool, true, false, ◌||◌, if◌then◌else◌, List, [], ◌∷◌, ◌++◌, ◌⊎◌, inl, inr, refl, sym, ap, subst, ◌∙◌}
use Rattle.porch_tree.specs.declared.word.Keyword.TheVariants as key
use Rattle.porch_tree.specs.declared.word.Mark.TheVariants as mark
use Rattle.porch_tree.specs.declared.word.Word.TheVariants as word
use Rattle.porch_tree.specs.Mirror.{Expr, name, sequence, Perhaps, absent, present, Declaration, Stmt, block, evaluate, choose, choose_else, while_loop, do_loop, for_loop, switch, break, continue, give, Stmts, no_stmts, with_stmt, SwitchEntry, SwitchEntries, no_entries, with_entry, case, default, stmt, Item}
use Rattle.porch_tree.specs.Views.{stmts_of, entries_of}
use Rattle.porch_tree.specs.Pieces.{Spelled, Piece, mark as mark_piece, expr_pieces, optional_pieces, declarations_pieces, stmt_pieces, stmts_pieces, switch_pieces}
use Rattle.porch_tree.specs.Names.{ReadsExpr, ReadsStmt, ReadsStmts, ReadsEntriesOf, ReadsDeclarations, BeginsPlain}
use Rattle.porch_tree.specs.Formed.{IsExpr, IsAssign, IsCond, IsClosed, IsStmt, AreStmts, AreSwitchEntries, AreDeclarations}
use Rattle.porch_tree.specs.Grammar.{Matches, AreMatched}
use Rattle.porch_unit.specs.Units.{Frame, in_block, in_switch, behind_if, behind_else, behind_while, behind_do, behind_for, Purpose, to_evaluate, to_choose, to_repeat, to_repeat_behind, to_start, to_go_on, to_step, to_switch, to_give, to_label, is_label, at_first, at_statement, at_parenthesis, at_value, at_end, at_brace, at_colon, ended, State, state, given, closed}
use Rattle.porch_unit.proofs.Firsts.{Opening, Leads, IsLed, NoElse, led, expr_first, stmt_first, stmts_first, entries_first}
use Rattle.porch_unit.proofs.Statements.{Readers, From, token, Starts, After, from_starts, from_after, whole_run, label_run, at_a_value, starts_value, value_run, optional_run, no_else_behind}
use Rattle.porch_unit.proofs.Blocks.{Outer, of_body, of_block, hold, declarations_run, first_plain}
use Rattle.porch_unit.proofs.Lists.{append_nothing, append_one, stmt_list, stmts_back, entry_list, entries_back}

-- A statement in front of these pieces is closed, or they don't begin with `else`.
abbrev Apart : Stmt → List Piece → Type 0
Apart s ps = IsClosed s ⊎ Leads NoElse ps

cond_assign : (e : Expr) → IsCond e → IsAssign e
cond_assign (sequence e es) w = absurd w
cond_assign (name n) w = tt
cond_assign e w = tt

module _ (r : Readers) (types : List (List ℕ)) (G : State → Type 0) where
  abbrev F : State → List Spelled → Type 0
  F s ts = From r types G s ts

  in_outer : (o : Outer) (ds : List Declaration) (acc : List Stmt) (xs : List Item) (fs : List Frame) (s : Stmt) (ts : List Spelled) → Starts r types G xs (hold o ds (acc ++ s ∷ []) ∷ fs) ts → After r types G xs (hold o ds acc ∷ fs) s ts
  in_outer (of_body b x) ds acc xs fs s [] c = absurd c
  in_outer (of_body b x) ds acc xs fs s (t ∷ ts) c = c
  in_outer (of_block at) ds acc xs fs s [] c = absurd c
  in_outer (of_block at) ds acc xs fs s (t ∷ ts) c = c

  in_a_switch : (at : ℕ) (e : Expr) (acc : List SwitchEntry) (xs : List Item) (fs : List Frame) (s : Stmt) (ts : List Spelled) → Starts r types G xs (in_switch at e (acc ++ stmt s ∷ []) ∷ fs) ts → After r types G xs (in_switch at e acc ∷ fs) s ts
  in_a_switch at e acc xs fs s [] c = absurd c
  in_a_switch at e acc xs fs s (t ∷ ts) c = c

  -- a statement ends what these frames begin
  passes_else : (at : ℕ) (e : Expr) (x : Stmt) (xs : List Item) (fs : List Frame) (s : Stmt) (ts : List Spelled) → After r types G xs fs (choose_else at e x s) ts → After r types G xs (behind_else at e x ∷ fs) s ts
  passes_else at e x xs fs s [] c = c
  passes_else at e x xs fs s (t ∷ ts) c = c

  passes_while : (at : ℕ) (e : Expr) (xs : List Item) (fs : List Frame) (s : Stmt) (ts : List Spelled) → After r types G xs fs (while_loop at e s) ts → After r types G xs (behind_while at e ∷ fs) s ts
  passes_while at e xs fs s [] c = c
  passes_while at e xs fs s (t ∷ ts) c = c

  passes_for : (at : ℕ) (a b c : Perhaps) (xs : List Item) (fs : List Frame) (s : Stmt) (ts : List Spelled) → After r types G xs fs (for_loop at a b c s) ts → After r types G xs (behind_for at a b c ∷ fs) s ts
  passes_for at x y z xs fs s [] c = c
  passes_for at x y z xs fs s (t ∷ ts) c = c

  -- a piece at which a statement starts, or that stands behind one
  starts_at : (xs : List Item) (fs : List Frame) (p : Piece) (ps : List Piece) (ts : List Spelled) → AreMatched ts (p ∷ ps) → ((t : Spelled) (rest : List Spelled) → Matches t p → AreMatched rest ps → Starts r types G xs fs (record { word = p.word; at = t.at; bytes = t.bytes } ∷ rest)) → Starts r types G xs fs ts
  starts_at xs fs p ps [] h c = absurd h
  starts_at xs fs p ps (t ∷ ts) h c = subst (λ w. Starts r types G xs fs (record { word = w; at = t.at; bytes = t.bytes } ∷ ts)) (sym h.0.word) (c t ts h.0 h.1)

  after_at : (xs : List Item) (fs : List Frame) (s : Stmt) (p : Piece) (ps : List Piece) (ts : List Spelled) → AreMatched ts (p ∷ ps) → ((t : Spelled) (rest : List Spelled) → Matches t p → AreMatched rest ps → After r types G xs fs s (record { word = p.word; at = t.at; bytes = t.bytes } ∷ rest)) → After r types G xs fs s ts
  after_at xs fs s p ps [] h c = absurd h
  after_at xs fs s p ps (t ∷ ts) h c = subst (λ w. After r types G xs fs s (record { word = w; at = t.at; bytes = t.bytes } ∷ ts)) (sym h.0.word) (c t ts h.0 h.1)

  -- `(`, an expression, and `)`
  condition_run : (e : Expr) → IsExpr e → (xs : List Item) → ReadsExpr types e true → (fs : List Frame) (p : Purpose) (d : ℕ) (u v : ℕ) (ps : List Piece) (ts : List Spelled) → is_label p ≡ false
      → AreMatched ts (mark_piece true mark.OpenParenthesis u ∷ expr_pieces true e d (mark_piece true mark.CloseParenthesis v ∷ ps))
      → ((rest : List Spelled) → AreMatched rest ps → F (given xs fs p (present e)) rest) → F (state xs fs (at_parenthesis p)) ts
  condition_run e w xs y fs p d u v ps ts q h c =
      token r types G xs fs (at_parenthesis p) _ _ ts refl h (λ t rest m k. value_run r types G e w xs y fs p d mark.CloseParenthesis v ps rest q refl k c)

  -- the end of a statement by its `;`
  end_run : (s : Stmt) (xs : List Item) (fs : List Frame) (d : ℕ) (ps : List Piece) (ts : List Spelled) → AreMatched ts (mark_piece true mark.Semicolon d ∷ ps) → ((rest : List Spelled) → AreMatched rest ps → After r types G xs fs s rest) → F (state xs fs (at_end s)) ts
  end_run s xs fs d ps ts h c = token r types G xs fs (at_end s) _ ps ts refl h (λ t rest m k. from_after r types G xs fs s rest (c rest k))

  pub block_run : (ds : List Declaration) (ss : Stmts) → AreDeclarations ds → (xs : List Item) → ReadsDeclarations types ds → BeginsPlain types ss
      → (o : Outer) (fs : List Frame) (d u : ℕ) (ps : List Piece) (ts : List Spelled) → AreMatched ts (declarations_pieces true ds d (stmts_pieces ss d (mark_piece true mark.CloseBrace u ∷ ps)))
      → ((rest : List Spelled) → AreMatched rest (stmts_pieces ss d (mark_piece true mark.CloseBrace u ∷ ps)) → Starts r types G xs (hold o ds [] ∷ fs) rest) → F (state xs (hold o [] [] ∷ fs) at_first) ts
  block_run ds ss v xs x p o fs d u ps ts h c =
      declarations_run r types G ds v xs x o [] fs d _ ts h (λ rest k.
      first_plain r types G ss xs p (hold o ds [] ∷ fs) d u ps rest k (c rest k))

  open_apart : (at : ℕ) (e : Expr) (s : Stmt) (ps : List Piece) → Apart (choose at e s) ps → Leads NoElse ps
  open_apart at e s ps (inl a) = absurd a
  open_apart at e s ps (inr a) = a

  mutual
    stmt_run : (s : Stmt) → IsStmt s → (xs : List Item) → ReadsStmt types s → (fs : List Frame) (d : ℕ) (ps : List Piece) (ts : List Spelled) → Apart s ps
        → AreMatched ts (stmt_pieces s d ps) → ((rest : List Spelled) → AreMatched rest ps → After r types G xs fs s rest) → Starts r types G xs fs ts
    stmt_run (evaluate absent) w xs y fs d ps ts a h c =
        starts_at xs fs _ ps ts h (λ t rest m k. from_after r types G xs fs (evaluate absent) rest (c rest k))
    stmt_run (evaluate (present e)) w xs y fs d ps ts a h c =
        starts_value r types G xs fs ts (led Opening _ ts (expr_first true e (suc (suc d)) _) h)
        (whole_run r types G e w xs y fs to_evaluate (suc (suc d)) mark.Semicolon (suc d) ps ts refl h (λ rest k. from_after r types G xs fs (evaluate (present e)) rest (c rest k)))
    stmt_run (choose at e s) w xs y fs d ps ts a h c =
        starts_at xs fs _ _ ts h (λ t rest m k.
        subst (λ z. F (state xs fs (at_parenthesis (to_choose z))) rest) (sym m.place)
        (condition_run e w.0 xs y.0 fs (to_choose at) (suc (suc d)) (suc d) (suc d) _ rest refl k (λ rest k.
        from_starts r types G xs (behind_if at e ∷ fs) rest
        (stmt_run s w.1 xs y.1 (behind_if at e ∷ fs) (suc d) ps rest (inr (open_apart at e s ps a)) k (λ rest k.
        no_else_behind r types G xs at e fs s rest (led NoElse ps rest (open_apart at e s ps a) k) (c rest k))))))
    stmt_run (choose_else at e s t) w xs y fs d ps ts a h c =
        starts_at xs fs _ _ ts h (λ u rest m k.
        subst (λ z. F (state xs fs (at_parenthesis (to_choose z))) rest) (sym m.place)
        (condition_run e w.0 xs y.0 fs (to_choose at) (suc (suc d)) (suc d) (suc d) _ rest refl k (λ rest k.
        from_starts r types G xs (behind_if at e ∷ fs) rest
        (stmt_run s w.2 xs y.1 (behind_if at e ∷ fs) (suc d) _ rest (inl w.1) k (λ rest k.
        after_at xs (behind_if at e ∷ fs) s _ _ rest k (λ u rest m k.
        from_starts r types G xs (behind_else at e s ∷ fs) rest
        (stmt_run t w.3 xs y.2 (behind_else at e s ∷ fs) (suc d) ps rest a k (λ rest k. passes_else at e s xs fs t rest (c rest k)))))))))
    stmt_run (while_loop at e s) w xs y fs d ps ts a h c =
        starts_at xs fs _ _ ts h (λ t rest m k.
        subst (λ z. F (state xs fs (at_parenthesis (to_repeat z))) rest) (sym m.place)
        (condition_run e w.0 xs y.0 fs (to_repeat at) (suc (suc d)) (suc d) (suc d) _ rest refl k (λ rest k.
        from_starts r types G xs (behind_while at e ∷ fs) rest
        (stmt_run s w.1 xs y.1 (behind_while at e ∷ fs) (suc d) ps rest a k (λ rest k. passes_while at e xs fs s rest (c rest k))))))
    stmt_run (do_loop at s e) w xs y fs d ps ts a h c =
        starts_at xs fs _ _ ts h (λ t rest m k.
        subst (λ z. F (state xs (behind_do z ∷ fs) at_statement) rest) (sym m.place)
        (from_starts r types G xs (behind_do at ∷ fs) rest
        (stmt_run s w.0 xs y.0 (behind_do at ∷ fs) (suc d) _ rest (inr refl) k (λ rest k.
        after_at xs (behind_do at ∷ fs) s _ _ rest k (λ u rest m k.
        condition_run e w.1 xs y.1 fs (to_repeat_behind at s) (suc (suc d)) (suc d) (suc d) _ rest refl k (λ rest k.
        end_run (do_loop at s e) xs fs (suc d) ps rest k c))))))
    stmt_run (for_loop at x y z s) w xs v fs d ps ts a h c =
        starts_at xs fs _ _ ts h (λ t rest m k.
        subst (λ q. F (state xs fs (at_parenthesis (to_start q))) rest) (sym m.place)
        (token r types G xs fs (at_parenthesis (to_start at)) _ _ rest refl k (λ t rest m k.
        optional_run r types G x w.0 xs v.0 fs (to_start at) (suc d) mark.Semicolon (suc d) _ rest refl refl refl k (λ rest k.
        optional_run r types G y w.1 xs v.1 fs (to_go_on at x) (suc d) mark.Semicolon (suc d) _ rest refl refl refl k (λ rest k.
        optional_run r types G z w.2 xs v.2 fs (to_step at x y) (suc d) mark.CloseParenthesis (suc d) _ rest refl refl refl k (λ rest k.
        from_starts r types G xs (behind_for at x y z ∷ fs) rest
        (stmt_run s w.3 xs v.3 (behind_for at x y z ∷ fs) (suc d) ps rest a k (λ rest k. passes_for at x y z xs fs s rest (c rest k)))))))))
    stmt_run (switch at e es) w xs y fs d ps ts a h c =
        starts_at xs fs _ _ ts h (λ t rest m k.
        subst (λ z. F (state xs fs (at_parenthesis (to_switch z))) rest) (sym m.place)
        (condition_run e w.0 xs y.0 fs (to_switch at) (suc (suc d)) (suc d) (suc d) _ rest refl k (λ rest k.
        token r types G xs fs (at_brace at e) _ _ rest refl k (λ t rest m k.
        from_starts r types G xs (in_switch at e [] ∷ fs) rest
        (entries_run es w.1 xs y.1 at e [] fs (suc d) (suc d) ps rest k (λ rest k.
        from_after r types G xs fs (switch at e (entries_of (entry_list es))) rest
        (subst (λ z. After r types G xs fs (switch at e z) rest) (sym (entries_back es)) (c rest k))))))))
    stmt_run (break at) w xs y fs d ps ts a h c =
        starts_at xs fs _ _ ts h (λ t rest m k. subst (λ z. F (state xs fs (at_end (break z))) rest) (sym m.place) (end_run (break at) xs fs (suc d) ps rest k c))
    stmt_run (continue at) w xs y fs d ps ts a h c =
        starts_at xs fs _ _ ts h (λ t rest m k. subst (λ z. F (state xs fs (at_end (continue z))) rest) (sym m.place) (end_run (continue at) xs fs (suc d) ps rest k c))
    stmt_run (give at e) w xs y fs d ps ts a h c =
        starts_at xs fs _ _ ts h (λ t rest m k.
        subst (λ z. F (state xs fs (at_value (to_give z))) rest) (sym m.place)
        (optional_run r types G e w xs y fs (to_give at) (suc d) mark.Semicolon (suc d) ps rest refl refl refl k (λ rest k. from_after r types G xs fs (give at e) rest (c rest k))))
    stmt_run (block at ds ss) w xs y fs d ps ts a h c =
        starts_at xs fs _ _ ts h (λ t rest m k.
        subst (λ z. F (state xs (in_block z [] [] ∷ fs) at_first) rest) (sym m.place)
        (block_run ds ss w.0 xs y.0 y.1 (of_block at) fs (suc (suc d)) (suc (suc d)) ps rest k (λ rest k.
        stmts_run ss w.1 xs y.2 (of_block at) ds [] fs (suc (suc d)) (suc (suc d)) ps rest k (λ rest k.
        from_after r types G xs fs (block at ds (stmts_of (stmt_list ss))) rest
        (subst (λ z. After r types G xs fs (block at ds z) rest) (sym (stmts_back ss)) (c rest k))))))

    pub stmts_run : (ss : Stmts) → AreStmts ss → (xs : List Item) → ReadsStmts types ss → (o : Outer) (ds : List Declaration) (acc : List Stmt) (fs : List Frame) (d u : ℕ) (ps : List Piece) (ts : List Spelled)
        → AreMatched ts (stmts_pieces ss d (mark_piece true mark.CloseBrace u ∷ ps)) → ((rest : List Spelled) → AreMatched rest ps → F (closed xs (hold o ds (acc ++ stmt_list ss) ∷ fs)) rest) → Starts r types G xs (hold o ds acc ∷ fs) ts
    stmts_run no_stmts w xs y o ds acc fs d u ps ts h c =
        starts_at xs (hold o ds acc ∷ fs) _ ps ts h (λ t rest m k. subst (λ z. F (closed xs (hold o ds z ∷ fs)) rest) (append_nothing acc) (c rest k))
    stmts_run (with_stmt s ss) w xs y o ds acc fs d u ps ts h c =
        stmt_run s w.0 xs y.0 (hold o ds acc ∷ fs) d _ ts (inr (stmts_first ss d _ refl)) h (λ rest k.
        in_outer o ds acc xs fs s rest
        (stmts_run ss w.1 xs y.1 o ds (acc ++ s ∷ []) fs d u ps rest k (λ rest k.
        subst (λ z. F (closed xs (hold o ds z ∷ fs)) rest) (sym (append_one acc s (stmt_list ss))) (c rest k))))

    entries_run : (es : SwitchEntries) → AreSwitchEntries es → (xs : List Item) → ReadsEntriesOf types es → (at : ℕ) (e : Expr) (acc : List SwitchEntry) (fs : List Frame) (d u : ℕ) (ps : List Piece) (ts : List Spelled)
        → AreMatched ts (switch_pieces es d (mark_piece true mark.CloseBrace u ∷ ps)) → ((rest : List Spelled) → AreMatched rest ps → F (closed xs (in_switch at e (acc ++ entry_list es) ∷ fs)) rest) → Starts r types G xs (in_switch at e acc ∷ fs) ts
    entries_run no_entries w xs y at e acc fs d u ps ts h c =
        starts_at xs (in_switch at e acc ∷ fs) _ ps ts h (λ t rest m k. subst (λ z. F (closed xs (in_switch at e z ∷ fs)) rest) (append_nothing acc) (c rest k))
    entries_run (with_entry (case j x) es) w xs y at e acc fs d u ps ts h c =
        starts_at xs (in_switch at e acc ∷ fs) _ _ ts h (λ t rest m k.
        subst (λ z. F (state xs (in_switch at e acc ∷ fs) (at_value (to_label z))) rest) (sym m.place)
        (at_a_value r types G xs (in_switch at e acc ∷ fs) (to_label j) true rest refl (led Opening _ rest (expr_first true x d _) k)
        (label_run r types G x (cond_assign x w.0.0) w.0.1 xs y.0 (in_switch at e acc ∷ fs) (to_label j) d mark.Colon d _ rest refl k (λ rest k.
        from_starts r types G xs (in_switch at e (acc ++ case j x ∷ []) ∷ fs) rest
        (entries_run es w.1 xs y.1 at e (acc ++ case j x ∷ []) fs d u ps rest k (λ rest k.
        subst (λ z. F (closed xs (in_switch at e z ∷ fs)) rest) (sym (append_one acc (case j x) (entry_list es))) (c rest k)))))))
    entries_run (with_entry (default j) es) w xs y at e acc fs d u ps ts h c =
        starts_at xs (in_switch at e acc ∷ fs) _ _ ts h (λ t rest m k.
        subst (λ z. F (state xs (in_switch at e acc ∷ fs) (at_colon z)) rest) (sym m.place)
        (token r types G xs (in_switch at e acc ∷ fs) (at_colon j) _ _ rest refl k (λ t rest m k.
        from_starts r types G xs (in_switch at e (acc ++ default j ∷ []) ∷ fs) rest
        (entries_run es w.1 xs y.1 at e (acc ++ default j ∷ []) fs d u ps rest k (λ rest k.
        subst (λ z. F (closed xs (in_switch at e z ∷ fs)) rest) (sym (append_one acc (default j) (entry_list es))) (c rest k))))))
    entries_run (with_entry (stmt s) es) w xs y at e acc fs d u ps ts h c =
        stmt_run s w.0 xs y.0 (in_switch at e acc ∷ fs) d _ ts (inr (entries_first es d _ refl)) h (λ rest k.
        in_a_switch at e acc xs fs s rest
        (entries_run es w.1 xs y.1 at e (acc ++ stmt s ∷ []) fs d u ps rest k (λ rest k.
        subst (λ z. F (closed xs (in_switch at e z ∷ fs)) rest) (sym (append_one acc (stmt s) (entry_list es))) (c rest k))))
