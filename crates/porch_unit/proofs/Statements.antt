-- The builder's run over the tokens of a statement, wherever one can stand, reaches it.
use Rattle.std.proofs.Common.{◌≡◌, ℕ, suc, Bool, true, false, not, if◌then◌else◌, List, [], ◌∷◌, ◌++◌, ◌⊎◌, inl, inr, refl, sym, ap, subst, ◌∙◌}
use Rattle.porch_tree.specs.declared.word.Keyword.TheVariants as key
use Rattle.porch_tree.specs.declared.word.Mark.{Mark}
use Rattle.porch_tree.specs.declared.word.Mark.TheVariants as mark
use Rattle.porch_tree.specs.declared.word.Word.{Word}
use Rattle.porch_tree.specs.declared.word.Word.TheVariants as word
use Rattle.porch_tree.specs.Mirror.{Expr, Perhaps, absent, present, Stmt, choose, Item}
use Rattle.porch_tree.specs.Pieces.{Spelled, Piece, mark as mark_piece, expr_pieces, optional_pieces}
use Rattle.porch_tree.specs.Names.{ReadsExpr, ReadsPerhaps}
use Rattle.porch_tree.specs.Formed.{IsExpr, IsAssign, IsCond, IsOptional}
use Rattle.porch_tree.specs.Grammar.{Matches, AreMatched}
use Rattle.porch_parse.specs.Building.{over as over_expr, Frame as expr_frame}
use Rattle.porch_parts.specs.Types.{Place, Point as part_point, over_type, over_declarator}
use Rattle.porch_parts.specs.Parts as parts
use Rattle.porch_parts.specs.Parts.{begins}
use Rattle.porch_parts.specs.Ends.{behind_expr, is_over, is_over_point, found_in, found_at, going, Ends, ends_whole, ends_single, WholesEnd, SinglesEnd}
use Rattle.porch_parts.specs.Starts.{BasesStart, PlainsStart}
use Rattle.porch_declarations.specs.Declarations.{DeclarationsPass, HeadsPass}
use Rattle.porch_unit.specs.Units.{Frame, behind_if, Purpose, to_evaluate, Point, at_statement, at_value, in_value, ended, State, state, given, value_on, value_step, reader_for, is_label, is_ending, is_else, lead_step, lead_of, statement_step, ended_step, ended_all, continued, begun_step, point_step, is_behind_typedef, with_last, learned, run}
use Rattle.porch_unit.proofs.Firsts.{Opening, IsLed, NoElse, led, expr_first}

-- where the reader of expressions ends
pub record Readers : Type 0 where
  pub wholes : WholesEnd
  pub singles : SinglesEnd
  pub bases : BasesStart
  pub plains : PlainsStart
  pub declarations : DeclarationsPass
  pub heads : HeadsPass

keeps_at : (fs : List expr_frame) (p : Place) (x : part_point) → is_over_point x ≡ false → found_at fs p x ≡ going (parts.in_type fs p)
keeps_at fs p (over_type y) h = cc
keeps_at fs p (over_declarator d) h = cc
keeps_at fs p x h = refl

keeps : (s : parts.State) → is_over s ≡ false → found_in s ≡ going s
keeps (parts.in_expr ps (over_expr fs e)) h = cc
keeps (parts.in_expr ps s) h = refl
keeps (parts.in_type fs p) h = keeps_at fs p p.point h

module _ (r : Readers) (types : List (List ℕ)) (G : State → Type 0) where
  -- What is read when the builder has come to this before these tokens.
  abbrev pub From : State → List Spelled → Type 0
  From s ts = G (run (learned types s) s ts)

  pub token : (xs : List Item) (fs : List Frame) (x : Point) (p : Piece) (ps : List Piece) (ts : List Spelled) → is_behind_typedef x ≡ false → AreMatched ts (p ∷ ps)
      → ((t : Spelled) (rest : List Spelled) → Matches t p → AreMatched rest ps → From (point_step (begins types p.word t) xs fs x p.word t) rest) → From (state xs fs x) ts
  token xs fs x p ps [] b h c = absurd h
  token xs fs x p ps (t ∷ ts) b h c =
      subst (λ (z : Bool). G (run (if z then with_last types xs else types) (state xs fs x) (t ∷ ts))) (sym b)
      (subst (λ w. From (point_step (begins types w t) xs fs x w t) ts) (sym h.0.word) (c t ts h.0 h.1))

  -- the next token is one of a value, begins a statement, or stands behind one
  abbrev pub Value : List Item → List Frame → Purpose → Bool → List Spelled → Type 0
  Value xs fs p single [] = ⊥
  Value xs fs p single (t ∷ ts) = From (value_step (begins types t.word t) xs fs p (reader_for single) t.word t) ts

  abbrev pub Starts : List Item → List Frame → List Spelled → Type 0
  Starts xs fs [] = ⊥
  Starts xs fs (t ∷ ts) = From (statement_step (begins types t.word t) xs fs t.word t) ts

  abbrev pub After : List Item → List Frame → Stmt → List Spelled → Type 0
  After xs fs s [] = ⊥
  After xs fs s (t ∷ ts) = From (ended_step (begins types t.word t) xs fs s t.word t) ts

  pub from_starts : (xs : List Item) (fs : List Frame) (ts : List Spelled) → Starts xs fs ts → From (state xs fs at_statement) ts
  from_starts xs fs [] c = absurd c
  from_starts xs fs (t ∷ ts) c = c

  pub from_after : (xs : List Item) (fs : List Frame) (s : Stmt) (ts : List Spelled) → After xs fs s ts → From (state xs fs (ended s)) ts
  from_after xs fs s [] c = absurd c
  from_after xs fs s (t ∷ ts) c = c

  -- Expressions.

  through_value : (own : List Spelled) (xs : List Item) (fs : List Frame) (p : Purpose) (s : parts.State) (last : Spelled) (e : Expr) (rest : List Spelled) → Ends types s own last (behind_expr e)
      → From (given xs fs p (present e)) rest → From (state xs fs (in_value p s)) (own ++ last ∷ rest)
  through_value [] xs fs p s last e rest h c = subst (λ z. From (value_on xs fs p (found_in z)) rest) (sym h) c
  through_value (t ∷ own) xs fs p s last e rest h c =
      subst (λ f. From (value_on xs fs p f) (own ++ last ∷ rest)) (sym (keeps (parts.step types s t) h.0))
      (through_value own xs fs p (parts.step types s t) last e rest h.1 c)

  first_value : (own : List Spelled) (xs : List Item) (fs : List Frame) (p : Purpose) (single : Bool) (last : Spelled) (e : Expr) (rest : List Spelled) → Ends types (reader_for single) own last (behind_expr e)
      → From (given xs fs p (present e)) rest → Value xs fs p single (own ++ last ∷ rest)
  first_value [] xs fs p single last e rest h c = subst (λ z. From (value_on xs fs p (found_in z)) rest) (sym h) c
  first_value (t ∷ own) xs fs p single last e rest h c =
      subst (λ f. From (value_on xs fs p f) (own ++ last ∷ rest)) (sym (keeps (parts.step types (reader_for single) t) h.0))
      (through_value own xs fs p (parts.step types (reader_for single) t) last e rest h.1 c)

  pub whole_run : (e : Expr) → IsExpr e → (xs : List Item) → ReadsExpr types e true → (fs : List Frame) (p : Purpose) (d : ℕ) (m : Mark) (u : ℕ) (ps : List Piece) (ts : List Spelled) → ends_whole m ≡ true
      → AreMatched ts (expr_pieces true e d (mark_piece true m u ∷ ps)) → ((rest : List Spelled) → AreMatched rest ps → From (given xs fs p (present e)) rest) → Value xs fs p false ts
  whole_run e w xs y fs p d m u ps ts g h c =
      let o = r.wholes types true e w y d (mark_piece true m u) ps ts m refl g h in
      subst (Value xs fs p false) (sym (o.split)) (first_value (o.own) xs fs p false (o.last) e (o.rest) (o.ends) (c (o.rest) (o.matched)))

  pub label_run : (e : Expr) → IsAssign e → IsExpr e → (xs : List Item) → ReadsExpr types e true → (fs : List Frame) (p : Purpose) (d : ℕ) (m : Mark) (u : ℕ) (ps : List Piece) (ts : List Spelled) → ends_single m ≡ true
      → AreMatched ts (expr_pieces true e d (mark_piece true m u ∷ ps)) → ((rest : List Spelled) → AreMatched rest ps → From (given xs fs p (present e)) rest) → Value xs fs p true ts
  label_run e a w xs y fs p d m u ps ts g h c =
      let o = r.singles types true e a w y d (mark_piece true m u) ps ts m refl g h in
      subst (Value xs fs p true) (sym (o.split)) (first_value (o.own) xs fs p true (o.last) e (o.rest) (o.ends) (c (o.rest) (o.matched)))

  pub at_a_value : (xs : List Item) (fs : List Frame) (p : Purpose) (single : Bool) (ts : List Spelled) → is_label p ≡ single → IsLed Opening ts → Value xs fs p single ts → From (state xs fs (at_value p)) ts
  at_a_value xs fs p single [] q l c = absurd l
  at_a_value xs fs p single (t ∷ ts) q l c =
      subst (λ (z : Bool). From (if z then given xs fs p absent else value_step (begins types t.word t) xs fs p (reader_for (is_label p)) t.word t) ts) (sym (l.goes))
      (subst (λ z. From (value_step (begins types t.word t) xs fs p (reader_for z) t.word t) ts) (sym q) c)

  pub starts_value : (xs : List Item) (fs : List Frame) (ts : List Spelled) → IsLed Opening ts → Value xs fs to_evaluate false ts → Starts xs fs ts
  starts_value xs fs [] l c = absurd l
  starts_value xs fs (t ∷ ts) l c = subst (λ z. From (lead_step (begins types t.word t) xs fs z t.word t) ts) (sym (l.leads)) c

  -- an expression in front of a `)` or `;`, or none
  pub value_run : (e : Expr) → IsExpr e → (xs : List Item) → ReadsExpr types e true → (fs : List Frame) (p : Purpose) (d : ℕ) (m : Mark) (u : ℕ) (ps : List Piece) (ts : List Spelled) → is_label p ≡ false → ends_whole m ≡ true
      → AreMatched ts (expr_pieces true e d (mark_piece true m u ∷ ps)) → ((rest : List Spelled) → AreMatched rest ps → From (given xs fs p (present e)) rest) → From (state xs fs (at_value p)) ts
  value_run e w xs y fs p d m u ps ts q g h c =
      at_a_value xs fs p false ts q (led Opening _ ts (expr_first true e d (mark_piece true m u ∷ ps)) h) (whole_run e w xs y fs p d m u ps ts g h c)

  pub optional_run : (e : Perhaps) → IsOptional e → (xs : List Item) → ReadsPerhaps types e → (fs : List Frame) (p : Purpose) (d : ℕ) (m : Mark) (u : ℕ) (ps : List Piece) (ts : List Spelled) → is_label p ≡ false → ends_whole m ≡ true → is_ending (word.Mark m) ≡ true
      → AreMatched ts (optional_pieces true e d (mark_piece true m u ∷ ps)) → ((rest : List Spelled) → AreMatched rest ps → From (given xs fs p e) rest) → From (state xs fs (at_value p)) ts
  optional_run absent w xs y fs p d m u ps ts q g z h c =
      token xs fs (at_value p) _ ps ts refl h (λ t rest v k.
      subst (λ (b : Bool). From (if b then given xs fs p absent else value_step (begins types (word.Mark m) t) xs fs p (reader_for (is_label p)) (word.Mark m) t) rest) (sym z) (c rest k))
  optional_run (present e) w xs y fs p d m u ps ts q g z h c = value_run e w xs y fs p (suc d) m u ps ts q g h c

  -- An `if` without `else` ends in front of another word.
  pub no_else_behind : (xs : List Item) (at : ℕ) (e : Expr) (fs : List Frame) (s : Stmt) (ts : List Spelled) → IsLed NoElse ts → After xs fs (choose at e s) ts → After xs (behind_if at e ∷ fs) s ts
  no_else_behind xs at e fs s [] l c = absurd l
  no_else_behind xs at e fs s (t ∷ ts) l c =
      subst (λ (o : Bool). From (continued (begins types t.word t) xs (ended_all o (behind_if at e ∷ fs) s).frames (ended_all o (behind_if at e ∷ fs) s).value t.word t) ts) (sym l)
      (subst (λ (o : Bool). From (continued (begins types t.word t) xs (ended_all o fs (choose at e s)).frames (ended_all o fs (choose at e s)).value t.word t) ts) l c)
