-- The builder's run over the declarations of a block, and the first token of its statements.
use Rattle.std.proofs.Common.{◌≡◌, ℕ, suc, Bool, true, false, ◌||◌, if◌then◌else◌, List, [], ◌∷◌, ◌++◌, Option, Some, None, refl, sym, ap, subst, ◌∙◌}
use Rattle.porch_tree.specs.declared.word.Keyword.TheVariants as key
use Rattle.porch_tree.specs.declared.word.Mark.TheVariants as mark
use Rattle.porch_tree.specs.declared.word.Word.{Word}
use Rattle.porch_tree.specs.declared.word.Word.TheVariants as word
use Rattle.porch_tree.specs.Mirror.{Base, absent, present, Declarator, Declaration, Stmt, block, evaluate, choose, choose_else, while_loop, do_loop, for_loop, switch, break, continue, give, Stmts, no_stmts, with_stmt, Item}
use Rattle.porch_tree.specs.Pieces.{Spelled, Piece, mark as mark_piece, base_pieces, static_pieces, declaration_pieces, declarations_pieces, entries_pieces, stmts_pieces}
use Rattle.porch_tree.specs.Names.{ReadsBase, ReadsDeclarations, BeginsPlain}
use Rattle.porch_tree.specs.Formed.{IsBase, AreDeclarations}
use Rattle.porch_tree.specs.Grammar.{Matches, AreMatched}
use Rattle.porch_parts.specs.Parts.{begins}
use Rattle.porch_parts.specs.Starts.{Starts as Begins}
use Rattle.porch_declarations.specs.Declarations as declarations
use Rattle.porch_declarations.specs.Declarations.{at_start, over, headed, is_static, is_over, Leads as Declares}
use Rattle.porch_unit.specs.Units.{Frame, in_body, in_block, at_first, in_declaration, State, state, first_step, statement_step, declared_on}
use Rattle.porch_unit.proofs.Firsts.{Opening, IsLed, led, expr_first}
use Rattle.porch_unit.proofs.Statements.{Readers, From, Starts}
use Rattle.porch_unit.proofs.Lists.{append_nothing, append_one}

-- what declarations and statements stand in: the block of a function, or another
pub data Outer : Type 0 where
  of_body : Declaration → Declarator → Outer
  of_block : (at : ℕ) → Outer

abbrev pub hold : Outer → List Declaration → List Stmt → Frame
hold (of_body h x) ds ss = in_body h x ds ss
hold (of_block at) ds ss = in_block at ds ss

-- a declaration begins with the first token, or none does
abbrev pub Declaring : List (List ℕ) → Bool → List Spelled → Type 0
Declaring types b [] = ⊥
Declaring types b (t ∷ ts) = begins types t.word t || is_static t.word ≡ b

either : (a b : Bool) → b ≡ true → a || b ≡ true
either true b h = refl
either false b h = h

neither : (a b : Bool) → a ≡ false → b ≡ false → a || b ≡ false
neither true b h k = cc
neither false b h k = k

base_begins : (types : List (List ℕ)) (ts : List Spelled) → Begins types true ts → Declaring types true ts
base_begins types [] h = absurd h
base_begins types (t ∷ ts) h = ap (λ z. z || is_static t.word) h

static_begins : (types : List (List ℕ)) (w : Word) (t : Spelled) → w ≡ word.Key key.Static → begins types w t || is_static w ≡ true
static_begins types w t h = either (begins types w t) (is_static w) (ap is_static h)

pub declaration_begins : (r : Readers) (types : List (List ℕ)) (i : Bool) (k : Option ℕ) (b : Base) → IsBase b → ReadsBase types b → (d : ℕ) (ps : List Piece) (ts : List Spelled)
    → AreMatched ts (static_pieces i k d (base_pieces i b d ps)) → Declaring types true ts
declaration_begins r types i None b w y d ps ts h = base_begins types ts (r.bases types i b w y d ps ts h)
declaration_begins r types i (Some at) b w y d ps [] h = absurd h
declaration_begins r types i (Some at) b w y d ps (t ∷ ts) h = static_begins types t.word t h.0.word

plain_begins : (types : List (List ℕ)) (ts : List Spelled) → Begins types false ts → IsLed Opening ts → Declaring types false ts
plain_begins types [] h l = absurd h
plain_begins types (t ∷ ts) h l = neither (begins types t.word t) (is_static t.word) h (l.no_static)

word_begins : (types : List (List ℕ)) (p : Piece) (ps : List Piece) (ts : List Spelled) → ((t : Spelled) → begins types p.word t || is_static p.word ≡ false) → AreMatched ts (p ∷ ps) → Declaring types false ts
word_begins types p ps [] c h = absurd h
word_begins types p ps (t ∷ ts) c h = subst (λ w. begins types w t || is_static w ≡ false) (sym h.0.word) (c t)

statements_begin : (r : Readers) (types : List (List ℕ)) (ss : Stmts) → BeginsPlain types ss → (d u : ℕ) (ps : List Piece) (ts : List Spelled) → AreMatched ts (stmts_pieces ss d (mark_piece true mark.CloseBrace u ∷ ps)) → Declaring types false ts
statements_begin r types no_stmts p d u ps ts h = word_begins types _ _ ts (λ t. refl) h
statements_begin r types (with_stmt (evaluate (present e)) ss) p d u ps ts h =
    plain_begins types ts (r.plains types true e p (suc (suc d)) _ ts h) (led Opening _ ts (expr_first true e (suc (suc d)) _) h)
statements_begin r types (with_stmt (evaluate absent) ss) p d u ps ts h = word_begins types _ _ ts (λ t. refl) h
statements_begin r types (with_stmt (block at ds xs) ss) p d u ps ts h = word_begins types _ _ ts (λ t. refl) h
statements_begin r types (with_stmt (choose at e s) ss) p d u ps ts h = word_begins types _ _ ts (λ t. refl) h
statements_begin r types (with_stmt (choose_else at e s t) ss) p d u ps ts h = word_begins types _ _ ts (λ t. refl) h
statements_begin r types (with_stmt (while_loop at e s) ss) p d u ps ts h = word_begins types _ _ ts (λ t. refl) h
statements_begin r types (with_stmt (do_loop at s e) ss) p d u ps ts h = word_begins types _ _ ts (λ t. refl) h
statements_begin r types (with_stmt (for_loop at a b c s) ss) p d u ps ts h = word_begins types _ _ ts (λ t. refl) h
statements_begin r types (with_stmt (switch at e xs) ss) p d u ps ts h = word_begins types _ _ ts (λ t. refl) h
statements_begin r types (with_stmt (break at) ss) p d u ps ts h = word_begins types _ _ ts (λ t. refl) h
statements_begin r types (with_stmt (continue at) ss) p d u ps ts h = word_begins types _ _ ts (λ t. refl) h
statements_begin r types (with_stmt (give at e) ss) p d u ps ts h = word_begins types _ _ ts (λ t. refl) h

not_over : (xs : List Item) (fs : List Frame) (s : declarations.State) → is_over s ≡ false → declared_on xs fs s ≡ state xs fs (in_declaration s)
not_over xs fs (over d) h = cc
not_over xs fs (headed b d) h = cc
not_over xs fs s h = refl

module _ (r : Readers) (types : List (List ℕ)) (G : State → Type 0) where
  abbrev F : State → List Spelled → Type 0
  F s ts = From r types G s ts

  through_declaration : (own : List Spelled) (xs : List Item) (fs : List Frame) (s : declarations.State) (x : Declaration) (rest : List Spelled) → Declares types s own (over x) → F (declared_on xs fs (over x)) rest → F (declared_on xs fs s) (own ++ rest)
  through_declaration [] xs fs s x rest h c = subst (λ z. F (declared_on xs fs z) rest) (sym h) c
  through_declaration (t ∷ own) xs fs s x rest h c =
      subst (λ z. F z (t ∷ (own ++ rest))) (sym (not_over xs fs s h.0)) (through_declaration own xs fs (declarations.step types s t) x rest h.1 c)

  first_declaration : (own : List Spelled) (xs : List Item) (fs : List Frame) (x : Declaration) (rest : List Spelled) → Declares types at_start own (over x) → Declaring types true (own ++ rest) → F (declared_on xs fs (over x)) rest → F (state xs fs at_first) (own ++ rest)
  first_declaration [] xs fs x rest h b c = cc
  first_declaration (t ∷ own) xs fs x rest h b c =
      subst (λ (z : Bool). F (if z then declared_on xs fs (declarations.step_at (begins types t.word t) at_start t.word t) else statement_step (begins types t.word t) xs fs t.word t) (own ++ rest)) (sym b)
      (through_declaration own xs fs (declarations.step types at_start t) x rest h.1 c)

  pub first_plain : (ss : Stmts) (xs : List Item) → BeginsPlain types ss → (fs : List Frame) (d u : ℕ) (ps : List Piece) (ts : List Spelled) → AreMatched ts (stmts_pieces ss d (mark_piece true mark.CloseBrace u ∷ ps)) → Starts r types G xs fs ts → F (state xs fs at_first) ts
  first_plain ss xs p fs d u ps ts h c = plain_from xs fs ts (statements_begin r types ss p d u ps ts h) c
    where
      plain_from : (xs : List Item) (fs : List Frame) (ts : List Spelled) → Declaring types false ts → Starts r types G xs fs ts → F (state xs fs at_first) ts
      plain_from xs fs [] b c = absurd c
      plain_from xs fs (t ∷ ts) b c =
          subst (λ (z : Bool). F (if z then declared_on xs fs (declarations.step_at (begins types t.word t) at_start t.word t) else statement_step (begins types t.word t) xs fs t.word t) ts) (sym b) c

  added : (o : Outer) (ds : List Declaration) (x : Declaration) (xs : List Item) (fs : List Frame) (ts : List Spelled) → F (state xs (hold o (ds ++ x ∷ []) [] ∷ fs) at_first) ts → F (declared_on xs (hold o ds [] ∷ fs) (over x)) ts
  added (of_body h z) ds x xs fs ts c = c
  added (of_block at) ds x xs fs ts c = c

  pub declarations_run : (ds : List Declaration) → AreDeclarations ds → (xs : List Item) → ReadsDeclarations types ds → (o : Outer) (acc : List Declaration) (fs : List Frame) (d : ℕ) (ps : List Piece) (ts : List Spelled)
      → AreMatched ts (declarations_pieces true ds d ps) → ((rest : List Spelled) → AreMatched rest ps → F (state xs (hold o (acc ++ ds) [] ∷ fs) at_first) rest) → F (state xs (hold o acc [] ∷ fs) at_first) ts
  declarations_run [] w xs y o acc fs d ps ts h c = subst (λ z. F (state xs (hold o z [] ∷ fs) at_first) ts) (append_nothing acc) (c ts h)
  declarations_run (x ∷ ds) w xs y o acc fs d ps ts h c =
      let q = r.declarations types true x w.0 y.0 d (declarations_pieces true ds d ps) ts h in
      subst (F (state xs (hold o acc [] ∷ fs) at_first)) (sym (q.split))
      (first_declaration (q.own) xs (hold o acc [] ∷ fs) x (q.rest) (q.leads)
      (subst (Declaring types true) (q.split) (declaration_begins r types true x.fixed x.base w.0.0 y.0.0 d _ ts h))
      (added o acc x xs fs (q.rest)
      (declarations_run ds w.1 xs y.1 o (acc ++ x ∷ []) fs d ps (q.rest) (q.matched) (λ rest k.
      subst (λ z. F (state xs (hold o z [] ∷ fs) at_first) rest) (sym (append_one acc x ds)) (c rest k)))))
