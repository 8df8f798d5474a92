-- Each piece of a unit is taken where the walk is in a block or not, as the piece says. A part that runs
-- alike whatever is pending behind it never comes to what is pending there.
use Rattle.std.proofs.Common.{◌≡◌, ℕ, suc, inl, inr, Bool, true, false, if◌then◌else◌, List, [], ◌∷◌, ◌++◌, Option, Some, None, refl, sym, ap, subst, ◌∙◌}
use Rattle.porch_tree.specs.declared.word.Keyword.TheVariants as key
use Rattle.porch_tree.specs.declared.word.Mark.TheVariants as mark
use Rattle.porch_tree.specs.declared.word.Word.{Word}
use Rattle.porch_tree.specs.declared.word.Word.TheVariants as word
use Rattle.porch_tree.specs.Mirror.{Base, Declarator, Initial, Entry, Declaration, Stmts, typedef, declaration, function, TranslationUnit}
use Rattle.porch_tree.specs.Pieces.{Piece, mark as mark_piece, base_pieces, declarator_pieces, begun_pieces, more_entries_pieces, entries_pieces, static_pieces, declarations_pieces, stmts_pieces, unit_pieces}
use Rattle.porch_tree.specs.Formed.{IsStart, AreEntries, AreDeclarations, IsBase, IsDeclarator, AreStmts, AreItems}
use Rattle.porch_tree.specs.Names.{ReadsStart, ReadsEntries, ReadsDeclarations, ReadsBase, ReadsDeclarator, ReadsStmts, BeginsPlain, ReadsNames, name_in}
use Rattle.porch_walk.specs.declared.symbol.Naming.{Naming}
use Rattle.porch_walk.specs.declared.symbol.Naming.TheVariants as naming
use Rattle.porch_walk.specs.declared.symbol.Symbol.{Symbol}
use Rattle.porch_walk.specs.declared.symbol.Symbol.TheVariants.{Must, Base as Base_to_come, Declarator as Declarator_to_come, Entry as Entry_to_come, FileEntries, FirstEntry, EndTypedef, Body}
use Rattle.porch_walk.specs.Walk.{Stage, step, run_from, is, is_key, heard, behind}
use Rattle.porch_walk.proofs.Words.{same, itself}
use Rattle.porch_walk.proofs.Meaning.{IsNamed, fresh_of}
use Rattle.porch_walk.proofs.Passes.{over, Heads, leaves, behind_base, starts, begins_base, differs, at}
use Rattle.porch_walk.proofs.Accepts.{base_run, declarator_run, base_first, declared_behind, must_tokens, declarator_first}
use Rattle.porch_walk.proofs.Units.{entries_behind, begun_leaves, begun_run, more_entries_run, body_run, body_first, stmts_run}
use Rattle.porch_walk.proofs.Expressions.{never}
use Rattle.porch_walk.proofs.First.{no_stage, same_stage}
use Rattle.porch_walk.proofs.Frames.{inner, Framed, nothing, front, left_out, framed}
use Rattle.porch_walk.proofs.Fronts.{AreIn, chain, one, none, base_front, declarator_front, begun_front, more_entries_front, body_front}

abbrev pub agree_on : Option Stage → (Stage → Type 0) → Type 0
agree_on None F = Unit {0}
agree_on (Some n) F = F n

abbrev pub Agree : Stage → List Piece → Type 0
Agree s [] = Unit {0}
Agree s (p ∷ ps) = (s.inside ≡ p.inside) × agree_on (step s p.word p.bytes) (λ n. Agree n ps)

append_none : (ps : List Piece) → ps ++ [] ≡ ps
append_none [] = refl
append_none (p ∷ ps) = ap (λ qs. p ∷ qs) (append_none ps)

no_append : (zs : List Symbol) (s : Symbol) → zs ++ (s ∷ []) ≡ [] → ⊥
no_append [] s h = cc
no_append (z ∷ zs) s h = cc

on_from : (o : Option Stage) (ws qs : List Piece) → ((n : Stage) → over n (ws ++ qs) ≡ run_from (over n ws) (λ m. over m qs))
    → run_from o (λ n. over n (ws ++ qs)) ≡ run_from (run_from o (λ n. over n ws)) (λ m. over m qs)
on_from None ws qs f = refl
on_from (Some n) ws qs f = f n

over_on : (ws qs : List Piece) (s : Stage) → over s (ws ++ qs) ≡ run_from (over s ws) (λ m. over m qs)
over_on [] qs s = refl
over_on (w ∷ ws) qs s = on_from (step s w.word w.bytes) ws qs (over_on ws qs)

-- two words that may stand behind a part, and what awaits them
abbrev ending : Bool → Word
ending true = word.Mark mark.CloseParenthesis
ending false = word.Mark mark.Semicolon

abbrev ender : Bool → Piece
ender b = record { word = ending b; at = None; bytes = []; uses = 0; inside = true }

two_words : (w : Word) → is w (ending true) ≡ true → is w (ending false) ≡ true → ⊥
two_words w g h =
    let e : word.Mark mark.CloseParenthesis ≡ word.Mark mark.Semicolon = sym (same w (ending true) g) ∙ same w (ending false) h in
    cc

must_be : (c : Bool) (s l : Stage) (go : Stage → Option Stage) → run_from (if c then Some s else None) go ≡ Some l → c ≡ true
must_be true s l go e = refl
must_be false s l go e = absurd (no_stage l e)

must_go : (c : Bool) (s l : Stage) (go : Stage → Option Stage) → run_from (if c then Some s else None) go ≡ Some l → go s ≡ Some l
must_go true s l go e = e
must_go false s l go e = absurd (no_stage l e)

module _ (i : Bool) (tail : Bool → List Symbol) (more : Bool → List Piece)
    (clash : (types : List (List ℕ)) (f : List ℕ) (q : Piece) (ws : List Piece) (l : Bool → Stage) → ((b : Bool) → over (at types i f (tail b)) (q ∷ (ws ++ more b)) ≡ Some (l b)) → ⊥) where
  -- a run over a part does the same whatever is pending behind it
  record Uniform (types : List (List ℕ)) (f : List ℕ) (xs : List Symbol) (ws : List Piece) : Type 0 where
    names : List (List ℕ)
    fresh : List ℕ
    still : List Symbol
    is_inner : inner still ≡ true
    reaches : (ss : List Symbol) → over (at types i f (xs ++ ss)) ws ≡ Some (at names i fresh (still ++ ss))
    agrees : (ss : List Symbol) (qs : List Piece) → Agree (at names i fresh (still ++ ss)) qs → Agree (at types i f (xs ++ ss)) (ws ++ qs)

  next : (q : Piece) (ws : List Piece) → q.inside ≡ i → (types : List (List ℕ)) (f : List ℕ) (xs : List Symbol) (l : Bool → Stage) → ((b : Bool) → over (at types i f (xs ++ tail b)) (q ∷ (ws ++ more b)) ≡ Some (l b))
      → ((ns : List (List ℕ)) (g : List ℕ) (ys : List Symbol) → inner ys ≡ true → ((b : Bool) → over (at ns i g (ys ++ tail b)) (ws ++ more b) ≡ Some (l b)) → Uniform ns g ys ws)
      → Framed types f i (heard q.word q.bytes) true (λ ss. behind types f i (xs ++ ss) (heard q.word q.bytes)) → Uniform types f xs (q ∷ ws)
  next q ws a types f xs l e rest (nothing k) = absurd (no_stage (l true) (ap (λ o. run_from o (λ n. over n (ws ++ more true))) (sym (k (tail true))) ∙ e true))
  next q ws a types f xs l e rest (front ns g ys k j) =
      let u = rest ns g ys k (λ b. ap (λ o. run_from o (λ n. over n (ws ++ more b))) (sym (j (tail b))) ∙ e b) in
      record {
        names = u.names;
        fresh = u.fresh;
        still = u.still;
        is_inner = u.is_inner;
        reaches = λ ss. ap (λ o. run_from o (λ n. over n ws)) (j ss) ∙ u.reaches ss;
        agrees = λ ss qs m. (sym a, subst (λ o. agree_on o (λ n. Agree n (ws ++ qs))) (sym (j ss)) (u.agrees ss qs m));
      }
  next q ws a types f xs l e rest (left_out c j) = absurd (clash types f q ws l (λ b. ap (λ o. run_from o (λ n. over n (ws ++ more b))) (sym (j (tail b))) ∙ e b))

  uniform : (ws : List Piece) → AreIn i ws → (types : List (List ℕ)) (f : List ℕ) (xs : List Symbol) → inner xs ≡ true → (l : Bool → Stage) → ((b : Bool) → over (at types i f (xs ++ tail b)) (ws ++ more b) ≡ Some (l b)) → Uniform types f xs ws
  uniform [] a types f xs h l e = record { names = types; fresh = f; still = xs; is_inner = h; reaches = λ ss. refl; agrees = λ ss qs k. k }
  uniform (q ∷ ws) a types f xs h l e =
      next q ws a.0 types f xs l e (λ ns g ys k d. uniform ws a.1 ns g ys k l d) (framed types f i (heard q.word q.bytes) xs h)

-- a part that ends by itself

ends_there : (i : Bool) (types : List (List ℕ)) (f : List ℕ) (b : Bool) → over (at types i f (Must (ending b) ∷ [])) (ender b ∷ []) ≡ Some (at types i f [])
ends_there i types f true = refl
ends_there i types f false = refl

no_ender : (i : Bool) (types : List (List ℕ)) (f : List ℕ) (q : Piece) (ws : List Piece) (l : Bool → Stage) → ((b : Bool) → over (at types i f (Must (ending b) ∷ [])) (q ∷ (ws ++ (ender b ∷ []))) ≡ Some (l b)) → ⊥
no_ender i types f q ws l e =
    two_words q.word (must_be (is q.word (ending true)) (at types i f []) (l true) (λ n. over n (ws ++ (ender true ∷ []))) (e true))
    (must_be (is q.word (ending false)) (at types i f []) (l false) (λ n. over n (ws ++ (ender false ∷ []))) (e false))

whole_part : (i : Bool) (ws : List Piece) → AreIn i ws → (types to : List (List ℕ)) (f g : List ℕ) (xs : List Symbol) → inner xs ≡ true
    → ((ss : List Symbol) (ps : List Piece) → over (at types i f (xs ++ ss)) (ws ++ ps) ≡ over (at to i g ss) ps) → (ss : List Symbol) (ps : List Piece) → Agree (at to i g ss) ps → Agree (at types i f (xs ++ ss)) (ws ++ ps)
whole_part i ws a types to f g xs h r ss ps k =
    let u = uniform i (λ b. Must (ending b) ∷ []) (λ b. ender b ∷ []) (no_ender i) ws a types f xs h (λ b. at to i g []) (λ b. r (Must (ending b) ∷ []) (ender b ∷ []) ∙ ends_there i to g b) in
    u.agrees ss ps
    (subst (λ s. Agree s ps) (same_stage (at to i g ss) (at (u.names) i (u.fresh) (u.still ++ ss)) (sym (r ss []) ∙ ap (over (at types i f (xs ++ ss))) (append_none ws) ∙ u.reaches ss)) k)

-- a part that ends where a piece comes that isn't its own

module _ (i : Bool) (p : Piece) where
  comes_there : (types : List (List ℕ)) (f : List ℕ) (b : Bool) → over (at types i f (Must p.word ∷ Must (ending b) ∷ [])) (p ∷ ender b ∷ []) ≡ Some (at types i f [])
  comes_there types f b =
      ap (λ (c : Bool). run_from (if c then Some (at types i f (Must (ending b) ∷ [])) else None) (λ n. over n (ender b ∷ []))) (itself p.word) ∙ ends_there i types f b

  no_second : (types : List (List ℕ)) (f : List ℕ) (ws : List Piece) (l : Bool → Stage) → ((b : Bool) → over (at types i f (Must (ending b) ∷ [])) (ws ++ (p ∷ ender b ∷ [])) ≡ Some (l b)) → ⊥
  no_second types f [] l e =
      two_words p.word (must_be (is p.word (ending true)) (at types i f []) (l true) (λ n. over n (ender true ∷ [])) (e true))
      (must_be (is p.word (ending false)) (at types i f []) (l false) (λ n. over n (ender false ∷ [])) (e false))
  no_second types f (w ∷ ws) l e =
      two_words w.word (must_be (is w.word (ending true)) (at types i f []) (l true) (λ n. over n (ws ++ (p ∷ ender true ∷ []))) (e true))
      (must_be (is w.word (ending false)) (at types i f []) (l false) (λ n. over n (ws ++ (p ∷ ender false ∷ []))) (e false))

  no_coming : (types : List (List ℕ)) (f : List ℕ) (q : Piece) (ws : List Piece) (l : Bool → Stage) → ((b : Bool) → over (at types i f (Must p.word ∷ Must (ending b) ∷ [])) (q ∷ (ws ++ (p ∷ ender b ∷ []))) ≡ Some (l b)) → ⊥
  no_coming types f q ws l e = no_second types f ws l (λ b. must_go (is q.word p.word) (at types i f (Must (ending b) ∷ [])) (l b) (λ n. over n (ws ++ (p ∷ ender b ∷ []))) (e b))

  one_there : (types : List (List ℕ)) (f : List ℕ) → over (at types i f (Must p.word ∷ [])) (p ∷ []) ≡ Some (at types i f [])
  one_there types f = ap (λ (c : Bool). run_from (if c then Some (at types i f []) else None) (λ n. Some n)) (itself p.word)

  -- what is still pending of a part is left out
  leave : (types to : List (List ℕ)) (f g : List ℕ) (ys : List Symbol) → ((ss : List Symbol) (ps : List Piece) → over (at types i f (ys ++ ss)) (p ∷ ps) ≡ over (at to i g ss) (p ∷ ps))
      → Framed types f i (heard p.word p.bytes) true (λ ss. behind types f i (ys ++ ss) (heard p.word p.bytes)) → (ss : List Symbol) (ps : List Piece) → Agree (at to i g ss) (p ∷ ps) → Agree (at types i f (ys ++ ss)) (p ∷ ps)
  leave types to f g ys e (nothing k) ss ps h =
      absurd (no_stage (at to i g []) (ap (λ o. run_from o (λ n. Some n)) (sym (k (Must p.word ∷ []))) ∙ e (Must p.word ∷ []) [] ∙ one_there to g))
  leave types to f g ys e (front ns b zs k j) ss ps h =
      absurd (no_append zs (Must p.word) (ap (λ s. s.pending)
      (same_stage (at ns i b (zs ++ (Must p.word ∷ []))) (at to i g []) (ap (λ o. run_from o (λ n. Some n)) (sym (j (Must p.word ∷ []))) ∙ e (Must p.word ∷ []) [] ∙ one_there to g))))
  leave types to f g ys e (left_out c j) ss ps h =
      let d : at types i f [] ≡ at to i g [] =
      same_stage (at types i f []) (at to i g []) (sym (one_there types f) ∙ ap (λ o. run_from o (λ n. Some n)) (sym (j (Must p.word ∷ []))) ∙ e (Must p.word ∷ []) [] ∙ one_there to g) in
      (h.0, subst (λ o. agree_on o (λ n. Agree n ps)) (sym (j ss)) (subst (λ s. agree_on (behind s.types s.fresh i ss (heard p.word p.bytes)) (λ n. Agree n ps)) (sym d) h.1))

  part_before : (ws : List Piece) → AreIn i ws → (types to : List (List ℕ)) (f g : List ℕ) (xs : List Symbol) → inner xs ≡ true
      → ((ss : List Symbol) (ps : List Piece) → over (at types i f (xs ++ ss)) (ws ++ (p ∷ ps)) ≡ over (at to i g ss) (p ∷ ps)) → (ss : List Symbol) (ps : List Piece) → Agree (at to i g ss) (p ∷ ps) → Agree (at types i f (xs ++ ss)) (ws ++ (p ∷ ps))
  part_before ws a types to f g xs h r ss ps k =
      let u = uniform i (λ b. Must p.word ∷ Must (ending b) ∷ []) (λ b. p ∷ ender b ∷ []) no_coming ws a types f xs h (λ b. at to i g []) (λ b. r (Must p.word ∷ Must (ending b) ∷ []) (ender b ∷ []) ∙ comes_there to g b) in
      u.agrees ss (p ∷ ps)
      (leave (u.names) to (u.fresh) g (u.still)
      (λ rs qs. sym (ap (λ o. run_from o (λ n. over n (p ∷ qs))) (u.reaches rs)) ∙ sym (over_on ws (p ∷ qs) (at types i f (xs ++ rs))) ∙ r rs qs)
      (framed (u.names) (u.fresh) i (heard p.word p.bytes) (u.still) (u.is_inner)) ss ps k)

-- parts of a unit

skip : (b : Bool) (x y : Option Stage) (F : Stage → Type 0) → b ≡ false → agree_on y F → agree_on (if b then x else y) F
skip true x y F h k = absurd (never h)
skip false x y F h k = k

module _ (types : List (List ℕ)) (i : Bool) where
  base_agrees : (b : Base) → IsBase b → ReadsBase types b → (f : List ℕ) (ss : List Symbol) (d : ℕ) (qs : List Piece) → Heads behind_base qs → Agree (at types i f ss) qs → Agree (at types i f (Base_to_come ∷ ss)) (base_pieces i b d qs)
  base_agrees b g r f ss d [] h k = absurd h
  base_agrees b g r f ss d (p ∷ ps) h k =
      let w = base_front i b d in
      subst (Agree (at types i f (Base_to_come ∷ ss))) (sym (w.split (p ∷ ps)))
      (part_before i p (w.own) (w.are_in) types types f f (Base_to_come ∷ []) refl
      (λ rs qs. ap (over (at types i f (Base_to_come ∷ rs))) (sym (w.split (p ∷ qs))) ∙ base_run types i b g r f rs d (p ∷ qs) h) ss ps k)

  declarator_agrees : (n : Naming) (x : Declarator) → IsNamed n x → ReadsDeclarator types x → (f : List ℕ) (ss : List Symbol) (d : ℕ) (qs : List Piece) → Heads leaves qs
      → Agree (at types i (fresh_of n f x) ss) qs → Agree (at types i f (Declarator_to_come n ∷ ss)) (declarator_pieces i x d qs)
  declarator_agrees n x g r f ss d [] h k = absurd h
  declarator_agrees n x g r f ss d (p ∷ ps) h k =
      let w = declarator_front i x d in
      subst (Agree (at types i f (Declarator_to_come n ∷ ss))) (sym (w.split (p ∷ ps)))
      (part_before i p (w.own) (w.are_in) types types f (fresh_of n f x) (Declarator_to_come n ∷ []) refl
      (λ rs qs. ap (over (at types i f (Declarator_to_come n ∷ rs))) (sym (w.split (p ∷ qs))) ∙ declarator_run types i n x g r f rs d (p ∷ qs) h) ss ps k)

  start_agrees : (s : Option Initial) (es : List Entry) → IsStart s → ReadsStart types s → AreEntries es → ReadsEntries types es → (f : List ℕ) (ss : List Symbol) (d : ℕ) (ps : List Piece)
      → Agree (at types i f ss) ps → Agree (at types i f (Entry_to_come ∷ ss)) (begun_pieces i s d (more_entries_pieces i es d (mark_piece i mark.Semicolon d ∷ ps)))
  start_agrees s es g r h q f ss d ps k =
      let w = chain i (begun_pieces i s d) (λ qs. more_entries_pieces i es d (mark_piece i mark.Semicolon d ∷ qs)) (begun_front i s d)
      (chain i (more_entries_pieces i es d) (λ qs. mark_piece i mark.Semicolon d ∷ qs) (more_entries_front i es d) (one i (mark_piece i mark.Semicolon d) (λ qs. qs) refl (none i))) in
      subst (Agree (at types i f (Entry_to_come ∷ ss))) (sym (w.split ps))
      (whole_part i (w.own) (w.are_in) types types f f (Entry_to_come ∷ []) refl
      (λ rs qs. ap (over (at types i f (Entry_to_come ∷ rs))) (sym (w.split qs)) ∙ begun_run types i s es g r f rs d qs (more_entries_run types i es h q f rs d qs)) ss ps k)

module _ (types : List (List ℕ)) where
  -- an item that is no typedef begins with `static` or with a base
  item_agrees : (k : Option ℕ) (b : Base) → IsBase b → ReadsBase types b → (f : List ℕ) (d : ℕ) (ps : List Piece)
      → Agree (at types false f (Base_to_come ∷ FileEntries ∷ [])) (base_pieces false b d ps) → Agree (at types false f []) (static_pieces false k d (base_pieces false b d ps))
  item_agrees (Some k) b g r f d ps = λ h. (refl, h)
  item_agrees None b g r f d ps =
      base_first types false (λ q. Agree (at types false f (Base_to_come ∷ FileEntries ∷ [])) q → Agree (at types false f []) q)
      (λ p qs k h. (
        h.0,
        skip (is_key key.Typedef p.word) _ _ (λ n. Agree n qs) (differs begins_base p.word (word.Key key.Typedef) k.begins refl)
            (skip (is_key key.Static p.word) _ _ (λ n. Agree n qs) (differs begins_base p.word (word.Key key.Static) k.begins refl) h.1),
      )) b g r d ps

  entry_agrees : (x : Declarator) → IsDeclarator true x → (f : List ℕ) (d : ℕ) (ps : List Piece)
      → Agree (at types false f (Declarator_to_come naming.Must ∷ FirstEntry ∷ [])) (declarator_pieces false x d ps) → Agree (at types false f (FileEntries ∷ [])) (declarator_pieces false x d ps)
  entry_agrees x g f d ps =
      declarator_first types false (λ q. Agree (at types false f (Declarator_to_come naming.Must ∷ FirstEntry ∷ [])) q → Agree (at types false f (FileEntries ∷ [])) q) x
      (λ p qs k h. (h.0, skip (is p.word (word.Mark mark.Semicolon)) _ _ (λ n. Agree n qs) (differs starts p.word (word.Mark mark.Semicolon) k refl) h.1)) d ps (inl (must_tokens types false x g))

  first_agrees : (s : Option Initial) (es : List Entry) (f : List ℕ) (d : ℕ) (ps : List Piece)
      → Agree (at types false f (Entry_to_come ∷ [])) (begun_pieces false s d (more_entries_pieces false es d (mark_piece false mark.Semicolon d ∷ ps)))
      → Agree (at types false f (FirstEntry ∷ [])) (begun_pieces false s d (more_entries_pieces false es d (mark_piece false mark.Semicolon d ∷ ps)))
  first_agrees None [] f d ps h = h
  first_agrees None (e ∷ es) f d ps h = h
  first_agrees (Some x) es f d ps h = h

  entries_agree : (es : List Entry) → AreEntries es → ReadsEntries types es → (f : List ℕ) (d : ℕ) (ps : List Piece)
      → Agree (at types false f []) ps → Agree (at types false f (FileEntries ∷ [])) (entries_pieces false es d (mark_piece false mark.Semicolon d ∷ ps))
  entries_agree [] g r f d ps h = (refl, h)
  entries_agree (e ∷ es) g r f d ps h =
      entry_agrees e.declarator g.0 f (suc d) _
      (declarator_agrees types false naming.Must e.declarator g.0 r.0 f (FirstEntry ∷ []) (suc d) _ (begun_leaves types false e.initial es d ps)
      (first_agrees e.initial es f d ps (start_agrees types false e.initial es g.1 r.1 g.2 r.2 f [] d ps h)))

  body_agrees : (ds : List Declaration) (xs : Stmts) → AreDeclarations ds → ReadsDeclarations types ds → BeginsPlain types xs → AreStmts xs → ReadsStmts types xs → (f : List ℕ) (d : ℕ) (ps : List Piece)
      → Agree (at types true f []) (mark_piece true mark.CloseBrace d ∷ ps) → Agree (at types true f (Body ∷ [])) (declarations_pieces true ds d (stmts_pieces xs d (mark_piece true mark.CloseBrace d ∷ ps)))
  body_agrees ds xs g r b h q f d ps k =
      let w = body_front ds xs d in
      subst (Agree (at types true f (Body ∷ []))) (sym (w.split (mark_piece true mark.CloseBrace d ∷ ps)))
      (part_before true (mark_piece true mark.CloseBrace d) (w.own) (w.are_in) types types f f (Body ∷ []) refl
      (λ rs qs. ap (over (at types true f (Body ∷ rs))) (sym (w.split (mark_piece true mark.CloseBrace d ∷ qs)))
      ∙ body_run types ds g r f rs d _ ∙ body_first types xs b f rs d qs ∙ stmts_run types xs h q f rs d qs) [] ps k)

pub units_agree : (u : TranslationUnit) (types : List (List ℕ)) (f : List ℕ) → AreItems u → ReadsNames types u → Agree (at types false f []) (unit_pieces u)
units_agree [] types f g r = tt
units_agree (typedef b x ∷ u) types f g r = (
  refl,
  base_agrees types false b g.0.0 r.0 f (Declarator_to_come naming.Typedef ∷ EndTypedef ∷ []) 0 _ (declared_behind types false x 1 _ (inr refl))
      (declarator_agrees types false naming.Typedef x g.0.1 r.1 f (EndTypedef ∷ []) 1 _ refl (refl, units_agree u (name_in x ∷ types) (name_in x) g.1 r.2)),
)
units_agree (declaration x ∷ u) types f g r =
    item_agrees types x.fixed x.base g.0.0 r.0.0 f 0 _
    (base_agrees types false x.base g.0.0 r.0.0 f (FileEntries ∷ []) 0 _ (entries_behind types false x.entries g.0.1 0 _)
    (entries_agree types x.entries g.0.1 r.0.1 f 0 _ (units_agree u types f g.1 r.1)))
units_agree (function x ∷ u) types f g r =
    item_agrees types x.fixed x.base g.0.0 r.0.0 f 0 _
    (base_agrees types false x.base g.0.0 r.0.0 f (FileEntries ∷ []) 0 _ (declared_behind types false x.declarator 1 _ (inl (must_tokens types false x.declarator g.0.1)))
    (entry_agrees types x.declarator g.0.1 f 1 _
    (declarator_agrees types false naming.Must x.declarator g.0.1 r.0.1 f (FirstEntry ∷ []) 1 _ refl
    (refl, body_agrees types x.declarations x.body g.0.2 r.0.2 r.0.3 g.0.3 r.0.4 f 1 _ (refl, units_agree u types f g.1 r.1)))))
