-- The builder's run over the tokens of a declaration, or of a function's head, reaches it.
use Rattle.std.proofs.Common.{◌≡◌, ℕ, suc, Bool, true, false, if◌then◌else◌, List, [], ◌∷◌, ◌++◌, Option, Some, None, refl, sym, ap, subst, ◌∙◌}
use Rattle.porch_tree.specs.declared.word.Keyword.TheVariants as key
use Rattle.porch_tree.specs.declared.word.Mark.{Mark}
use Rattle.porch_tree.specs.declared.word.Mark.TheVariants as mark
use Rattle.porch_tree.specs.declared.word.Word.TheVariants as word
use Rattle.porch_tree.specs.Mirror.{Base, Declarator, declarator, lacking, no_brackets, Initial, value, braced, Initials, no_initials, with_initial, Entry, Declaration, TypeName, type_name}
use Rattle.porch_tree.specs.Views.{initials_of}
use Rattle.porch_tree.specs.Pieces.{Spelled, Piece, mark as mark_piece, expr_pieces, base_pieces, declarator_pieces, comma_pieces, initial_pieces, more_initials_pieces, begun_pieces, more_entries_pieces, static_pieces, declaration_pieces}
use Rattle.porch_tree.specs.Names.{ReadsBase, ReadsDeclarator, ReadsInitial, ReadsInitials, ReadsStart, ReadsEntries, ReadsDeclaration}
use Rattle.porch_tree.specs.Formed.{IsBase, IsDeclarator, IsInitial, AreInitials, IsStart, AreEntries, IsDeclaration}
use Rattle.porch_tree.specs.Grammar.{Matches, AreMatched}
use Rattle.porch_parts.specs.declared.sign.Sign.{Sign}
use Rattle.porch_parts.specs.declared.sign.Sign.TheVariants as sign
use Rattle.porch_parts.specs.Signs.{sign_of}
use Rattle.porch_parts.specs.Types.{is_close_brace}
use Rattle.porch_parts.specs.Parts.{begins}
use Rattle.porch_parts.specs.Ends.{at_single, at_typed, at_declared, behind_typed, EndsAt, ends_single, ends_declared, SinglesEnd, TypedEnd, BasesEnd, DeclaredEnd}
use Rattle.porch_declarations.specs.Declarations.{Braces, State, at_start, in_typed, in_declared, at_initial, behind_initial, over, headed, is_static, opened, with_entry, opened_at, declared, typed, initial_ended, step_at, step, run, declaration_of, declaration_in, is_over, Leads, Passes, DeclarationsPass, HeadsPass}
use Rattle.porch_declarations.proofs.Lists.{append_nothing, append_one, initial_list, initials_back}
use Rattle.porch_declarations.proofs.Firsts.{IsLedByNone, led_by_none, expr_first, Next, more_next, begun_next, items_next}
use Rattle.porch_declarations.proofs.Through.{At, through_typed, through_declared, through_initial, through_start, has_name}

-- where the readers of expressions and types end
pub record Readers : Type 0 where
  pub singles : SinglesEnd
  pub typed : TypedEnd
  pub bases : BasesEnd
  pub declared : DeclaredEnd

abbrev with_all : Declaration → List Entry → Declaration
with_all h es = record { fixed = h.fixed; base = h.base; entries = h.entries ++ es }

module _ (r : Readers) (types : List (List ℕ)) (i : Bool) (F : State → List Spelled → Type 0) (back : (s : State) (t : Spelled) (ts : List Spelled) → is_over s ≡ false → F (step types s t) ts → F s (t ∷ ts)) where
  abbrev A : (Sign → State) → List Spelled → Type 0
  A f ts = At types F back f ts

  token : (s : State) (p : Piece) (ps : List Piece) (ts : List Spelled) → is_over s ≡ false → AreMatched ts (p ∷ ps)
      → ((t : Spelled) (rest : List Spelled) → Matches t p → AreMatched rest ps → F (step_at (begins types p.word t) s p.word t) rest) → F s ts
  token s p ps [] o h c = absurd h
  token s p ps (t ∷ ts) o h c = back s t ts o (subst (λ w. F (step_at (begins types w t) s w t) ts) (sym h.0.word) (c t ts h.0 h.1))

  at_mark : (f : Sign → State) (m : Mark) (p : Piece) (ps : List Piece) (ts : List Spelled) → p.word ≡ word.Mark m → AreMatched ts (p ∷ ps)
      → ((t : Spelled) (rest : List Spelled) → Matches t p → AreMatched rest ps → F (f (sign_of (word.Mark m))) rest) → A f ts
  at_mark f m p ps [] q h c = absurd h
  at_mark f m p ps (t ∷ ts) q h c = subst (λ w. F (f (sign_of w)) ts) (sym (h.0.word ∙ q)) (c t ts h.0 h.1)

  behind : (h : Declaration) (x : Declarator) (bs : List Braces) (z : Initial) (ts : List Spelled) → A (initial_ended h x bs z) ts → F (behind_initial h x bs z) ts
  behind h x bs z [] k = absurd k
  behind h x bs z (t ∷ ts) k = back (behind_initial h x bs z) t ts refl k

  -- Initialisers.
  mutual
    initial_run : (a : Initial) → IsInitial a → ReadsInitial types a → (h : Declaration) (x : Declarator) (bs : List Braces) (d : ℕ) (qs : List Piece) (ts : List Spelled) → Next ends_single qs
        → AreMatched ts (initial_pieces i a d qs) → ((us : List Spelled) → AreMatched us qs → A (initial_ended h x bs a) us) → F (at_initial h x bs) ts
    initial_run (value e) w y h x bs d qs ts n m c =
        let o = r.singles types i e w.0 w.1 y (suc d) (n.piece) (n.others) ts (n.kind) (n.word) (n.good) (subst (λ q. AreMatched ts (expr_pieces i e (suc d) q)) (n.same) m) in
        subst (F (at_initial h x bs)) (sym (o.split))
        (through_initial types F back (o.own) h x bs (o.last) e (o.rest) (o.ends)
        (subst IsLedByNone (o.split) (led_by_none (expr_pieces i e (suc d) qs) ts (expr_first i e (suc d) qs) m))
        (c (o.last ∷ o.rest) (subst (AreMatched (o.last ∷ o.rest)) (sym (n.same)) (o.matches, o.matched))))
    initial_run (braced at no_initials comma) w y h x bs d qs ts n m c = absurd (w.0 refl)
    initial_run (braced at (with_initial a js) comma) w y h x bs d qs ts n m c =
        token (at_initial h x bs) _ _ ts refl m (λ t rest v g.
        subst (λ k. F (at_initial h x (opened_at k ∷ bs)) rest) (sym v.place)
        (initial_run a w.1.0 y.0 h x (opened_at at ∷ bs) (suc d) _ rest (items_next js comma i (suc d) qs) g (λ us g.
        items_run js w.1.1 y.1 comma h x at [] a bs (suc d) qs us g (λ rest g.
        subst (λ z. A (initial_ended h x bs (braced at (with_initial a z) comma)) rest) (sym (initials_back js)) (c rest g)))))

    -- what stands behind an initialiser in braces
    items_run : (js : Initials) → AreInitials js → ReadsInitials types js → (comma : Bool) (h : Declaration) (x : Declarator) (at : ℕ) (before : List Initial) (a : Initial) (bs : List Braces) (d : ℕ) (qs : List Piece) (ts : List Spelled)
        → AreMatched ts (more_initials_pieces i js d (comma_pieces i comma d (mark_piece i mark.CloseBrace d ∷ qs)))
        → ((us : List Spelled) → AreMatched us qs → A (initial_ended h x bs (braced at (initials_of (before ++ a ∷ initial_list js)) comma)) us)
        → A (initial_ended h x (record { at = at; items = before } ∷ bs) a) ts
    items_run no_initials w y false h x at before a bs d qs ts m c =
        at_mark (initial_ended h x (record { at = at; items = before } ∷ bs) a) mark.CloseBrace _ qs ts refl m (λ t rest v g. behind h x bs (braced at (initials_of (before ++ a ∷ [])) false) rest (c rest g))
    items_run no_initials w y true h x at before a bs d qs ts m c =
        at_mark (initial_ended h x (record { at = at; items = before } ∷ bs) a) mark.Comma _ _ ts refl m (λ t rest v g.
        token (at_initial h x (record { at = at; items = before ++ a ∷ [] } ∷ bs)) _ qs rest refl g (λ t rest v g.
        behind h x bs (braced at (initials_of (before ++ a ∷ [])) true) rest (c rest g)))
    items_run (with_initial b js) w y comma h x at before a bs d qs ts m c =
        at_mark (initial_ended h x (record { at = at; items = before } ∷ bs) a) mark.Comma _ _ ts refl m (λ t rest v g.
        initial_run b w.0 y.0 h x (record { at = at; items = before ++ a ∷ [] } ∷ bs) d _ rest (items_next js comma i d qs) g (λ us g.
        items_run js w.1 y.1 comma h x at (before ++ a ∷ []) b bs d qs us g (λ us g.
        subst (λ z. A (initial_ended h x bs (braced at (initials_of z) comma)) us) (sym (append_one before a (b ∷ initial_list js))) (c us g))))

  -- Entries.

  declared_run : (h : Declaration) (x : Declarator) → IsDeclarator true x → ReadsDeclarator types x → (d : ℕ) (qs : List Piece) (ts : List Spelled) → Next ends_declared qs
      → AreMatched ts (declarator_pieces i x d qs) → ((us : List Spelled) → AreMatched us qs → A (declared h x) us) → F (in_declared h at_declared) ts
  declared_run h x w y d qs ts n m c =
      let o = r.declared types i x w y d (n.piece) (n.others) ts (n.kind) (n.word) (n.good) (subst (λ q. AreMatched ts (declarator_pieces i x d q)) (n.same) m) in
      subst (F (in_declared h at_declared)) (sym (o.split))
      (through_declared types F back (o.own) h at_declared (o.last) x (o.rest) (o.ends)
      (c (o.last ∷ o.rest) (subst (AreMatched (o.last ∷ o.rest)) (sym (n.same)) (o.matches, o.matched))))

  -- what the comma and the `;` behind an entry do
  abbrev Goes : Declaration → List Piece → Type 0
  Goes h qs = (f : Sign → State) → f sign.Comma ≡ in_declared h at_declared → f sign.Semicolon ≡ over h → (us : List Spelled) → AreMatched us qs → A f us

  entry_run : (o : Option Initial) → IsStart o → ReadsStart types o → (h : Declaration) (x : Declarator) (d : ℕ) (qs : List Piece) (ts : List Spelled) → Next ends_single qs
      → AreMatched ts (begun_pieces i o d qs) → Goes (with_entry h x o) qs → A (declared h x) ts
  entry_run None w y h x d qs ts n m c = c (declared h x) refl refl ts m
  entry_run (Some a) w y h x d qs ts n m c =
      at_mark (declared h x) mark.Equal _ _ ts refl m (λ t rest v g.
      initial_run a w y h x [] d qs rest n g (λ us g. c (initial_ended h x [] a) refl refl us g))

  entries_run : (es : List Entry) → AreEntries es → ReadsEntries types es → (h : Declaration) (d : ℕ) (ps : List Piece) → ((rest : List Spelled) → AreMatched rest ps → F (over (with_all h es)) rest)
      → Goes h (more_entries_pieces i es d (mark_piece i mark.Semicolon d ∷ ps))
  entries_run [] w y h d ps c f p q us m =
      at_mark f mark.Semicolon _ ps us refl m (λ t rest v g.
      subst (λ s. F s rest) (sym q) (subst (λ l. F (over (record { fixed = h.fixed; base = h.base; entries = l })) rest) (append_nothing h.entries) (c rest g)))
  entries_run (e ∷ es) w y h d ps c f p q us m =
      at_mark f mark.Comma _ _ us refl m (λ t rest v g.
      subst (λ s. F s rest) (sym p)
      (declared_run h e.declarator w.0 y.0 (suc d) _ rest (begun_next e.initial i es d ps) g (λ us g.
      entry_run e.initial w.1 y.1 h e.declarator d _ us (more_next ends_single refl refl i es d ps) g
      (entries_run es w.2 y.2 (with_entry h e.declarator e.initial) d ps (λ rest g.
      subst (λ l. F (over (record { fixed = h.fixed; base = h.base; entries = l })) rest) (sym (append_one h.entries e es)) (c rest g))))))

  -- The start.

  begun_in : (k : Option ℕ) (y : TypeName) (p : Piece) (ps : List Piece) (ts : List Spelled) → EndsAt types at_typed ts p ps (behind_typed y)
      → ((last : Spelled) (rest : List Spelled) → Matches last p → AreMatched rest ps → A (typed k y) (last ∷ rest)) → F (in_typed k at_typed) ts
  begun_in k y p ps ts o c =
      subst (F (in_typed k at_typed)) (sym (o.split)) (through_typed types F back (o.own) k at_typed (o.last) y (o.rest) (o.ends) (c (o.last) (o.rest) (o.matches) (o.matched)))

  begun_at : (y : TypeName) (p : Piece) (ps : List Piece) (ts : List Spelled) → is_static p.word ≡ false → EndsAt types at_typed ts p ps (behind_typed y)
      → ((last : Spelled) (rest : List Spelled) → Matches last p → AreMatched rest ps → A (typed None y) (last ∷ rest)) → F at_start ts
  begun_at y p ps ts s o c =
      subst (F at_start) (sym (o.split))
      (through_start types F back (o.own) (o.last) y (o.rest) (o.ends) (subst (λ w. is_static w ≡ false) (sym (o.matches.word)) s) (c (o.last) (o.rest) (o.matches) (o.matched)))

  start_run : (k : Option ℕ) (y : TypeName) (d : ℕ) (qs : List Piece) (p : Piece) (ps : List Piece) (ts : List Spelled) → is_static p.word ≡ false
      → ((us : List Spelled) → AreMatched us qs → EndsAt types at_typed us p ps (behind_typed y))
      → AreMatched ts (static_pieces i k d qs) → ((last : Spelled) (rest : List Spelled) → Matches last p → AreMatched rest ps → A (typed k y) (last ∷ rest)) → F at_start ts
  start_run None y d qs p ps ts s o m c = begun_at y p ps ts s (o ts m) c
  start_run (Some at) y d qs p ps ts s o m c =
      token at_start _ qs ts refl m (λ t rest v g.
      subst (λ a. F (in_typed (Some a) at_typed) rest) (sym v.place) (begun_in (Some at) y p ps rest (o rest g) c))

  with_name : (k : Option ℕ) (b : Base) (x : Declarator) (t : Spelled) (rest : List Spelled) → IsDeclarator true x → A (declared (opened k b) x) (t ∷ rest) → A (typed k (type_name b x)) (t ∷ rest)
  with_name k b x t rest w c = subst (λ (z : Bool). F (if z then over (opened k b) else declared (opened k b) x (sign_of t.word)) rest) (sym (has_name x w)) c

  entries_start : (es : List Entry) (k : Option ℕ) (b : Base) → IsBase b → AreEntries es → ReadsBase types b → ReadsEntries types es → (d : ℕ) (ps : List Piece) (ts : List Spelled)
      → AreMatched ts (declaration_pieces i (record { fixed = k; base = b; entries = es }) d ps) → ((rest : List Spelled) → AreMatched rest ps → F (over (record { fixed = k; base = b; entries = es })) rest) → F at_start ts
  entries_start [] k b w v y z d ps ts m c =
      start_run k (type_name b (declarator 0 [] lacking no_brackets)) d _ (mark_piece i mark.Semicolon d) ps ts refl (λ us g. r.bases types i b w y d _ ps us refl g) m (λ last rest n g. c rest g)
  entries_start (e ∷ es) k b w v y z d ps ts m c =
      let n = begun_next e.initial i es d ps in
      start_run k (type_name b e.declarator) d _ (n.piece) (n.others) ts (subst (λ w. is_static w ≡ false) (sym (n.word)) refl)
      (λ us g. r.typed types i b e.declarator w y v.0 z.0 d (suc d) (n.piece) (n.others) us (n.kind) (n.word) (n.good)
      (subst (λ q. AreMatched us (base_pieces i b d (declarator_pieces i e.declarator (suc d) q))) (n.same) g)) m
      (λ last rest t g. with_name k b e.declarator last rest v.0
      (entry_run e.initial v.1 z.1 (opened k b) e.declarator d _ (last ∷ rest) (more_next ends_single refl refl i es d ps) (subst (AreMatched (last ∷ rest)) (sym (n.same)) (t, g))
      (entries_run es v.2 z.2 (with_entry (opened k b) e.declarator e.initial) d ps c)))

  pub declaration_run : (x : Declaration) → IsDeclaration x → ReadsDeclaration types x → (d : ℕ) (ps : List Piece) (ts : List Spelled)
      → AreMatched ts (declaration_pieces i x d ps) → ((rest : List Spelled) → AreMatched rest ps → F (over x) rest) → F at_start ts
  declaration_run x w y d ps ts m c = entries_start x.entries x.fixed x.base w.0 w.1 y.0 y.1 d ps ts m c

  pub head_run : (k : Option ℕ) (b : Base) (x : Declarator) → IsBase b → ReadsBase types b → IsDeclarator true x → ReadsDeclarator types x → (d e u : ℕ) (ps : List Piece) (ts : List Spelled)
      → AreMatched ts (static_pieces i k d (base_pieces i b d (declarator_pieces i x e (mark_piece i mark.OpenBrace u ∷ ps))))
      → ((rest : List Spelled) → AreMatched rest ps → F (headed (opened k b) x) rest) → F at_start ts
  head_run k b x w y v z d e u ps ts m c =
      start_run k (type_name b x) d _ (mark_piece i mark.OpenBrace u) ps ts refl (λ us g. r.typed types i b x w y v z d e _ ps us mark.OpenBrace refl refl g) m
      (λ last rest t g. with_name k b x last rest v (at_mark (declared (opened k b) x) mark.OpenBrace _ ps (last ∷ rest) refl (t, g) (λ t rest v g. c rest g)))

-- Tokens are passed.
passed : (types : List (List ℕ)) (ps : List Piece) (end : State) (s : State) (t : Spelled) (ts : List Spelled) → is_over s ≡ false → Passes types (step types s t) ts ps end → Passes types s (t ∷ ts) ps end
passed types ps end s t ts o h = record { own = t ∷ h.own; rest = h.rest; split = ap (λ xs. t ∷ xs) (h.split); leads = (o, h.leads); matched = h.matched }

arrived : (types : List (List ℕ)) (ps : List Piece) (end : State) (ts : List Spelled) → AreMatched ts ps → Passes types end ts ps end
arrived types ps end ts m = record { own = []; rest = ts; split = refl; leads = refl; matched = m }

pub declarations_pass : Readers → DeclarationsPass
declarations_pass r types i x w y d ps ts m =
    declaration_run r types i (λ s ts. Passes types s ts ps (over x)) (passed types ps (over x)) x w y d ps ts m (λ rest g. arrived types ps (over x) rest g)

pub heads_pass : Readers → HeadsPass
heads_pass r types i k b x w y v z d e u ps ts m =
    head_run r types i (λ s ts. Passes types s ts ps (headed (opened k b) x)) (passed types ps (headed (opened k b) x)) k b x w y v z d e u ps ts m (λ rest g. arrived types ps (headed (opened k b) x) rest g)

leads_run : (types : List (List ℕ)) (own : List Spelled) (s end : State) → Leads types s own end → run types s own ≡ end
leads_run types [] s end h = h
leads_run types (t ∷ own) s end h = leads_run types own (step types s t) end h.1

nothing_left : (own rest : List Spelled) → AreMatched rest [] → own ++ rest ≡ own
nothing_left own [] m = append_nothing own
nothing_left own (t ∷ ts) m = absurd m

pub built : Readers → (types : List (List ℕ)) (i : Bool) (x : Declaration) → IsDeclaration x → ReadsDeclaration types x → (d : ℕ) (ts : List Spelled) → AreMatched ts (declaration_pieces i x d []) → declaration_of types ts ≡ Some x
built r types i x w y d ts m =
    let h = declarations_pass r types i x w y d [] ts m in
    ap declaration_in (ap (run types at_start) (h.split ∙ nothing_left (h.own) (h.rest) (h.matched)) ∙ leads_run types (h.own) at_start (over x) (h.leads))
