-- The builder's run over the tokens of a unit reaches it.
use Rattle.std.proofs.Common.{◌≡◌, ℕ, Bool, true, false, ◌||◌, if◌then◌else◌, List, [], ◌∷◌, ◌++◌, Option, Some, None, refl, sym, ap, subst, ◌∙◌}
use Rattle.porch_tree.specs.declared.word.Keyword.TheVariants as key
use Rattle.porch_tree.specs.declared.word.Mark.TheVariants as mark
use Rattle.porch_tree.specs.declared.word.Word.{Word}
use Rattle.porch_tree.specs.declared.word.Word.TheVariants as word
use Rattle.porch_tree.specs.Mirror.{Base, Declarator, Declaration, Definition, Item, typedef, declaration, function, TranslationUnit}
use Rattle.porch_tree.specs.Views.{stmts_of}
use Rattle.porch_tree.specs.Pieces.{Spelled, Piece, mark as mark_piece, declarations_pieces, stmts_pieces, unit_pieces}
use Rattle.porch_tree.specs.Names.{name_in, ReadsNames}
use Rattle.porch_tree.specs.Formed.{AreItems}
use Rattle.porch_tree.specs.Grammar.{Matches, AreMatched, IsDeepUnit}
use Rattle.porch_parts.specs.Parts.{begins}
use Rattle.porch_declarations.specs.Declarations as declarations
use Rattle.porch_declarations.specs.Declarations.{at_start, over, headed, opened, is_static, is_over, Leads as Declares}
use Rattle.porch_unit.specs.Units.{Frame, at_item, behind_typedef, in_typedef, in_item, State, state, is_typedef, item_on, typedef_on, with_last, run, unit_in, unit_of_tokens}
use Rattle.porch_unit.proofs.Statements.{Readers, From}
use Rattle.porch_unit.proofs.Blocks.{of_body, Declaring, declaration_begins}
use Rattle.porch_unit.proofs.Runs.{block_run, stmts_run}
use Rattle.porch_unit.proofs.Lists.{append_nothing, append_one, stmt_list, stmts_back}

item_goes : (xs : List Item) (fs : List Frame) (s : declarations.State) → is_over s ≡ false → item_on xs fs s ≡ state xs fs (in_item s)
item_goes xs fs (over d) h = cc
item_goes xs fs (headed b d) h = cc
item_goes xs fs s h = refl

typedef_goes : (xs : List Item) (fs : List Frame) (s : declarations.State) → is_over s ≡ false → typedef_on xs fs s ≡ state xs fs (in_typedef s)
typedef_goes xs fs (over d) h = cc
typedef_goes xs fs (headed b d) h = cc
typedef_goes xs fs s h = refl

no_typedef : (types : List (List ℕ)) (w : Word) (t : Spelled) → begins types w t || is_static w ≡ true → is_typedef w ≡ false
no_typedef types (word.Key key.Typedef) t h = cc
no_typedef types (word.Key k) t h = refl
no_typedef types w t h = refl

-- The last item, if it is a typedef, declares a typedef name.
last_added : (types : List (List ℕ)) (xs : List Item) (y : Item) → with_last types (xs ++ y ∷ []) ≡ with_last types (y ∷ [])
last_added types [] y = refl
last_added types (x ∷ []) y = refl
last_added types (x ∷ z ∷ xs) y = last_added types (z ∷ xs) y

module _ (r : Readers) (types : List (List ℕ)) (G : State → Type 0) where
  abbrev F : State → List Spelled → Type 0
  F s ts = From r types G s ts

  through_item : (own : List Spelled) (xs : List Item) (fs : List Frame) (s end : declarations.State) (rest : List Spelled) → Declares types s own end → F (item_on xs fs end) rest → F (item_on xs fs s) (own ++ rest)
  through_item [] xs fs s end rest h c = subst (λ z. F (item_on xs fs z) rest) (sym h) c
  through_item (t ∷ own) xs fs s end rest h c =
      subst (λ z. F z (t ∷ (own ++ rest))) (sym (item_goes xs fs s h.0)) (through_item own xs fs (declarations.step types s t) end rest h.1 c)

  through_typedef : (own : List Spelled) (xs : List Item) (fs : List Frame) (s end : declarations.State) (rest : List Spelled) → Declares types s own end → F (typedef_on xs fs end) rest → F (typedef_on xs fs s) (own ++ rest)
  through_typedef [] xs fs s end rest h c = subst (λ z. F (typedef_on xs fs z) rest) (sym h) c
  through_typedef (t ∷ own) xs fs s end rest h c =
      subst (λ z. F z (t ∷ (own ++ rest))) (sym (typedef_goes xs fs s h.0)) (through_typedef own xs fs (declarations.step types s t) end rest h.1 c)

  -- What is read from between two items on, a typedef in front of it or not.
  abbrev pub Ready : List Item → List Spelled → Type 0
  Ready xs ts = G (run types (state xs [] at_item) ts) × G (run types (state xs [] behind_typedef) ts)

  first_item : (own : List Spelled) (xs : List Item) (end : declarations.State) (rest : List Spelled) → (at_start ≡ end → ⊥) → Declares types at_start own end → Declaring types true (own ++ rest) → F (item_on xs [] end) rest → Ready xs (own ++ rest)
  first_item [] xs end rest n h b c = absurd (n h)
  first_item (t ∷ own) xs end rest n h b c =
      let k : G (run types (state xs [] at_item) ((t ∷ own) ++ rest)) =
      subst (λ (z : Bool). F (if z then state xs [] (in_typedef at_start) else item_on xs [] (declarations.step_at (begins types t.word t) at_start t.word t)) (own ++ rest)) (sym (no_typedef types t.word t b))
      (through_item own xs [] (declarations.step types at_start t) end rest h.1 c) in
      (k, k)

  first_typedef : (p : Piece) (ps : List Piece) (xs : List Item) (ts : List Spelled) → p.word ≡ word.Key key.Typedef → AreMatched ts (p ∷ ps) → ((rest : List Spelled) → AreMatched rest ps → F (state xs [] (in_typedef at_start)) rest) → Ready xs ts
  first_typedef p ps xs [] q h c = absurd h
  first_typedef p ps xs (t ∷ ts) q h c =
      let k : G (run types (state xs [] at_item) (t ∷ ts)) =
      subst (λ w. F (if is_typedef w then state xs [] (in_typedef at_start) else item_on xs [] (declarations.step_at (begins types w t) at_start w t)) ts) (sym (h.0.word ∙ q)) (c ts h.1) in
      (k, k)

  not_declared : (x : Declaration) → at_start ≡ over x → ⊥
  not_declared x h = cc

  not_headed : (h : Declaration) (x : Declarator) → at_start ≡ headed h x → ⊥
  not_headed h x q = cc

module _ (r : Readers) (G : State → Type 0) where
  abbrev Last : List Item → Type 0
  Last xs = G (state xs [] at_item) × G (state xs [] behind_typedef)

  units_run : (u : TranslationUnit) → AreItems u → (types : List (List ℕ)) (xs : List Item) → ReadsNames types u → (ts : List Spelled) → AreMatched ts (unit_pieces u) → Last (xs ++ u) → Ready r types G xs ts
  units_run [] w types xs y [] h c = subst Last (append_nothing xs) c
  units_run [] w types xs y (t ∷ ts) h c = absurd h
  units_run (declaration x ∷ u) w types xs y ts h c =
      let q = r.declarations types false x w.0 y.0 0 (unit_pieces u) ts h in
      subst (Ready r types G xs) (sym (q.split))
      (first_item r types G (q.own) xs (over x) (q.rest) (not_declared r types G x) (q.leads)
      (subst (Declaring types true) (q.split) (declaration_begins r types false x.fixed x.base w.0.0 y.0.0 0 _ ts h))
      (units_run u w.1 types (xs ++ declaration x ∷ []) y.1 (q.rest) (q.matched) (subst Last (sym (append_one xs (declaration x) u)) c)).0)
  units_run (typedef b d ∷ u) w types xs y ts h c =
      first_typedef r types G _ _ xs ts refl h (λ rest k.
      let x : Declaration = record { fixed = None; base = b; entries = record { declarator = d; initial = None } ∷ [] } in
      let q = r.declarations types false x (w.0.0, (w.0.1, tt, tt)) (y.0, (y.1, tt, tt)) 0 (unit_pieces u) rest k in
      subst (From r types G (state xs [] (in_typedef at_start))) (sym (q.split))
      (through_typedef r types G (q.own) xs [] at_start (over x) (q.rest) (q.leads)
      (subst (λ z. G (run z (state (xs ++ typedef b d ∷ []) [] behind_typedef) (q.rest))) (sym (last_added types xs (typedef b d)))
      (units_run u w.1 (name_in d ∷ types) (xs ++ typedef b d ∷ []) y.2 (q.rest) (q.matched) (subst Last (sym (append_one xs (typedef b d) u)) c)).1)))
  units_run (function f ∷ u) w types xs y ts h c =
      let head = opened f.fixed f.base in
      let q = r.heads types false f.fixed f.base f.declarator w.0.0 y.0.0 w.0.1 y.0.1 0 1 1 (declarations_pieces true f.declarations 1 (stmts_pieces f.body 1 (mark_piece true mark.CloseBrace 1 ∷ unit_pieces u))) ts h in
      subst (Ready r types G xs) (sym (q.split))
      (first_item r types G (q.own) xs (headed head f.declarator) (q.rest) (not_headed r types G head f.declarator) (q.leads)
      (subst (Declaring types true) (q.split) (declaration_begins r types false f.fixed f.base w.0.0 y.0.0 0 _ ts h))
      (block_run r types G f.declarations f.body w.0.2 xs y.0.2 y.0.3 (of_body head f.declarator) [] 1 1 (unit_pieces u) (q.rest) (q.matched) (λ rest k.
      stmts_run r types G f.body w.0.3 xs y.0.4 (of_body head f.declarator) f.declarations [] [] 1 1 (unit_pieces u) rest k (λ rest k.
      subst (λ z. G (run types (state (xs ++ function (record { fixed = f.fixed; base = f.base; declarator = f.declarator; declarations = f.declarations; body = z }) ∷ []) [] at_item) rest)) (sym (stmts_back f.body))
      (units_run u w.1 types (xs ++ function f ∷ []) y.1 rest k (subst Last (sym (append_one xs (function f) u)) c)).0))))

pub unit_built : Readers → (ts : List Spelled) (u : TranslationUnit) → IsDeepUnit ts u → unit_of_tokens ts ≡ Some u
unit_built r ts u d = (units_run r (λ s. unit_in s ≡ Some u) u d.formed [] [] d.names ts d.spelled (refl, refl)).0
