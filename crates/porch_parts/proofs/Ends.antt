-- The reader ends in front of the token behind an expression, a declarator, or a base with one, and not
-- before: behind an end nothing more comes to an end.
use Rattle.std.proofs.Common.{◌≡◌, ℕ, suc, ◌<◌, Bool, true, false, List, [], ◌∷◌, ◌++◌, refl, sym, ap, subst, ◌∙◌, arith}
use Rattle.porch_tree.specs.declared.word.Mark.{Mark}
use Rattle.porch_tree.specs.declared.word.Mark.TheVariants as mark
use Rattle.porch_tree.specs.declared.word.Word.{Word}
use Rattle.porch_tree.specs.declared.word.Word.TheVariants as word
use Rattle.porch_tree.specs.Mirror.{Expr, Base, Declarator, declarator, lacking, named, inner, no_brackets, type_name}
use Rattle.porch_tree.specs.Pieces.{Spelled, Piece, expr_pieces, base_pieces, declarator_pieces}
use Rattle.porch_tree.specs.Names.{ReadsExpr, ReadsBase, ReadsDeclarator}
use Rattle.porch_tree.specs.Formed.{IsExpr, IsAssign, IsBase, IsDeclarator}
use Rattle.porch_tree.specs.Grammar.{Matches, AreMatched}
use Rattle.porch_parse.specs.Building.{Operand, Frame, awaits, behind, over, broken as lost_expr, alone as alone_frame, value_of, closed, behind_the_comma, behind_the_colon, behind_parenthesis, behind_all}
use Rattle.porch_parse.specs.Building as building
use Rattle.porch_parts.specs.Signs.{sign_of}
use Rattle.porch_parts.specs.declared.sign.Sign.{Sign}
use Rattle.porch_parts.specs.Types.{Part, typed, alone, Point, over_type, over_declarator, broken, Place, declared, type_step}
use Rattle.porch_parts.specs.Parts.{State, in_expr, in_type, expr_on, placed_on, step, step_on, run, begins}
use Rattle.porch_parts.specs.Ends.{at_whole, at_single, at_typed, at_declared, behind_expr, behind_typed, behind_declared, is_over, is_over_expr, is_over_point, Ends, EndsAt, ends_whole, ends_single, ends_declared}
use Rattle.porch_parts.proofs.KindWords.{decided}
use Rattle.porch_parts.proofs.Levels.{level, floor_positive, ends_level, assign_level, argument_floor, low_stands}
use Rattle.porch_parts.proofs.Firsts.{Leads}
use Rattle.porch_parts.proofs.TypeLists.{follows, ending}
use Rattle.porch_parts.proofs.Fronts.{Front, chain, expr_front, base_front, declarator_front}
use Rattle.porch_parts.proofs.Built.{IsBehind, After, reads, reads_base, reads_declarator}

-- No unit has tokens that come to this.
abbrev is_lost_expr : building.State → Bool
is_lost_expr lost_expr = true
is_lost_expr s = false

abbrev is_lost_point : Point → Bool
is_lost_point broken = true
is_lost_point x = false

abbrev is_lost : State → Bool
is_lost (in_expr ps s) = is_lost_expr s
is_lost (in_type fs p) = is_lost_point p.point

lost_point : (x : Point) → is_lost_point x ≡ true → is_over_point x ≡ false
lost_point broken h = refl
lost_point x h = cc

lost_over : (s : State) → is_lost s ≡ true → is_over s ≡ false
lost_over (in_expr ps lost_expr) h = refl
lost_over (in_expr ps s) h = cc
lost_over (in_type fs p) h = lost_point p.point h

lost_again : (b : Bool) (fs : List Frame) (qs : List Part) (x : Point) (s : Sign) (w : Word) (t : Spelled) → is_lost_point x ≡ true → is_lost (placed_on b fs (type_step qs x s t) w t) ≡ true
lost_again b fs qs broken s w t h = refl
lost_again b fs qs x s w t h = cc

over_lost : (b : Bool) (fs : List Frame) (qs : List Part) (x : Point) (s : Sign) (w : Word) (t : Spelled) → is_over_point x ≡ true → is_lost (placed_on b fs (type_step qs x s t) w t) ≡ true
over_lost b fs qs (over_type y) s w t h = refl
over_lost b fs qs (over_declarator d) s w t h = refl
over_lost b fs qs x s w t h = cc

module _ (types : List (List ℕ)) where
  stays_lost : (s : State) (t : Spelled) → is_lost s ≡ true → is_lost (step types s t) ≡ true
  stays_lost (in_expr ps lost_expr) t h = refl
  stays_lost (in_expr ps s) t h = cc
  stays_lost (in_type fs p) t h = lost_again (begins types t.word t) fs p.parts p.point (sign_of t.word) t.word t h

  is_last : (s : State) (t : Spelled) → is_over s ≡ true → is_lost (step types s t) ≡ true
  is_last (in_expr ps (over fs e)) t h = refl
  is_last (in_expr ps s) t h = cc
  is_last (in_type fs p) t h = over_lost (begins types t.word t) fs p.parts p.point (sign_of t.word) t.word t h

  lost_run : (ts : List Spelled) (s : State) → is_lost s ≡ true → is_over (run types s ts) ≡ false
  lost_run [] s h = lost_over s h
  lost_run (t ∷ ts) s h = lost_run ts (step types s t) (stays_lost s t h)

  no_later : (own : List Spelled) (s : State) (last : Spelled) → is_over s ≡ true → is_over (run types s (own ++ last ∷ [])) ≡ false
  no_later [] s last h = lost_over (step types s last) (is_last s last h)
  no_later (t ∷ own) s last h = lost_run (own ++ last ∷ []) (step types s t) (is_last s t h)

  not_both : true ≡ false → ⊥
  not_both h = cc

  first_end : (own : List Spelled) (s : State) (last : Spelled) (end : State) → is_over end ≡ true → run types s (own ++ last ∷ []) ≡ end → Ends types s own last end
  first_end [] s last end o h = h
  first_end (t ∷ own) s last end o h =
      (decided (is_over (step types s t)) (λ k. not_both (sym o ∙ sym (ap is_over h) ∙ no_later own (step types s t) last k)), first_end own (step types s t) last end o h)

-- tokens in front of a piece and others
record Split (ts : List Spelled) (qs : List Piece) (p : Piece) (ps : List Piece) : Type 0 where
  own : List Spelled
  last : Spelled
  rest : List Spelled
  split : ts ≡ own ++ last ∷ rest
  front : AreMatched own qs
  matches : Matches last p
  matched : AreMatched rest ps

split_at : (qs : List Piece) (p : Piece) (ps : List Piece) (ts : List Spelled) → AreMatched ts (qs ++ p ∷ ps) → Split ts qs p ps
split_at [] p ps [] h = absurd h
split_at [] p ps (t ∷ ts) h = record { own = []; last = t; rest = ts; split = refl; front = tt; matches = h.0; matched = h.1 }
split_at (q ∷ qs) p ps [] h = absurd h
split_at (q ∷ qs) p ps (t ∷ ts) h =
    let r = split_at qs p ps ts h.1 in
    record { own = t ∷ r.own; last = r.last; rest = r.rest; split = ap (λ xs. t ∷ xs) (r.split); front = (h.0, r.front); matches = r.matches; matched = r.matched }

one_behind : (qs : List Piece) (own : List Spelled) (p : Piece) (last : Spelled) → AreMatched own qs → Matches last p → AreMatched (own ++ last ∷ []) (qs ++ p ∷ [])
one_behind [] [] p last h m = (m, tt)
one_behind [] (t ∷ own) p last h m = absurd h
one_behind (q ∷ qs) [] p last h m = absurd h
one_behind (q ∷ qs) (t ∷ own) p last h m = (h.0, one_behind qs own p last h.1 m)

ends_at : (types : List (List ℕ)) (F : List Piece → List Piece) → Front F → (s end : State) → is_over end ≡ true → (p : Piece) (ps : List Piece) (ts : List Spelled)
    → ((us : List Spelled) → AreMatched us (F (p ∷ [])) → run types s us ≡ end) → AreMatched ts (F (p ∷ ps)) → EndsAt types s ts p ps end
ends_at types F f s end o p ps ts k h =
    let r = split_at (f.own) p ps ts (subst (AreMatched ts) (f.split (p ∷ ps)) h) in
    record {
      own = r.own;
      last = r.last;
      rest = r.rest;
      split = r.split;
      matches = r.matches;
      matched = r.matched;
      ends = first_end types (r.own) s (r.last) end o
          (k (r.own ++ r.last ∷ []) (subst (AreMatched (r.own ++ r.last ∷ [])) (sym (f.split (p ∷ []))) (one_behind (f.own) (r.own) p (r.last) (r.front) (r.matches))));
    }

-- the token behind an expression
whole_last : (types : List (List ℕ)) (e : Expr) (gs : List Frame) (o : Operand) (t : Spelled) (m : Mark) → ends_whole m ≡ true → closed 1 gs (value_of o) ≡ record { frames = []; value = e }
    → step_on types (in_expr [] (behind gs o)) (word.Mark m) t ≡ behind_expr e
whole_last types e gs o t mark.CloseParenthesis x h = ap (λ c. expr_on false [] (behind_parenthesis c.frames c.value) (word.Mark mark.CloseParenthesis) t) h
whole_last types e gs o t mark.Semicolon x h = ap (λ c. expr_on false [] (behind_all c.frames c.value) (word.Mark mark.Semicolon) t) h
whole_last types e gs o t m x h = cc

single_last : (types : List (List ℕ)) (e : Expr) (gs : List Frame) (o : Operand) (t : Spelled) (m : Mark) → ends_single m ≡ true
    → closed 1 gs (value_of o) ≡ record { frames = alone_frame ∷ []; value = e } → closed 2 gs (value_of o) ≡ record { frames = alone_frame ∷ []; value = e }
    → step_on types (in_expr [] (behind gs o)) (word.Mark m) t ≡ behind_expr e
single_last types e gs o t mark.Comma x h g = ap (λ c. expr_on false [] (behind_the_comma c.frames c.value) (word.Mark mark.Comma) t) g
single_last types e gs o t mark.Colon x h g = ap (λ c. expr_on false [] (behind_the_colon c.frames c.value) (word.Mark mark.Colon) t) h
single_last types e gs o t mark.Semicolon x h g = ap (λ c. expr_on false [] (behind_all c.frames c.value) (word.Mark mark.Semicolon) t) h
single_last types e gs o t mark.CloseBrace x h g = ap (λ c. expr_on false [] (behind_all c.frames c.value) (word.Mark mark.CloseBrace) t) h
single_last types e gs o t m x h g = cc

-- only one token is left
one_left : (types : List (List ℕ)) (s end : State) (p : Piece) (w : Word) (rest : List Spelled) → p.word ≡ w → ((t : Spelled) → step_on types s w t ≡ end) → AreMatched rest (p ∷ []) → run types s rest ≡ end
one_left types s end p w [] q k r = absurd r
one_left types s end p w (t ∷ []) q k r = subst (λ v. step_on types s v t ≡ end) (sym (r.0.word ∙ q)) (k t)
one_left types s end p w (t ∷ u ∷ ts) q k r = absurd r.1

mark_ends : (m : Mark) → ends_declared m ≡ true → ending (sign_of (word.Mark m)) ≡ true
mark_ends mark.Comma h = refl
mark_ends mark.Semicolon h = refl
mark_ends mark.Equal h = refl
mark_ends mark.OpenBrace h = refl
mark_ends m h = cc

leads_ending : (p : Piece) (ps : List Piece) (m : Mark) → p.word ≡ word.Mark m → ends_declared m ≡ true → Leads ending (p ∷ ps)
leads_ending p ps m q x = subst (λ w. ending (sign_of w) ≡ true) (sym q) (mark_ends m x)

named_leads : (i : Bool) (x : Declarator) (d : ℕ) (ps : List Piece) → IsDeclarator true x → Leads follows (declarator_pieces i x d ps)
named_leads i (declarator at (n ∷ ns) core bs) d ps w = refl
named_leads i (declarator at [] (named n) bs) d ps w = refl
named_leads i (declarator at [] (inner k x) bs) d ps w = refl
named_leads i (declarator at [] lacking bs) d ps w = absurd w.2

module _ (types : List (List ℕ)) (i : Bool) where
  pub whole_ends : (e : Expr) → IsExpr e → ReadsExpr types e true → (d : ℕ) (p : Piece) (ps : List Piece) (ts : List Spelled) (m : Mark) → p.word ≡ word.Mark m → ends_whole m ≡ true
      → AreMatched ts (expr_pieces i e d (p ∷ ps)) → EndsAt types at_whole ts p ps (behind_expr e)
  whole_ends e w y d p ps ts m q x h =
      ends_at types (expr_pieces i e d) (expr_front i e d) at_whole (behind_expr e) refl p ps ts
      (λ us v. reads types i (λ s. s ≡ behind_expr e) e w [] [] d (p ∷ []) us (floor_positive e) (low_stands [] e (omega arith)) y v (λ gs o rest same r.
      one_left types (in_expr [] (behind gs o)) (behind_expr e) p (word.Mark m) rest q (λ t. whole_last types e gs o t m x (same 1 (ends_level e))) r)) h

  pub single_ends : (e : Expr) → IsAssign e → IsExpr e → ReadsExpr types e true → (d : ℕ) (p : Piece) (ps : List Piece) (ts : List Spelled) (m : Mark) → p.word ≡ word.Mark m → ends_single m ≡ true
      → AreMatched ts (expr_pieces i e d (p ∷ ps)) → EndsAt types at_single ts p ps (behind_expr e)
  single_ends e a w y d p ps ts m q x h =
      ends_at types (expr_pieces i e d) (expr_front i e d) at_single (behind_expr e) refl p ps ts
      (λ us v. reads types i (λ s. s ≡ behind_expr e) e w [] (alone_frame ∷ []) d (p ∷ []) us (argument_floor e a) (low_stands (alone_frame ∷ []) e (omega arith)) y v (λ gs o rest same r.
      one_left types (in_expr [] (behind gs o)) (behind_expr e) p (word.Mark m) rest q (λ t. single_last types e gs o t m x (same 1 (ends_level e)) (same 2 (assign_level e a))) r)) h

  typed_behind : (b : Base) (x : Declarator) (p : Piece) (rest : List Spelled) → AreMatched rest (p ∷ []) → After types i (λ s. s ≡ behind_typed (type_name b x)) [] (declared (typed b [] ∷ alone ∷ []) x) rest
  typed_behind b x p [] r = absurd r
  typed_behind b x p (t ∷ []) r = refl
  typed_behind b x p (t ∷ u ∷ ts) r = absurd r.1

  declared_behind : (x : Declarator) (p : Piece) (rest : List Spelled) → AreMatched rest (p ∷ []) → After types i (λ s. s ≡ behind_declared x) [] (declared [] x) rest
  declared_behind x p [] r = absurd r
  declared_behind x p (t ∷ []) r = refl
  declared_behind x p (t ∷ u ∷ ts) r = absurd r.1

  both_end : (b : Base) (x : Declarator) (must : Bool) → IsBase b → ReadsBase types b → IsDeclarator must x → ReadsDeclarator types x → (d c : ℕ) (p : Piece) (ps : List Piece) (ts : List Spelled) → Leads ending (p ∷ [])
      → Leads follows (declarator_pieces i x c (p ∷ [])) → AreMatched ts (base_pieces i b d (declarator_pieces i x c (p ∷ ps))) → EndsAt types at_typed ts p ps (behind_typed (type_name b x))
  both_end b x must w y v z d c p ps ts l f h =
      ends_at types (λ ps. base_pieces i b d (declarator_pieces i x c ps)) (chain (base_pieces i b d) (declarator_pieces i x c) (base_front i b d) (declarator_front i x c)) at_typed (behind_typed (type_name b x)) refl p ps ts
      (λ us g. reads_base types i (λ s. s ≡ behind_typed (type_name b x)) b w y [] alone [] d _ us f g (λ rest r.
      reads_declarator types i (λ s. s ≡ behind_typed (type_name b x)) must x v z [] (typed b [] ∷ alone ∷ []) c (p ∷ []) rest l r (λ rest r. typed_behind b x p rest r))) h

  pub typed_ends : (b : Base) (x : Declarator) → IsBase b → ReadsBase types b → IsDeclarator true x → ReadsDeclarator types x → (d c : ℕ) (p : Piece) (ps : List Piece) (ts : List Spelled) (m : Mark) → p.word ≡ word.Mark m
      → ends_declared m ≡ true → AreMatched ts (base_pieces i b d (declarator_pieces i x c (p ∷ ps))) → EndsAt types at_typed ts p ps (behind_typed (type_name b x))
  typed_ends b x w y v z d c p ps ts m q k h = both_end b x true w y v z d c p ps ts (leads_ending p [] m q k) (named_leads i x c (p ∷ []) v) h

  pub base_ends : (b : Base) → IsBase b → ReadsBase types b → (d : ℕ) (p : Piece) (ps : List Piece) (ts : List Spelled) → p.word ≡ word.Mark mark.Semicolon
      → AreMatched ts (base_pieces i b d (p ∷ ps)) → EndsAt types at_typed ts p ps (behind_typed (type_name b (declarator 0 [] lacking no_brackets)))
  base_ends b w y d p ps ts q h =
      both_end b (declarator 0 [] lacking no_brackets) false w y (refl, tt, tt, tt) (tt, tt) d 0 p ps ts (leads_ending p [] mark.Semicolon q refl) (subst (λ w. follows (sign_of w) ≡ true) (sym q) refl) h

  pub declared_ends : (x : Declarator) → IsDeclarator true x → ReadsDeclarator types x → (d : ℕ) (p : Piece) (ps : List Piece) (ts : List Spelled) (m : Mark) → p.word ≡ word.Mark m
      → ends_declared m ≡ true → AreMatched ts (declarator_pieces i x d (p ∷ ps)) → EndsAt types at_declared ts p ps (behind_declared x)
  declared_ends x w y d p ps ts m q k h =
      ends_at types (declarator_pieces i x d) (declarator_front i x d) at_declared (behind_declared x) refl p ps ts
      (λ us g. reads_declarator types i (λ s. s ≡ behind_declared x) true x w y [] [] d (p ∷ []) us (leads_ending p [] m q k) g (λ rest r. declared_behind x p rest r)) h
