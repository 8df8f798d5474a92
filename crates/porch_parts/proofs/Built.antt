-- The reader's run over the tokens of an expression, or of a type, reaches it.
use Rattle.std.proofs.Common.{◌≡◌, ◌≢◌, ℕ, zero, suc, ◌+◌, ◌<◌, Bool, true, false, ◌&&◌, if◌then◌else◌, List, [], ◌∷◌, ◌++◌, Option, Some, None, refl, sym, ap, subst, ◌∙◌, arith}
use Rattle.porch_tree.specs.declared.word.Keyword.{Keyword}
use Rattle.porch_tree.specs.declared.word.Keyword.TheVariants as key
use Rattle.porch_tree.specs.declared.word.Word.{Word}
use Rattle.porch_tree.specs.declared.word.Word.TheVariants as word
use Rattle.porch_tree.specs.declared.word.Mark.TheVariants as mark
use Rattle.porch_tree.specs.declared.tree.Level.{Level}
use Rattle.porch_tree.specs.declared.tree.Infix.{Infix}
use Rattle.porch_tree.specs.declared.tree.Prefix.TheVariants as prefix_variant
use Rattle.porch_tree.specs.declared.tree.TagSort.{TagSort}
use Rattle.porch_tree.specs.declared.tree.TagSort.TheVariants as tag_sort
use Rattle.porch_tree.specs.declared.tree.Consts.{Consts}
use Rattle.porch_tree.specs.Words.{assigning_mark, level_rank, infix_level, infix_mark, tag_keyword, prefix_word}
use Rattle.porch_tree.specs.Mirror.{Name, Expr, name, whole, character, texts, nested, suffixed, prefixed, size_of, cast, row, conditional, assign, sequence, Exprs, no_exprs, with_expr, Operands, no_operands, with_operand, Perhaps, absent, present, Suffix, index, call, member, arrow, increased, decreased, Suffixes, no_suffixes, with_suffix, Base, kind, void, typedef_name, tag, structure, enumeration, Field, field, Fields, no_fields, with_field, Constant, constant, Constants, no_constants, with_constant, Declarator, declarator, Declarators, no_declarators, with_declarator, Core, lacking, named as named_core, inner, count, empty_list, void_list, param_list, Brackets, no_brackets, with_bracket, Param, param, Params, no_params as nothing_declared, with_param, TypeName, type_name}
use Rattle.porch_tree.specs.Views.{operands_of, declarators_of, params_of}
use Rattle.porch_tree.specs.Pieces.{Spelled, Piece, mark as mark_piece, piece, spelt, text_pieces, const_pieces, behind_consts, star_pieces, kind_pieces, tag_pieces, expr_pieces, operands_pieces, more_pieces, suffixes_pieces, suffix_pieces, base_pieces, fields_pieces, more_declarators_pieces, more_constants_pieces, constant_pieces, declarator_pieces, core_pieces, brackets_pieces, params_pieces, more_params_pieces, type_name_pieces, perhaps_pieces, first_bracket}
use Rattle.porch_tree.specs.Names.{IsNoType, ReadsExpr, ReadsOperands, ReadsExprs, ReadsSuffixes, ReadsSuffix, ReadsPerhaps, ReadsBase, ReadsFields, ReadsDeclarators, ReadsConstants, ReadsConstant, ReadsDeclarator, ReadsCore, ReadsBrackets, ReadsParams, ReadsTypeName, first_name}
use Rattle.porch_tree.specs.Formed.{IsPrimary, IsExpr, AreOperands, AreAssigns, AreSuffixes, IsSuffix, IsCount, IsBase, AreFields, AreDeclarators, AreConstants, IsConstant, IsDeclarator, IsCore, AreBrackets, AreParams, IsTypeName, HasTokens, IsPlacedAt, IsListFirst, IsNotVoid, IsPlaced, is_kind, IsAssign}
use Rattle.porch_tree.specs.Grammar.{Matches, AreMatched, HasPlace}
use Rattle.porch_parse.specs.Building.{Operand, Frame, behind_prefix, behind_infix, behind_colon, behind_assigning, behind_comma, behind_cast, in_parentheses, behind_question, in_brackets, in_arguments, in_cast, in_size, alone as alone_frame, awaits, behind, at_member, opened, at_type, over, operand, suffixed_by, value_of, closed, level_number, operated, behind_the_comma, behind_the_colon, behind_parenthesis, behind_bracket, behind_all, spelt_name, start_step, part_step, type_frames, top_prefix, sizeof_in, typed as typed_state, type_closed, expression_in, only}
use Rattle.porch_parse.specs.Building as building
use Rattle.porch_parse.specs.Parts.{start_of}
use Rattle.porch_parts.specs.Signs.{sign_of}
use Rattle.porch_parts.specs.declared.part.Front.{Front}
use Rattle.porch_parts.specs.declared.sign.Sign.{Sign}
use Rattle.porch_parts.specs.declared.sign.Sign.TheVariants as sign
use Rattle.porch_parts.specs.Types.{begins_params, core_step, constant_closed, Form, void_form, typedef_form, tag_form, fields_form, constants_form, front, Declaring, declaring, declared_by, bracketed, Part, typed, in_fields, in_constants, in_constant, in_params, in_count, in_inner, alone, Point, at_base, behind_words, at_tag, behind_tag, behind_form, at_constant, behind_constant, at_value, at_declarator, behind_star, at_core, behind_core, at_count, at_expr, Place, place, parameters, declared, type_step, words_step, form_base, given}
use Rattle.porch_parts.specs.Parts.{State, in_expr, in_type, expr_on, placed_on, step_on, run, begins, expr_of_state, expression_of}
use Rattle.porch_parts.proofs.Lists.{put, put_last, put_one, put_operands, operands_last, operands_one, with_suffixes, whole_suffixes, append_nothing, append_one}
use Rattle.porch_parts.proofs.Levels.{level, floor, top, floor_positive, ends_level, tighter_level, tighter_floor, condition_level, condition_floor, assign_level, assign_floor, cond_assign, unary_cast, operand_cast, cast_level, cast_floor, comma_floor, argument_floor, ends, stays, continues_row, begins_row, begins_sequence, infix_part, assigning_part, prefix_start, may, low_may, Stands, low_stands, operand_stands, cast_stands, row_low, awaits_on}
use Rattle.porch_parts.proofs.KindWords.{is_const, AreKindWords, only_behind, kind_only, kind_words, word_step, first_step}
use Rattle.porch_parts.proofs.Firsts.{IsBegun, begun, IsLed, Leads, led, IsOther, is_bracket, no_bracket_begun, IsStart, plain_starts, base_starts, params_lead}
use Rattle.porch_parts.proofs.TypeLists.{field_list, fields_back, constant_list, constants_back, declarator_list, declarators_back, params_list, params_back, with_all, declared_whole, not_void, follows, ending, at_a_core, inside, behind_a_tag, closing, based_words, based_form, tag_is_form, tag_sign, core_at_first, core_behind_star, core_ends, ends_at_core, follow_tags, brackets_end, params_at_core, inner_at_core, count_begins, constant_ends}

same_name : (t : Spelled) (n : Name) → t.at ≡ n.at → t.bytes ≡ n.bytes → n ≡ spelt_name t
same_name t n p q =
    subst (λ a. n ≡ record { at = a; bytes = t.bytes }) (sym p) (subst (λ b. n ≡ record { at = n.at; bytes = b }) (sym q) refl)

module _ (types : List (List ℕ)) (i : Bool) (G : State → Type 0) where
  -- What is read when these states stand before these tokens.
  abbrev pub From : State → List Spelled → Type 0
  From s ts = G (run types s ts)

  pub token : (s : State) (p : Piece) (ps : List Piece) (ts : List Spelled) → AreMatched ts (p ∷ ps)
      → ((t : Spelled) (rest : List Spelled) → Matches t p → AreMatched rest ps → From (step_on types s p.word t) rest) → From s ts
  token s p ps [] h k = absurd h
  token s p ps (t ∷ ts) h k = subst (λ w. From (step_on types s w t) ts) (sym h.0.word) (k t ts h.0 h.1)

  -- behind these frames and this operand stands what an expression behind frames is
  abbrev pub IsBehind : List Frame → Operand → ℕ → List Frame → Expr → Type 0
  IsBehind gs o l fs e = (n : ℕ) → n < l → closed n gs (value_of o) ≡ closed n fs e

  abbrev Goes : ℕ → List Part → List Frame → Expr → List Piece → Type 0
  Goes l qs fs e ps = (gs : List Frame) (o : Operand) (rest : List Spelled) → IsBehind gs o l fs e → AreMatched rest ps → From (in_expr qs (behind gs o)) rest

  -- from where an expression is awaited to behind it
  abbrev Reads : Expr → Type 0
  Reads e = (qs : List Part) (fs : List Frame) (d : ℕ) (ps : List Piece) (ts : List Spelled) → top fs < floor e → Stands fs e → ReadsExpr types e (may fs)
      → AreMatched ts (expr_pieces i e d ps) → Goes (level e) qs fs e ps → From (in_expr qs (awaits fs)) ts

  abbrev Exact : Expr → Type 0
  Exact e = (qs : List Part) (fs : List Frame) (d : ℕ) (ps : List Piece) (ts : List Spelled) → ReadsExpr types e (may fs) → AreMatched ts (expr_pieces i e d ps)
      → ((rest : List Spelled) → AreMatched rest ps → From (in_expr qs (behind fs (operand e))) rest) → From (in_expr qs (awaits fs)) ts

  of_exact : (e : Expr) → Exact e → Reads e
  of_exact e x qs fs d ps ts l s y h k = x qs fs d ps ts y h (λ rest r. k fs (operand e) rest (λ n z. refl) r)

  -- the frames and the value that a word finds
  pub found : (n : ℕ) (gs : List Frame) (o : Operand) (fs : List Frame) (e : Expr) (rest : List Spelled) (b : Bool) (qs : List Part) (w : Word) (t : Spelled) (go : List Frame → Expr → building.State)
      → closed n gs (value_of o) ≡ record { frames = fs; value = e } → From (expr_on b qs (go fs e) w t) rest
      → From (expr_on b qs (go (closed n gs (value_of o)).frames (closed n gs (value_of o)).value) w t) rest
  found n gs o fs e rest b qs w t go h k = subst (λ c. From (expr_on b qs (go c.frames c.value) w t) rest) (sym h) k

  texts_run : (ns : List Name) (n : Name) (ms : List Name) (qs : List Part) (fs : List Frame) (d : ℕ) (ps : List Piece) (ts : List Spelled) → AreMatched ts (text_pieces i ns d ps)
      → ((rest : List Spelled) → AreMatched rest ps → From (in_expr qs (behind fs (operand (texts n (ms ++ ns))))) rest) → From (in_expr qs (behind fs (operand (texts n ms)))) ts
  texts_run [] n ms qs fs d ps ts h k = subst (λ x. From (in_expr qs (behind fs (operand (texts n x)))) ts) (sym (append_nothing ms)) (k ts h)
  texts_run (m ∷ ns) n ms qs fs d ps ts h k =
      token (in_expr qs (behind fs (operand (texts n ms)))) _ _ ts h (λ t rest x r.
      subst (λ z. From (in_expr qs (behind fs (operand (texts n (ms ++ z ∷ []))))) rest) (same_name t m x.place x.bytes)
      (texts_run ns n (ms ++ m ∷ []) qs fs d ps rest r (λ rest r.
      subst (λ z. From (in_expr qs (behind fs (operand (texts n z)))) rest) (sym (append_one ms m ns)) (k rest r))))

  closes_row : (l : Level) (p : Infix) (x : Expr) (xs : List (Infix × Expr)) (e : Expr) → infix_level p ≡ l
      → row (infix_level p) x (operands_of (xs ++ (p, e) ∷ [])) ≡ row l x (put_operands xs (with_operand p e no_operands))
  closes_row l p x xs e h = ap (λ m. row m x (operands_of (xs ++ (p, e) ∷ []))) h ∙ ap (row l x) (operands_last xs p e)

  below : (p : Infix) (l : Level) → infix_level p ≡ l → (m : ℕ) → 4 + level_rank l < m → level_number p < m
  below p l q m h = subst (λ k. 4 + level_rank k < m) (sym q) h

  -- an operator behind the first operand of a row, and behind a further one
  operator : (p : Infix) (l : Level) (qs : List Part) (fs : List Frame) (e : Expr) (gs : List Frame) (o : Operand) (t : Spelled) (rest : List Spelled)
      → infix_level p ≡ l → IsBehind gs o (level e) fs e → top fs < 4 + level_rank l → 4 + level_rank l < level e
      → From (in_expr qs (awaits (behind_infix e [] p ∷ fs))) rest → From (step_on types (in_expr qs (behind gs o)) (word.Mark (infix_mark p)) t) rest
  operator p l qs fs e gs o t rest q same f deep k =
      let low : top fs < level_number p = subst (λ m. top fs < 4 + level_rank m) (sym q) f in
      subst (λ s. From (expr_on (begins types (word.Mark (infix_mark p)) t) qs (part_step gs o s t) (word.Mark (infix_mark p)) t) rest) (sym (infix_part p))
      (found (level_number p) gs o fs e rest (begins types (word.Mark (infix_mark p)) t) qs (word.Mark (infix_mark p)) t (operated p)
      (same (level_number p) (below p l q (level e) deep) ∙ stays (level_number p) fs e (omega (arith, low)))
      (subst (λ s. From (expr_on (begins types (word.Mark (infix_mark p)) t) qs s (word.Mark (infix_mark p)) t) rest) (sym (begins_row p fs e low)) k))

  operator_on : (s p : Infix) (l : Level) (qs : List Part) (fs : List Frame) (x : Expr) (xs : List (Infix × Expr)) (e : Expr) (gs : List Frame) (o : Operand) (t : Spelled) (rest : List Spelled)
      → infix_level s ≡ l → infix_level p ≡ l → IsBehind gs o (level e) (behind_infix x xs p ∷ fs) e → 4 + level_rank l < level e
      → From (in_expr qs (awaits (behind_infix x (xs ++ (p, e) ∷ []) s ∷ fs))) rest → From (step_on types (in_expr qs (behind gs o)) (word.Mark (infix_mark s)) t) rest
  operator_on s p l qs fs x xs e gs o t rest a q same deep k =
      let level_same : level_number p ≡ level_number s = ap (λ m. 4 + level_rank m) (q ∙ sym a) in
      subst (λ z. From (expr_on (begins types (word.Mark (infix_mark s)) t) qs (part_step gs o z t) (word.Mark (infix_mark s)) t) rest) (sym (infix_part s))
      (found (level_number s) gs o (behind_infix x xs p ∷ fs) e rest (begins types (word.Mark (infix_mark s)) t) qs (word.Mark (infix_mark s)) t (operated s)
      (same (level_number s) (below s l a (level e) deep) ∙ stays (level_number s) (behind_infix x xs p ∷ fs) e (omega (arith, level_same)))
      (subst (λ z. From (expr_on (begins types (word.Mark (infix_mark s)) t) qs z (word.Mark (infix_mark s)) t) rest) (sym (continues_row s p fs x xs e level_same)) k))

  name_exact : (n : Name) → Exact (name n)
  name_exact n qs fs d ps ts y h k =
      token (in_expr qs (awaits fs)) _ ps ts h (λ t rest m r. subst (λ x. From (in_expr qs (behind fs (operand (name x)))) rest) (same_name t n m.place m.bytes) (k rest r))

  whole_exact : (n : Name) → Exact (whole n)
  whole_exact n qs fs d ps ts y h k =
      token (in_expr qs (awaits fs)) _ ps ts h (λ t rest m r. subst (λ x. From (in_expr qs (behind fs (operand (whole x)))) rest) (same_name t n m.place m.bytes) (k rest r))

  character_exact : (n : Name) → Exact (character n)
  character_exact n qs fs d ps ts y h k =
      token (in_expr qs (awaits fs)) _ ps ts h (λ t rest m r. subst (λ x. From (in_expr qs (behind fs (operand (character x)))) rest) (same_name t n m.place m.bytes) (k rest r))

  texts_exact : (n : Name) (ns : List Name) → Exact (texts n ns)
  texts_exact n ns qs fs d ps ts y h k =
      token (in_expr qs (awaits fs)) _ _ ts h (λ t rest m r. subst (λ x. From (in_expr qs (behind fs (operand (texts x [])))) rest) (same_name t n m.place m.bytes)
      (texts_run ns n [] qs fs (suc d) ps rest r k))

  -- behind a parenthesis where a type may stand: no type, and a type
  plain_inside : (qs : List Part) (fs : List Frame) (at : ℕ) (ts : List Spelled) → IsStart types false ts
      → From (in_expr qs (awaits (in_parentheses at ∷ fs))) ts → From (in_expr qs (opened fs at)) ts
  plain_inside qs fs at [] h k = absurd h
  plain_inside qs fs at (t ∷ ts) h k =
      subst (λ (b : Bool). From (expr_on (begins types t.word t) qs (if b then typed_state fs at else start_step (in_parentheses at ∷ fs) (start_of t.word) t) t.word t) ts) (sym h) k

  type_inside : (qs : List Part) (fs : List Frame) (at : ℕ) (ts : List Spelled) (o : Option ℕ) → sizeof_in (top_prefix fs) ≡ o → IsStart types true ts
      → From (in_type (type_frames o fs at) (place (alone ∷ qs) at_base)) ts → From (in_expr qs (opened fs at)) ts
  type_inside qs fs at [] o q h k = absurd h
  type_inside qs fs at (t ∷ ts) o q h k =
      subst (λ (b : Bool). From (expr_on (begins types t.word t) qs (if b then typed_state fs at else start_step (in_parentheses at ∷ fs) (start_of t.word) t) t.word t) ts) (sym h)
      (subst (λ p. From (placed_on (begins types t.word t) (type_frames p fs at) (type_step (alone ∷ qs) at_base (sign_of t.word) t) t.word t) ts) (sym q) k)

  open_nested : (f : Bool) (qs : List Part) (fs : List Frame) (at : ℕ) (e : Expr) (t : Spelled) (d : ℕ) (ps : List Piece) (rest : List Spelled) → IsNoType types f e → AreMatched rest (expr_pieces i e d ps)
      → From (in_expr qs (awaits (in_parentheses at ∷ fs))) rest
      → From (expr_on false qs (if f then opened fs at else awaits (in_parentheses at ∷ fs)) (word.Mark mark.OpenParenthesis) t) rest
  open_nested true qs fs at e t d ps rest n r k = plain_inside qs fs at rest (plain_starts types (first_name e) rest n (begun i e d ps rest r)) k
  open_nested false qs fs at e t d ps rest n r k = k

  nested_exact : (at : ℕ) (e : Expr) → Reads e → Exact (nested at e)
  nested_exact at e reads qs fs d ps ts y h k =
      token (in_expr qs (awaits fs)) _ _ ts h (λ t rest m r.
      open_nested (may fs) qs fs t.at e t (suc (suc d)) _ rest y.0 r
      (reads qs (in_parentheses t.at ∷ fs) (suc (suc d)) _ rest (floor_positive e) (low_stands (in_parentheses t.at ∷ fs) e (omega arith)) y.1 r (λ gs o rest same r.
      token (in_expr qs (behind gs o)) _ ps rest r (λ u rest v r.
      found 1 gs o (in_parentheses t.at ∷ fs) e rest false qs (word.Mark mark.CloseParenthesis) u behind_parenthesis (same 1 (ends_level e))
      (subst (λ a. From (in_expr qs (behind fs (operand (nested a e)))) rest) (sym m.place) (k rest r))))))

  -- Reading types.

  abbrev T : List Frame → List Part → Point → State
  T fs qs x = in_type fs (place qs x)

  -- what a part comes to with the next token
  abbrev pub After : List Frame → (Sign → Place) → List Spelled → Type 0
  After fs z [] = ⊥
  After fs z (t ∷ ts) = From (placed_on (begins types t.word t) fs (z (sign_of t.word)) t.word t) ts

  pub after_token : (fs : List Frame) (z : Sign → Place) (p : Piece) (ps : List Piece) (ts : List Spelled) → AreMatched ts (p ∷ ps)
      → ((t : Spelled) (rest : List Spelled) → Matches t p → AreMatched rest ps → From (placed_on (begins types p.word t) fs (z (sign_of p.word)) p.word t) rest) → After fs z ts
  after_token fs z p ps [] h k = absurd h
  after_token fs z p ps (t ∷ ts) h k = subst (λ w. From (placed_on (begins types w t) fs (z (sign_of w)) w t) ts) (sym h.0.word) (k t ts h.0 h.1)

  -- two points do the same with the next token
  same_point : (fs : List Frame) (qs rs : List Part) (x y : Point) (test : Sign → Bool) (ts : List Spelled) → IsLed test ts
      → ((s : Sign) (t : Spelled) → test s ≡ true → type_step qs x s t ≡ type_step rs y s t) → From (T fs rs y) ts → From (T fs qs x) ts
  same_point fs qs rs x y test [] l q k = absurd l
  same_point fs qs rs x y test (t ∷ ts) l q k = subst (λ p. From (placed_on (begins types t.word t) fs p t.word t) ts) (sym (q (sign_of t.word) t l)) k

  ends_with : (fs : List Frame) (qs : List Part) (x : Point) (z : Sign → Place) (test : Sign → Bool) (ts : List Spelled) → IsLed test ts
      → ((s : Sign) (t : Spelled) → test s ≡ true → type_step qs x s t ≡ z s) → After fs z ts → From (T fs qs x) ts
  ends_with fs qs x z test [] l q k = absurd l
  ends_with fs qs x z test (t ∷ ts) l q k = subst (λ p. From (placed_on (begins types t.word t) fs p t.word t) ts) (sym (q (sign_of t.word) t l)) k

  -- an expression begins with the next token
  begins_expr : (fs : List Frame) (qs rs : List Part) (x : Point) (test : Sign → Bool) (ts : List Spelled) → IsOther test ts
      → ((s : Sign) (t : Spelled) → test s ≡ false → type_step qs x s t ≡ place rs at_expr) → From (in_expr rs (awaits (alone_frame ∷ fs))) ts → From (T fs qs x) ts
  begins_expr fs qs rs x test [] l q k = absurd l
  begins_expr fs qs rs x test (t ∷ ts) l q k =
      subst (λ p. From (placed_on (begins types t.word t) fs p t.word t) ts) (sym (q (sign_of t.word) t l))
      (subst (λ s. From s ts) (awaits_on (start_of t.word) (begins types t.word t) rs fs t.word t) k)

  -- an expression that stands alone ends in front of this word
  comma_after : (e : Expr) → IsAssign e → (fs : List Frame) (q : Part) (qs : List Part) (gs : List Frame) (o : Operand) (d : ℕ) (ps : List Piece) (ts : List Spelled) → IsBehind gs o (level e) (alone_frame ∷ fs) e
      → AreMatched ts (mark_piece i mark.Comma d ∷ ps) → After fs (given (q ∷ qs) e) ts → From (in_expr (q ∷ qs) (behind gs o)) ts
  comma_after e a fs q qs gs o d ps [] same h k = absurd h
  comma_after e a fs q qs gs o d ps (t ∷ ts) same h k =
      subst (λ w. From (placed_on (begins types w t) fs (given (q ∷ qs) e (sign_of w)) w t) ts → From (step_on types (in_expr (q ∷ qs) (behind gs o)) w t) ts) (sym h.0.word)
      (λ k. found 2 gs o (alone_frame ∷ fs) e ts false (q ∷ qs) (word.Mark mark.Comma) t behind_the_comma (same 2 (assign_level e a)) k) k

  brace_after : (e : Expr) (fs : List Frame) (q : Part) (qs : List Part) (gs : List Frame) (o : Operand) (d : ℕ) (ps : List Piece) (ts : List Spelled) → IsBehind gs o (level e) (alone_frame ∷ fs) e
      → AreMatched ts (mark_piece i mark.CloseBrace d ∷ ps) → After fs (given (q ∷ qs) e) ts → From (in_expr (q ∷ qs) (behind gs o)) ts
  brace_after e fs q qs gs o d ps [] same h k = absurd h
  brace_after e fs q qs gs o d ps (t ∷ ts) same h k =
      subst (λ w. From (placed_on (begins types w t) fs (given (q ∷ qs) e (sign_of w)) w t) ts → From (step_on types (in_expr (q ∷ qs) (behind gs o)) w t) ts) (sym h.0.word)
      (λ k. found 1 gs o (alone_frame ∷ fs) e ts false (q ∷ qs) (word.Mark mark.CloseBrace) t behind_all (same 1 (ends_level e)) k) k

  bracket_after : (e : Expr) (fs : List Frame) (q : Part) (qs : List Part) (gs : List Frame) (o : Operand) (d : ℕ) (ps : List Piece) (ts : List Spelled) → IsBehind gs o (level e) (alone_frame ∷ fs) e
      → AreMatched ts (mark_piece i mark.CloseBracket d ∷ ps) → After fs (given (q ∷ qs) e) ts → From (in_expr (q ∷ qs) (behind gs o)) ts
  bracket_after e fs q qs gs o d ps [] same h k = absurd h
  bracket_after e fs q qs gs o d ps (t ∷ ts) same h k =
      subst (λ w. From (placed_on (begins types w t) fs (given (q ∷ qs) e (sign_of w)) w t) ts → From (step_on types (in_expr (q ∷ qs) (behind gs o)) w t) ts) (sym h.0.word)
      (λ k. found 1 gs o (alone_frame ∷ fs) e ts false (q ∷ qs) (word.Mark mark.CloseBracket) t behind_bracket (same 1 (ends_level e)) k) k

  -- Bases.

  no_more : (n m : ℕ) → n + zero ≡ m → m ≡ n
  no_more n m e = omega (arith, e)

  behind_run : (k n m : ℕ) (fs : List Frame) (p : Part) (qs : List Part) (f : Front) (x : Form) (d : ℕ) (ps : List Piece) (ts : List Spelled) → n + k ≡ m → Leads follows ps → AreMatched ts (const_pieces i k None d ps)
      → ((rest : List Spelled) → AreMatched rest ps → From (T fs (typed (form_base f x m) [] ∷ p ∷ qs) at_declarator) rest) → From (T fs (p ∷ qs) (behind_form f x n)) ts
  behind_run zero n m fs p qs f x d ps ts e l h c =
      subst (λ j. From (T fs (p ∷ qs) (behind_form f x j)) ts) (no_more n m e)
      (same_point fs (p ∷ qs) (typed (form_base f x m) [] ∷ p ∷ qs) (behind_form f x m) at_declarator follows ts (led follows ps ts l h) (based_form p qs f x m) (c ts h))
  behind_run (suc k) n m fs p qs f x d ps ts e l h c =
      token (T fs (p ∷ qs) (behind_form f x n)) _ _ ts h (λ t rest z r. behind_run k (suc n) m fs p qs f x d ps rest (omega (arith, e)) l r c)

  consts_run : (k n m : ℕ) (fs : List Frame) (qs : List Part) (at : ℕ) (acc : List Keyword) (d : ℕ) (ps : List Piece) (ts : List Spelled) → n + k ≡ m → AreMatched ts (const_pieces i k None d ps)
      → ((ks : List Keyword) (rest : List Spelled) → AreMatched rest ps → From (T fs qs (behind_words at ks m true)) rest) → From (T fs qs (behind_words at acc n true)) ts
  consts_run zero n m fs qs at acc d ps ts e h c = subst (λ j. From (T fs qs (behind_words at acc j true)) ts) (no_more n m e) (c acc ts h)
  consts_run (suc k) n m fs qs at acc d ps ts e h c =
      token (T fs qs (behind_words at acc n true)) _ _ ts h (λ t rest z r. consts_run k (suc n) m fs qs at (acc ++ key.Const ∷ []) d ps rest (omega (arith, e)) r c)

  -- the word behind the `const` in front of a base
  fronted : (n at d : ℕ) (p : Piece) (ps : List Piece) (ts : List Spelled) (fs : List Frame) (q : Part) (qs : List Part) → (n ≡ 0 → p.at ≡ Some at)
      → ((t : Spelled) → type_step (q ∷ qs) at_base (sign_of p.word) t ≡ words_step (q ∷ qs) t.at [] 0 true (sign_of p.word) t)
      → AreMatched ts (const_pieces i n (Some at) d (p ∷ ps))
      → ((ks : List Keyword) (t : Spelled) (rest : List Spelled) → Matches t p → AreMatched rest ps
      → From (placed_on (begins types p.word t) fs (words_step (q ∷ qs) at ks n true (sign_of p.word) t) p.word t) rest) → From (T fs (q ∷ qs) at_base) ts
  fronted zero at d p ps ts fs q qs g b h c =
      token (T fs (q ∷ qs) at_base) p ps ts h (λ t rest m r.
      subst (λ z. From (placed_on (begins types p.word t) fs z p.word t) rest) (sym (b t))
      (subst (λ a. From (placed_on (begins types p.word t) fs (words_step (q ∷ qs) a [] 0 true (sign_of p.word) t) p.word t) rest) (sym (subst (λ o. HasPlace o t.at) (g refl) m.place)) (c [] t rest m r)))
  fronted (suc k) at d p ps ts fs q qs g b h c =
      token (T fs (q ∷ qs) at_base) _ _ ts h (λ t rest m r.
      consts_run k 1 (suc k) fs (q ∷ qs) t.at (key.Const ∷ []) d _ rest (omega arith) r (λ ks rest r.
      token (T fs (q ∷ qs) (behind_words t.at ks (suc k) true)) p ps rest r (λ u rest v r.
      subst (λ a. From (placed_on (begins types p.word u) fs (words_step (q ∷ qs) a ks (suc k) true (sign_of p.word) u) p.word u) rest) (sym m.place) (c ks u rest v r))))

  kind_run : (ks : List Keyword) → AreKindWords ks → (fs : List Frame) (qs : List Part) (at : ℕ) (acc : List Keyword) (n : ℕ) (b : Bool) (d : ℕ) (ps : List Piece) (ts : List Spelled) → AreMatched ts (kind_pieces i ks None d ps)
      → ((m : ℕ) (rest : List Spelled) → AreMatched rest ps → From (T fs qs (behind_words at (acc ++ ks) m (only_behind b ks))) rest) → From (T fs qs (behind_words at acc n b)) ts
  kind_run [] a fs qs at acc n b d ps ts h c = subst (λ z. From (T fs qs (behind_words at z n b)) ts) (sym (append_nothing acc)) (c n ts h)
  kind_run (k ∷ ks) a fs qs at acc n b d ps ts h c =
      token (T fs qs (behind_words at acc n b)) _ _ ts h (λ t rest m r.
      subst (λ z. From (placed_on (begins types (word.Key k) t) fs z (word.Key k) t) rest) (sym (word_step k qs at acc n b t a.0))
      (kind_run ks a.1 fs qs at (acc ++ k ∷ []) (suc n) (is_const k && b) d ps rest r (λ m rest r.
      subst (λ z. From (T fs qs (behind_words at z m (only_behind (is_const k && b) ks))) rest) (sym (append_one acc k ks)) (c m rest r))))

  abbrev BaseGoes : Base → Type 0
  BaseGoes b = (fs : List Frame) (p : Part) (qs : List Part) (d : ℕ) (ps : List Piece) (ts : List Spelled) → Leads follows ps → AreMatched ts (base_pieces i b d ps)
      → ((rest : List Spelled) → AreMatched rest ps → From (T fs (typed b [] ∷ p ∷ qs) at_declarator) rest) → From (T fs (p ∷ qs) at_base) ts

  no_kind : true ≡ false → ⊥
  no_kind h = cc

  kind_base : (at : ℕ) (ks : List Keyword) → is_kind ks ≡ true → AreKindWords ks → BaseGoes (kind at ks)
  kind_base at [] w a fs p qs d ps ts l h k = absurd (no_kind (kind_only [] w))
  kind_base at (v ∷ ks) w a fs p qs d ps ts l h k =
      token (T fs (p ∷ qs) at_base) _ _ ts h (λ t rest m r.
      subst (λ z. From (placed_on (begins types (word.Key v) t) fs z (word.Key v) t) rest) (sym (first_step v (p ∷ qs) t a.0))
      (kind_run ks a.1 fs (p ∷ qs) t.at (v ∷ []) 1 (is_const v && true) d ps rest r (λ n rest r.
      subst (λ b. From (T fs (p ∷ qs) (behind_words t.at (v ∷ ks) n b)) rest) (sym (kind_only (v ∷ ks) w))
      (same_point fs (p ∷ qs) (typed (kind t.at (v ∷ ks)) [] ∷ p ∷ qs) (behind_words t.at (v ∷ ks) n false) at_declarator follows rest (led follows ps rest l r) (based_words p qs t.at (v ∷ ks) n)
      (subst (λ b. From (T fs (typed (kind b (v ∷ ks)) [] ∷ p ∷ qs) at_declarator) rest) (sym m.place) (k rest r))))))

  void_base : (at : ℕ) (c : Consts) → BaseGoes (void at c)
  void_base at c fs p qs d ps ts l h k =
      fronted c.before at d (piece i (behind_consts c.before at) (word.Key key.Void) d) _ ts fs p qs (λ z. ap (λ n. behind_consts n at) z) (λ t. refl) h (λ ks t rest m r.
      behind_run c.behind 0 c.behind fs p qs (front at c.before) void_form d ps rest (omega arith) l r k)

  placed_first : (k at : ℕ) (n : Name) → IsPlaced k at n → k ≡ 0 → n.at ≡ at
  placed_first zero at n w e = sym w
  placed_first (suc k) at n w e = absurd (omega (arith, e))

  typedef_base : (at : ℕ) (n : Name) (c : Consts) → IsPlaced c.before at n → BaseGoes (typedef_name at n c)
  typedef_base at n c w fs p qs d ps ts l h k =
      fronted c.before at d (spelt i word.Name n d) _ ts fs p qs (λ z. ap Some (placed_first c.before at n w z)) (λ t. refl) h (λ ks t rest m r.
      subst (λ x. From (T fs (p ∷ qs) (behind_form (front at c.before) (typedef_form x) 0)) rest) (same_name t n m.place m.bytes)
      (behind_run c.behind 0 c.behind fs p qs (front at c.before) (typedef_form n) d ps rest (omega arith) l r k))

  tag_leads : (k d : ℕ) (ps : List Piece) → Leads follows ps → Leads behind_a_tag (const_pieces i k None d ps)
  tag_leads zero d [] l = absurd l
  tag_leads zero d (p ∷ ps) l = follow_tags (sign_of p.word) l
  tag_leads (suc k) d ps l = refl

  tag_first : (s : TagSort) (qs : List Part) (t : Spelled) → type_step qs at_base (sign_of (word.Key (tag_keyword s))) t ≡ words_step qs t.at [] 0 true (sign_of (word.Key (tag_keyword s))) t
  tag_first tag_sort.Struct qs t = refl
  tag_first s qs t = refl

  tag_base : (at : ℕ) (s : TagSort) (n : Name) (c : Consts) → BaseGoes (tag at s n c)
  tag_base at s n c fs p qs d ps ts l h k =
      fronted c.before at d (piece i (behind_consts c.before at) (word.Key (tag_keyword s)) d) _ ts fs p qs (λ z. ap (λ n. behind_consts n at) z) (tag_first s (p ∷ qs)) h (λ ks t rest m r.
      subst (λ x. From (placed_on (begins types (word.Key (tag_keyword s)) t) fs (words_step (p ∷ qs) at ks c.before true x t) (word.Key (tag_keyword s)) t) rest) (sym (tag_sign s))
      (token (T fs (p ∷ qs) (at_tag (front at c.before) s)) _ _ rest r (λ u rest v r.
      subst (λ x. From (T fs (p ∷ qs) (behind_tag (front at c.before) s x)) rest) (same_name u n v.place v.bytes)
      (same_point fs (p ∷ qs) (p ∷ qs) (behind_tag (front at c.before) s n) (behind_form (front at c.before) (tag_form s n) 0) behind_a_tag rest (led behind_a_tag _ rest (tag_leads c.behind d ps l) r) (tag_is_form (p ∷ qs) (front at c.before) s n)
      (behind_run c.behind 0 c.behind fs p qs (front at c.before) (tag_form s n) d ps rest (omega arith) l r k)))))

  struct_open : (n : Option Name) (fs : List Frame) (qs : List Part) (f : Front) (d : ℕ) (ps : List Piece) (ts : List Spelled) → AreMatched ts (tag_pieces i n d (mark_piece i mark.OpenBrace d ∷ ps))
      → ((rest : List Spelled) → AreMatched rest ps → From (T fs (in_fields f n [] ∷ qs) at_base) rest) → From (T fs qs (at_tag f tag_sort.Struct)) ts
  struct_open None fs qs f d ps ts h k = token (T fs qs (at_tag f tag_sort.Struct)) _ ps ts h (λ t rest m r. k rest r)
  struct_open (Some n) fs qs f d ps ts h k =
      token (T fs qs (at_tag f tag_sort.Struct)) _ _ ts h (λ t rest m r.
      token (T fs qs (behind_tag f tag_sort.Struct (spelt_name t))) _ ps rest r (λ u rest v r.
      subst (λ x. From (T fs (in_fields f (Some x) [] ∷ qs) at_base) rest) (same_name t n m.place m.bytes) (k rest r)))

  enum_open : (n : Option Name) (fs : List Frame) (qs : List Part) (f : Front) (d : ℕ) (ps : List Piece) (ts : List Spelled) → AreMatched ts (tag_pieces i n d (mark_piece i mark.OpenBrace d ∷ ps))
      → ((rest : List Spelled) → AreMatched rest ps → From (T fs (in_constants f n [] ∷ qs) at_constant) rest) → From (T fs qs (at_tag f tag_sort.Enum)) ts
  enum_open None fs qs f d ps ts h k = token (T fs qs (at_tag f tag_sort.Enum)) _ ps ts h (λ t rest m r. k rest r)
  enum_open (Some n) fs qs f d ps ts h k =
      token (T fs qs (at_tag f tag_sort.Enum)) _ _ ts h (λ t rest m r.
      token (T fs qs (behind_tag f tag_sort.Enum (spelt_name t))) _ ps rest r (λ u rest v r.
      subst (λ x. From (T fs (in_constants f (Some x) [] ∷ qs) at_constant) rest) (same_name t n m.place m.bytes) (k rest r)))

  -- Declarators.

  star_consts : (k n m : ℕ) (fs : List Frame) (qs : List Part) (at : ℕ) (acc : List ℕ) (d : ℕ) (ps : List Piece) (ts : List Spelled) → n + k ≡ m → AreMatched ts (const_pieces i k None d ps)
      → ((rest : List Spelled) → AreMatched rest ps → From (T fs qs (behind_star at acc m)) rest) → From (T fs qs (behind_star at acc n)) ts
  star_consts zero n m fs qs at acc d ps ts e h c = subst (λ j. From (T fs qs (behind_star at acc j)) ts) (no_more n m e) (c ts h)
  star_consts (suc k) n m fs qs at acc d ps ts e h c =
      token (T fs qs (behind_star at acc n)) _ _ ts h (λ t rest z r. star_consts k (suc n) m fs qs at acc d ps rest (omega (arith, e)) r c)

  stars_run : (ns : List ℕ) (n : ℕ) (acc : List ℕ) (fs : List Frame) (qs : List Part) (at d : ℕ) (ps : List Piece) (ts : List Spelled) → AreMatched ts (const_pieces i n None d (star_pieces i ns None d ps))
      → ((ss : List ℕ) (j : ℕ) → ss ++ j ∷ [] ≡ acc ++ n ∷ ns → (rest : List Spelled) → AreMatched rest ps → From (T fs qs (behind_star at ss j)) rest) → From (T fs qs (behind_star at acc 0)) ts
  stars_run [] n acc fs qs at d ps ts h c = star_consts n 0 n fs qs at acc d ps ts (omega arith) h (λ rest r. c acc n refl rest r)
  stars_run (j ∷ js) n acc fs qs at d ps ts h c =
      star_consts n 0 n fs qs at acc d _ ts (omega arith) h (λ rest r.
      token (T fs qs (behind_star at acc n)) _ _ rest r (λ t rest m r.
      stars_run js j (acc ++ n ∷ []) fs qs at d ps rest r (λ ss l e rest r. c ss l (e ∙ append_one acc n (j ∷ js)) rest r)))

  pub declarator_leads : (x : Declarator) (d : ℕ) (ps : List Piece) → Leads follows ps → Leads follows (declarator_pieces i x d ps)
  declarator_leads (declarator at (n ∷ ns) core bs) d ps l = refl
  declarator_leads (declarator at [] (named_core n) bs) d ps l = refl
  declarator_leads (declarator at [] (inner k x) bs) d ps l = refl
  declarator_leads (declarator at [] lacking no_brackets) d ps l = l
  declarator_leads (declarator at [] lacking (with_bracket (count e) bs)) d ps l = refl
  declarator_leads (declarator at [] lacking (with_bracket empty_list bs)) d ps l = refl
  declarator_leads (declarator at [] lacking (with_bracket void_list bs)) d ps l = refl
  declarator_leads (declarator at [] lacking (with_bracket (param_list xs) bs)) d ps l = refl

  inner_leads : (x : Declarator) (d : ℕ) (ps : List Piece) → HasTokens x → Leads inside (declarator_pieces i x d ps)
  inner_leads (declarator at (n ∷ ns) core bs) d ps l = refl
  inner_leads (declarator at [] (named_core n) bs) d ps l = refl
  inner_leads (declarator at [] (inner k x) bs) d ps l = refl
  inner_leads (declarator at [] lacking no_brackets) d ps l = absurd l
  inner_leads (declarator at [] lacking (with_bracket (count e) bs)) d ps l = refl
  inner_leads (declarator at [] lacking (with_bracket empty_list bs)) d ps l = refl
  inner_leads (declarator at [] lacking (with_bracket void_list bs)) d ps l = refl
  inner_leads (declarator at [] lacking (with_bracket (param_list xs) bs)) d ps l = refl

  members_end : (xs : Declarators) (d : ℕ) (ps : List Piece) → Leads ending (more_declarators_pieces i xs d (mark_piece i mark.Semicolon d ∷ ps))
  members_end no_declarators d ps = refl
  members_end (with_declarator x xs) d ps = refl

  members_follow : (xs : Declarators) (d : ℕ) (ps : List Piece) → Leads follows (more_declarators_pieces i xs d (mark_piece i mark.Semicolon d ∷ ps))
  members_follow no_declarators d ps = refl
  members_follow (with_declarator x xs) d ps = refl

  params_end : (xs : Params) (d : ℕ) (ps : List Piece) → Leads ending (more_params_pieces i xs d (mark_piece i mark.CloseParenthesis d ∷ ps))
  params_end nothing_declared d ps = refl
  params_end (with_param x xs) d ps = refl

  params_follow : (xs : Params) (d : ℕ) (ps : List Piece) → Leads follows (more_params_pieces i xs d (mark_piece i mark.CloseParenthesis d ∷ ps))
  params_follow nothing_declared d ps = refl
  params_follow (with_param x xs) d ps = refl

  constants_end : (cs : Constants) (d : ℕ) (ps : List Piece) → Leads closing (more_constants_pieces i cs d (mark_piece i mark.CloseBrace d ∷ ps))
  constants_end no_constants d ps = refl
  constants_end (with_constant c cs) d ps = refl

  parameters_are : (xs : Params) → IsNotVoid xs → parameters (params_list xs) ≡ param_list xs
  parameters_are xs h = ap (λ (z : Bool). if z then void_list else param_list (params_of (params_list xs))) (not_void xs h) ∙ ap param_list (params_back xs)

  value_closed : (cs : Constants) (e : Expr) → IsAssign e → (fs : List Frame) (q : Part) (qs : List Part) (gs : List Frame) (o : Operand) (d : ℕ) (ps : List Piece) (ts : List Spelled) → IsBehind gs o (level e) (alone_frame ∷ fs) e
      → AreMatched ts (more_constants_pieces i cs d (mark_piece i mark.CloseBrace d ∷ ps)) → After fs (given (q ∷ qs) e) ts → From (in_expr (q ∷ qs) (behind gs o)) ts
  value_closed no_constants e a fs q qs gs o d ps ts same h k = brace_after e fs q qs gs o d ps ts same h k
  value_closed (with_constant c cs) e a fs q qs gs o d ps ts same h k = comma_after e a fs q qs gs o d _ ts same h k

  any_expr : (o : Option (List ℕ)) (ts : List Spelled) → IsBegun o ts → IsOther (λ s. false) ts
  any_expr o [] h = absurd h
  any_expr o (t ∷ ts) h = refl

  type_starts : (x : TypeName) → IsTypeName x → ReadsTypeName types x → (d : ℕ) (ps : List Piece) (ts : List Spelled) → AreMatched ts (type_name_pieces i x d ps) → IsStart types true ts
  type_starts (type_name b x) w y d ps ts h = base_starts types i b d _ ts w.0 y.0 h

  -- where the first token of a core or of what stands behind it lies
  abbrev first_place : Core → Option ℕ → Option ℕ
  first_place (named_core n) o = Some n.at
  first_place (inner k x) o = Some k
  first_place lacking o = o

  first_at : (a : ℕ) (core : Core) (bs : Brackets) (t : Spelled) → IsPlacedAt a [] core bs → HasPlace (first_place core (first_bracket a [] core)) t.at → t.at ≡ a
  first_at a (named_core n) bs t w h = h ∙ sym w
  first_at a (inner k x) bs t w h = h ∙ sym w
  first_at a lacking bs t w h = h

  empty_at : (a : ℕ) (core : Core) (bs : Brackets) → IsPlacedAt a [] core bs → core ≡ lacking → bs ≡ no_brackets → declarator 0 [] lacking no_brackets ≡ declarator a [] core bs
  empty_at a lacking no_brackets w e f = ap (λ a. declarator a [] lacking no_brackets) (sym w)
  empty_at a lacking (with_bracket b bs) w e f = cc
  empty_at a (named_core n) bs w e f = cc
  empty_at a (inner k x) bs w e f = cc

  rest_lacks : (a : ℕ) (ss : List ℕ) (core : Core) (bs : Brackets) → core ≡ lacking → bs ≡ no_brackets → declarator a ss lacking no_brackets ≡ declarator a ss core bs
  rest_lacks a ss core bs e f = ap (λ c. declarator a ss c no_brackets) (sym e) ∙ ap (declarator a ss core) (sym f)

  given_constant : (fs : List Frame) (n : Name) (e : Expr) (qs : List Part) (ts : List Spelled) → After fs (constant_closed qs (constant n (present e))) ts → After fs (given (in_constant n ∷ qs) e) ts
  given_constant fs n e qs [] k = k
  given_constant fs n e qs (t ∷ ts) k = k

  abbrev BracketsGo : Brackets → Type 0
  BracketsGo bs = (fs : List Frame) (qs : List Part) (x : Declaring) (o : Option ℕ) (d : ℕ) (ps : List Piece) (ts : List Spelled) → Leads ending ps
      → AreMatched ts (brackets_pieces i bs o d ps) → ((rest : List Spelled) → AreMatched rest ps → After fs (declared qs (declared_by (with_all x bs))) rest) → From (T fs qs (behind_core x)) ts

  abbrev LackingGo : Brackets → Type 0
  LackingGo bs = (fs : List Frame) (qs : List Part) (x : Point) (at : Spelled → ℕ) (a : ℕ) (o : Option ℕ) (ss : List ℕ) (last : Declarator) (d : ℕ) (ps : List Piece) (ts : List Spelled) → IsListFirst lacking bs
      → ((s : Sign) (t : Spelled) → at_a_core s ≡ true → type_step qs x s t ≡ core_step qs (at t) ss last s t)
      → ((t : Spelled) → HasPlace o t.at → at t ≡ a) → (bs ≡ no_brackets → last ≡ declarator a ss lacking bs)
      → Leads ending ps → AreMatched ts (brackets_pieces i bs o d ps)
      → ((rest : List Spelled) → AreMatched rest ps → After fs (declared qs (declarator a ss lacking bs)) rest) → From (T fs qs x) ts

  mutual
    exact : (e : Expr) → IsPrimary e → IsExpr e → Exact e
    exact (name n) g w = name_exact n
    exact (whole n) g w = whole_exact n
    exact (character n) g w = character_exact n
    exact (texts n ns) g w = texts_exact n ns
    exact (nested at e) g w = nested_exact at e (reads e w)
    exact (suffixed e ss) g w = absurd g
    exact (prefixed at p e) g w = absurd g
    exact (size_of at t) g w = absurd g
    exact (cast at t e) g w = absurd g
    exact (row l e os) g w = absurd g
    exact (conditional e a b) g w = absurd g
    exact (assign a x e) g w = absurd g
    exact (sequence e es) g w = absurd g

    pub reads : (e : Expr) → IsExpr e → Reads e
    reads (name n) w qs fs d ps ts l s y h k = of_exact (name n) (name_exact n) qs fs d ps ts l s y h k
    reads (whole n) w qs fs d ps ts l s y h k = of_exact (whole n) (whole_exact n) qs fs d ps ts l s y h k
    reads (character n) w qs fs d ps ts l s y h k = of_exact (character n) (character_exact n) qs fs d ps ts l s y h k
    reads (texts n ns) w qs fs d ps ts l s y h k = of_exact (texts n ns) (texts_exact n ns) qs fs d ps ts l s y h k
    reads (nested at e) w qs fs d ps ts l s y h k = of_exact (nested at e) (nested_exact at e (reads e w)) qs fs d ps ts l s y h k
    reads (suffixed e ss) w qs fs d ps ts l s y h k =
        exact e w.0 w.1 qs fs d _ ts y.0 h (λ rest r.
        suffixes_run ss w.3 y.1 qs fs (operand e) (suc d) ps rest r (λ rest r.
        k fs (with_suffixes (operand e) ss) rest (λ n z. ap (closed n fs) (whole_suffixes e ss w.2)) r))
    reads (prefixed at p e) w qs fs d ps ts l s y h k =
        token (in_expr qs (awaits fs)) _ _ ts h (λ t rest m r.
        subst (λ x. From (expr_on (begins types (prefix_word p) t) qs (start_step fs x t) (prefix_word p) t) rest) (sym (prefix_start p))
        (reads e w.1 qs (behind_prefix t.at p ∷ fs) (suc d) ps rest (cast_floor e (operand_cast p e w.0)) (operand_stands t.at p fs e w.0) y r (λ gs o rest same r.
        k gs o rest (λ n z. let deep = cast_level e (operand_cast p e w.0) in same n (omega (arith, z, deep))
        ∙ ends n (behind_prefix t.at p) fs e z ∙ ap (λ a. closed n fs (prefixed a p e)) m.place) r)))
    reads (size_of at x) w qs fs d ps ts l s y h k =
        token (in_expr qs (awaits fs)) _ _ ts h (λ t rest m r.
        token (in_expr qs (awaits (behind_prefix t.at prefix_variant.Sizeof ∷ fs))) _ _ rest r (λ u rest v r.
        type_inside qs (behind_prefix t.at prefix_variant.Sizeof ∷ fs) u.at rest (Some t.at) refl (type_starts x w y (suc d) _ rest r)
        (reads_type_name x w y (in_size t.at) fs qs (suc d) (suc d) ps rest r (λ rest r.
        subst (λ a. From (in_expr qs (behind fs (operand (size_of a x)))) rest) (sym m.place) (k fs (operand (size_of at x)) rest (λ n z. refl) r)))))
    reads (cast at x e) w qs fs d ps ts l s y h k =
        token (in_expr qs (awaits fs)) _ _ ts h (λ t rest m r.
        subst (λ (b : Bool). From (expr_on false qs (if b then opened fs t.at else awaits (in_parentheses t.at ∷ fs)) (word.Mark mark.OpenParenthesis) t) rest) (sym s.0)
        (type_inside qs fs t.at rest None s.1 (type_starts x w.0 y.0 (suc d) _ rest r)
        (reads_type_name x w.0 y.0 (in_cast t.at) fs qs (suc d) (suc d) _ rest r (λ rest r.
        reads e w.2 qs (behind_cast t.at x ∷ fs) (suc d) ps rest (cast_floor e w.1) (cast_stands t.at x fs e) y.1 r (λ gs o rest same r.
        k gs o rest (λ n z. let deep = cast_level e w.1 in same n (omega (arith, z, deep))
        ∙ ends n (behind_cast t.at x) fs e z ∙ ap (λ a. closed n fs (cast a x e)) m.place) r)))))
    reads (row l e no_operands) w qs fs d ps ts f s y h k = absurd (w.2 refl)
    reads (row l e (with_operand p x os)) w qs fs d ps ts f s y h k =
        let deep = tighter_level l e w.0 in
        let low = tighter_floor l e w.0 in
        let small = row_low l in
        let few : top fs < 14 = omega (arith, f, small) in
        reads e w.1 qs fs d _ ts (omega (arith, f, low)) (low_stands fs e few) (subst (ReadsExpr types e) (sym (low_may fs few)) y.0) h (λ gs o rest same r.
        token (in_expr qs (behind gs o)) _ _ rest r (λ t rest m r.
        operator p l qs fs e gs o t rest w.3.0 same f deep
        (reads x w.3.2 qs (behind_infix e [] p ∷ fs) d _ rest (below p l w.3.0 _ (tighter_floor l x w.3.1)) (low_stands (behind_infix e [] p ∷ fs) x (row_low (infix_level p))) y.1.0 r (λ gs o rest same r.
        more_operands l os w.3.3 y.1.1 qs fs e [] p x d ps rest w.3.0 (tighter_level l x w.3.1) gs o same r k))))
    reads (conditional c a b) w qs fs d ps ts f s y h k =
        let deep = condition_level c w.0 in
        let low = condition_floor c w.0 in
        let few : top fs < 14 = omega (arith, f) in
        reads c w.1 qs fs (suc d) _ ts (omega (arith, f, low)) (low_stands fs c few) (subst (ReadsExpr types c) (sym (low_may fs few)) y.0) h (λ gs o rest same r.
        token (in_expr qs (behind gs o)) _ _ rest r (λ t rest m r.
        found 3 gs o fs c rest false qs (word.Mark mark.Question) t (λ hs e. awaits (behind_question e ∷ hs)) (same 3 deep ∙ stays 3 fs c (omega (arith, f)))
        (reads a w.2 qs (behind_question c ∷ fs) (suc (suc d)) _ rest (floor_positive a) (low_stands (behind_question c ∷ fs) a (omega arith)) y.1 r (λ gs o rest same r.
        token (in_expr qs (behind gs o)) _ _ rest r (λ t rest m r.
        found 1 gs o (behind_question c ∷ fs) a rest false qs (word.Mark mark.Colon) t behind_the_colon (same 1 (ends_level a))
        (reads b w.4 qs (behind_colon c a ∷ fs) (suc d) ps rest (assign_floor b (cond_assign b w.3)) (low_stands (behind_colon c a ∷ fs) b (omega arith)) y.2 r (λ gs o rest same r.
        k gs o rest (λ n z. let l = assign_level b (cond_assign b w.3) in same n (omega (arith, z, l)) ∙ ends n (behind_colon c a) fs b z) r)))))))
    reads (assign a x e) w qs fs d ps ts f s y h k =
        let deep = cast_level x (unary_cast x w.0) in
        let low = cast_floor x (unary_cast x w.0) in
        let few : top fs < 14 = omega (arith, f) in
        reads x w.1 qs fs (suc d) _ ts (omega (arith, f, low)) (low_stands fs x few) (subst (ReadsExpr types x) (sym (low_may fs few)) y.0) h (λ gs o rest same r.
        token (in_expr qs (behind gs o)) _ _ rest r (λ t rest m r.
        subst (λ v. From (expr_on (begins types (word.Mark (assigning_mark a)) t) qs (part_step gs o v t) (word.Mark (assigning_mark a)) t) rest) (sym (assigning_part a))
        (found 3 gs o fs x rest (begins types (word.Mark (assigning_mark a)) t) qs (word.Mark (assigning_mark a)) t (λ hs v. awaits (behind_assigning a v ∷ hs)) (same 3 (omega (arith, deep)) ∙ stays 3 fs x (omega (arith, f)))
        (reads e w.3 qs (behind_assigning a x ∷ fs) (suc d) ps rest (assign_floor e w.2) (low_stands (behind_assigning a x ∷ fs) e (omega arith)) y.1 r (λ gs o rest same r.
        k gs o rest (λ n z. let l = assign_level e w.2 in same n (omega (arith, z, l)) ∙ ends n (behind_assigning a x) fs e z) r)))))
    reads (sequence e no_exprs) w qs fs d ps ts f s y h k = absurd (w.2 refl)
    reads (sequence e (with_expr x es)) w qs fs d ps ts f s y h k =
        let deep = assign_level e w.0 in
        let low = assign_floor e w.0 in
        let few : top fs < 14 = omega (arith, f) in
        reads e w.1 qs fs d _ ts (omega (arith, f, low)) (low_stands fs e few) (subst (ReadsExpr types e) (sym (low_may fs few)) y.0) h (λ gs o rest same r.
        token (in_expr qs (behind gs o)) _ _ rest r (λ t rest m r.
        found 2 gs o fs e rest false qs (word.Mark mark.Comma) t behind_the_comma (same 2 deep ∙ stays 2 fs e (omega (arith, f)))
        (subst (λ v. From (expr_on false qs v (word.Mark mark.Comma) t) rest) (sym (begins_sequence fs e f))
        (reads x w.3.1 qs (behind_comma e [] ∷ fs) d _ rest (comma_floor x w.3.0) (low_stands (behind_comma e [] ∷ fs) x (omega arith)) y.1.0 r (λ gs o rest same r.
        more_sequence es w.3.2 y.1.1 qs fs e [] x d ps rest (assign_level x w.3.0) gs o same r k)))))

    more_operands : (l : Level) (os : Operands) → AreOperands l os → ReadsOperands types os → (qs : List Part) (fs : List Frame) (x : Expr) (xs : List (Infix × Expr)) (p : Infix) (e : Expr) (d : ℕ) (ps : List Piece) (ts : List Spelled)
        → infix_level p ≡ l → 4 + level_rank l < level e → (gs : List Frame) (o : Operand) → IsBehind gs o (level e) (behind_infix x xs p ∷ fs) e → AreMatched ts (operands_pieces i os d ps)
        → Goes (4 + level_rank l) qs fs (row l x (put_operands xs (with_operand p e os))) ps → From (in_expr qs (behind gs o)) ts
    more_operands l no_operands w y qs fs x xs p e d ps ts q deep gs o same r k =
        k gs o ts (λ n z. same n (omega (arith, z, deep)) ∙ ends n (behind_infix x xs p) fs e (subst (λ m. n < 4 + level_rank m) (sym q) z) ∙ ap (closed n fs) (closes_row l p x xs e q)) r
    more_operands l (with_operand s v os) w y qs fs x xs p e d ps ts q deep gs o same r k =
        token (in_expr qs (behind gs o)) _ _ ts r (λ t rest m r.
        operator_on s p l qs fs x xs e gs o t rest w.0 q same deep
        (reads v w.2 qs (behind_infix x (xs ++ (p, e) ∷ []) s ∷ fs) d _ rest (below s l w.0 _ (tighter_floor l v w.1)) (low_stands (behind_infix x (xs ++ (p, e) ∷ []) s ∷ fs) v (row_low (infix_level s))) y.0 r (λ gs o rest same r.
        more_operands l os w.3 y.1 qs fs x (xs ++ (p, e) ∷ []) s v d ps rest w.0 (tighter_level l v w.1) gs o same r
        (subst (λ z. Goes (4 + level_rank l) qs fs (row l x z) ps) (sym (operands_one xs p e (with_operand s v os))) k))))

    more_sequence : (es : Exprs) → AreAssigns es → ReadsExprs types es → (qs : List Part) (fs : List Frame) (x : Expr) (xs : List Expr) (e : Expr) (d : ℕ) (ps : List Piece) (ts : List Spelled)
        → 2 < level e → (gs : List Frame) (o : Operand) → IsBehind gs o (level e) (behind_comma x xs ∷ fs) e → AreMatched ts (more_pieces i es d ps)
        → Goes 2 qs fs (sequence x (put xs (with_expr e es))) ps → From (in_expr qs (behind gs o)) ts
    more_sequence no_exprs w y qs fs x xs e d ps ts deep gs o same r k =
        k gs o ts (λ n z. same n (omega (arith, z, deep)) ∙ ends n (behind_comma x xs) fs e z ∙ ap (λ v. closed n fs (sequence x v)) (put_last xs e)) r
    more_sequence (with_expr v es) w y qs fs x xs e d ps ts deep gs o same r k =
        token (in_expr qs (behind gs o)) _ _ ts r (λ t rest m r.
        found 2 gs o (behind_comma x xs ∷ fs) e rest false qs (word.Mark mark.Comma) t behind_the_comma (same 2 deep)
        (reads v w.1 qs (behind_comma x (xs ++ e ∷ []) ∷ fs) d _ rest (comma_floor v w.0) (low_stands (behind_comma x (xs ++ e ∷ []) ∷ fs) v (omega arith)) y.0 r (λ gs o rest same r.
        more_sequence es w.2 y.1 qs fs x (xs ++ e ∷ []) v d ps rest (assign_level v w.0) gs o same r
        (subst (λ z. Goes 2 qs fs (sequence x z) ps) (sym (put_one xs e (with_expr v es))) k))))

    suffixes_run : (ss : Suffixes) → AreSuffixes ss → ReadsSuffixes types ss → (qs : List Part) (fs : List Frame) (o : Operand) (d : ℕ) (ps : List Piece) (ts : List Spelled) → AreMatched ts (suffixes_pieces i ss d ps)
        → ((rest : List Spelled) → AreMatched rest ps → From (in_expr qs (behind fs (with_suffixes o ss))) rest) → From (in_expr qs (behind fs o)) ts
    suffixes_run no_suffixes w y qs fs o d ps ts h k = k ts h
    suffixes_run (with_suffix s ss) w y qs fs o d ps ts h k =
        suffix_run s w.0 y.0 qs fs o d _ ts h (λ rest r. suffixes_run ss w.1 y.1 qs fs (suffixed_by o s) d ps rest r k)

    suffix_run : (s : Suffix) → IsSuffix s → ReadsSuffix types s → (qs : List Part) (fs : List Frame) (o : Operand) (d : ℕ) (ps : List Piece) (ts : List Spelled) → AreMatched ts (suffix_pieces i s d ps)
        → ((rest : List Spelled) → AreMatched rest ps → From (in_expr qs (behind fs (suffixed_by o s))) rest) → From (in_expr qs (behind fs o)) ts
    suffix_run (index e) w y qs fs o d ps ts h k =
        token (in_expr qs (behind fs o)) _ _ ts h (λ t rest m r.
        reads e w qs (in_brackets o ∷ fs) (suc d) _ rest (floor_positive e) (low_stands (in_brackets o ∷ fs) e (omega arith)) y r (λ gs v rest same r.
        token (in_expr qs (behind gs v)) _ ps rest r (λ t rest m r.
        found 1 gs v (in_brackets o ∷ fs) e rest false qs (word.Mark mark.CloseBracket) t behind_bracket (same 1 (ends_level e)) (k rest r))))
    suffix_run (call no_exprs) w y qs fs o d ps ts h k =
        token (in_expr qs (behind fs o)) _ _ ts h (λ t rest m r. token (in_expr qs (awaits (in_arguments o [] ∷ fs))) _ ps rest r (λ t rest m r. k rest r))
    suffix_run (call (with_expr e es)) w y qs fs o d ps ts h k =
        token (in_expr qs (behind fs o)) _ _ ts h (λ t rest m r.
        reads e w.1 qs (in_arguments o [] ∷ fs) d _ rest (argument_floor e w.0) (low_stands (in_arguments o [] ∷ fs) e (omega arith)) y.0 r (λ gs v rest same r.
        more_arguments es w.2 y.1 qs fs o [] e d ps rest (assign_level e w.0) gs v same r k))
    suffix_run (member n) w y qs fs o d ps ts h k =
        token (in_expr qs (behind fs o)) _ _ ts h (λ t rest m r. token (in_expr qs (at_member false fs o)) _ ps rest r (λ t rest m r.
        subst (λ x. From (in_expr qs (behind fs (suffixed_by o (member x)))) rest) (same_name t n m.place m.bytes) (k rest r)))
    suffix_run (arrow n) w y qs fs o d ps ts h k =
        token (in_expr qs (behind fs o)) _ _ ts h (λ t rest m r. token (in_expr qs (at_member true fs o)) _ ps rest r (λ t rest m r.
        subst (λ x. From (in_expr qs (behind fs (suffixed_by o (arrow x)))) rest) (same_name t n m.place m.bytes) (k rest r)))
    suffix_run increased w y qs fs o d ps ts h k = token (in_expr qs (behind fs o)) _ ps ts h (λ t rest m r. k rest r)
    suffix_run decreased w y qs fs o d ps ts h k = token (in_expr qs (behind fs o)) _ ps ts h (λ t rest m r. k rest r)

    more_arguments : (es : Exprs) → AreAssigns es → ReadsExprs types es → (qs : List Part) (fs : List Frame) (o : Operand) (xs : List Expr) (e : Expr) (d : ℕ) (ps : List Piece) (ts : List Spelled)
        → 2 < level e → (gs : List Frame) (v : Operand) → IsBehind gs v (level e) (in_arguments o xs ∷ fs) e → AreMatched ts (more_pieces i es d (mark_piece i mark.CloseParenthesis d ∷ ps))
        → ((rest : List Spelled) → AreMatched rest ps → From (in_expr qs (behind fs (suffixed_by o (call (put xs (with_expr e es)))))) rest) → From (in_expr qs (behind gs v)) ts
    more_arguments no_exprs w y qs fs o xs e d ps ts deep gs v same r k =
        token (in_expr qs (behind gs v)) _ ps ts r (λ t rest m r.
        found 1 gs v (in_arguments o xs ∷ fs) e rest false qs (word.Mark mark.CloseParenthesis) t behind_parenthesis (same 1 (ends_level e))
        (subst (λ z. From (in_expr qs (behind fs (suffixed_by o (call z)))) rest) (sym (put_last xs e)) (k rest r)))
    more_arguments (with_expr x es) w y qs fs o xs e d ps ts deep gs v same r k =
        token (in_expr qs (behind gs v)) _ _ ts r (λ t rest m r.
        found 2 gs v (in_arguments o xs ∷ fs) e rest false qs (word.Mark mark.Comma) t behind_the_comma (same 2 deep)
        (reads x w.1 qs (in_arguments o (xs ++ e ∷ []) ∷ fs) d _ rest (argument_floor x w.0) (low_stands (in_arguments o (xs ++ e ∷ []) ∷ fs) x (omega arith)) y.0 r (λ gs v rest same r.
        more_arguments es w.2 y.1 qs fs o (xs ++ e ∷ []) x d ps rest (assign_level x w.0) gs v same r (λ rest r.
        subst (λ z. From (in_expr qs (behind fs (suffixed_by o (call z)))) rest) (sym (put_one xs e (with_expr x es))) (k rest r)))))

    reads_type_name : (x : TypeName) → IsTypeName x → ReadsTypeName types x → (f : Frame) (fs : List Frame) (qs : List Part) (d c : ℕ) (ps : List Piece) (ts : List Spelled)
        → AreMatched ts (type_name_pieces i x d (mark_piece i mark.CloseParenthesis c ∷ ps))
        → ((rest : List Spelled) → AreMatched rest ps → From (in_expr qs (type_closed (f ∷ fs) x)) rest) → From (T (f ∷ fs) (alone ∷ qs) at_base) ts
    reads_type_name (type_name b x) w y f fs qs d c ps ts h k =
        reads_base b w.0 y.0 (f ∷ fs) alone qs d _ ts (declarator_leads x d _ refl) h (λ rest r.
        reads_declarator false x w.2 y.1 (f ∷ fs) (typed b [] ∷ alone ∷ qs) d _ rest refl r (λ rest r.
        after_token (f ∷ fs) (declared (typed b [] ∷ alone ∷ qs) x) _ ps rest r (λ t rest m r. k rest r)))

    pub reads_base : (b : Base) → IsBase b → ReadsBase types b → BaseGoes b
    reads_base (kind at ks) w y fs p qs d ps ts l h k = kind_base at ks w (kind_words ks w) fs p qs d ps ts l h k
    reads_base (void at c) w y fs p qs d ps ts l h k = void_base at c fs p qs d ps ts l h k
    reads_base (typedef_name at n c) w y fs p qs d ps ts l h k = typedef_base at n c w fs p qs d ps ts l h k
    reads_base (tag at s n c) w y fs p qs d ps ts l h k = tag_base at s n c fs p qs d ps ts l h k
    reads_base (structure at n xs c) w y fs p qs d ps ts l h k =
        fronted c.before at d (piece i (behind_consts c.before at) (word.Key key.Struct) d) _ ts fs p qs (λ z. ap (λ n. behind_consts n at) z) (λ t. refl) h (λ ks t rest m r.
        struct_open n fs (p ∷ qs) (front at c.before) d _ rest r (λ rest r.
        fields_run xs w.1 y fs (front at c.before) n [] p qs (suc d) d _ rest r (λ rest r.
        behind_run c.behind 0 c.behind fs p qs (front at c.before) (fields_form n (field_list xs)) d ps rest (omega arith) l r (λ rest r.
        subst (λ z. From (T fs (typed (structure at n z c) [] ∷ p ∷ qs) at_declarator) rest) (sym (fields_back xs)) (k rest r)))))
    reads_base (enumeration at n no_constants c) w y fs p qs d ps ts l h k = absurd (w.0 refl)
    reads_base (enumeration at n (with_constant x xs) c) w y fs p qs d ps ts l h k =
        fronted c.before at d (piece i (behind_consts c.before at) (word.Key key.Enum) d) _ ts fs p qs (λ z. ap (λ n. behind_consts n at) z) (λ t. refl) h (λ ks t rest m r.
        enum_open n fs (p ∷ qs) (front at c.before) d _ rest r (λ rest r.
        one_constant x w.1.0 y.0 xs fs (front at c.before) n [] p qs d _ rest r (λ rest r.
        constants_after xs w.1.1 y.1 fs (front at c.before) n [] x p qs d _ rest r (λ rest r.
        behind_run c.behind 0 c.behind fs p qs (front at c.before) (constants_form n (x ∷ constant_list xs)) d ps rest (omega arith) l r (λ rest r.
        subst (λ z. From (T fs (typed (enumeration at n (with_constant x z) c) [] ∷ p ∷ qs) at_declarator) rest) (sym (constants_back xs)) (k rest r))))))

    fields_run : (xs : Fields) → AreFields xs → ReadsFields types xs → (fs : List Frame) (f : Front) (n : Option Name) (acc : List Field) (p : Part) (qs : List Part) (d c : ℕ) (ps : List Piece) (ts : List Spelled)
        → AreMatched ts (fields_pieces i xs d (mark_piece i mark.CloseBrace c ∷ ps))
        → ((rest : List Spelled) → AreMatched rest ps → From (T fs (p ∷ qs) (behind_form f (fields_form n (acc ++ field_list xs)) 0)) rest) → From (T fs (in_fields f n acc ∷ p ∷ qs) at_base) ts
    fields_run no_fields w y fs f n acc p qs d c ps ts h k =
        token (T fs (in_fields f n acc ∷ p ∷ qs) at_base) _ ps ts h (λ t rest m r.
        subst (λ z. From (T fs (p ∷ qs) (behind_form f (fields_form n z) 0)) rest) (sym (append_nothing acc)) (k rest r))
    fields_run (with_field (field b no_declarators) xs) w y fs f n acc p qs d c ps ts h k = absurd (w.0.1 refl)
    fields_run (with_field (field b (with_declarator x ds)) xs) w y fs f n acc p qs d c ps ts h k =
        reads_base b w.0.0 y.0.0 fs (in_fields f n acc) (p ∷ qs) d _ ts (declarator_leads x (suc d) _ (members_follow ds d _)) h (λ rest r.
        reads_declarator true x w.0.2.0 y.0.1.0 fs (typed b [] ∷ in_fields f n acc ∷ p ∷ qs) (suc d) _ rest (members_end ds d _) r (λ rest r.
        members_after ds w.0.2.1 y.0.1.1 fs b [] x f n acc (p ∷ qs) d _ rest r (λ rest r.
        subst (λ z. From (T fs (in_fields f n (acc ++ field b (with_declarator x z) ∷ []) ∷ p ∷ qs) at_base) rest) (sym (declarators_back ds))
        (fields_run xs w.1 y.1 fs f n (acc ++ field b (with_declarator x ds) ∷ []) p qs d c ps rest r (λ rest r.
        subst (λ z. From (T fs (p ∷ qs) (behind_form f (fields_form n z) 0)) rest) (sym (append_one acc (field b (with_declarator x ds)) (field_list xs))) (k rest r))))))

    members_after : (xs : Declarators) → AreDeclarators xs → ReadsDeclarators types xs → (fs : List Frame) (b : Base) (acc : List Declarator) (x : Declarator) (f : Front) (n : Option Name) (fields : List Field) (qs : List Part) (d : ℕ) (ps : List Piece) (ts : List Spelled)
        → AreMatched ts (more_declarators_pieces i xs d (mark_piece i mark.Semicolon d ∷ ps))
        → ((rest : List Spelled) → AreMatched rest ps → From (T fs (in_fields f n (fields ++ field b (declarators_of (acc ++ x ∷ declarator_list xs)) ∷ []) ∷ qs) at_base) rest)
        → After fs (declared (typed b acc ∷ in_fields f n fields ∷ qs) x) ts
    members_after no_declarators w y fs b acc x f n fields qs d ps ts h k =
        after_token fs (declared (typed b acc ∷ in_fields f n fields ∷ qs) x) _ ps ts h (λ t rest m r. k rest r)
    members_after (with_declarator z xs) w y fs b acc x f n fields qs d ps ts h k =
        after_token fs (declared (typed b acc ∷ in_fields f n fields ∷ qs) x) _ _ ts h (λ t rest m r.
        reads_declarator true z w.0 y.0 fs (typed b (acc ++ x ∷ []) ∷ in_fields f n fields ∷ qs) (suc d) _ rest (members_end xs d ps) r (λ rest r.
        members_after xs w.1 y.1 fs b (acc ++ x ∷ []) z f n fields qs d ps rest r (λ rest r.
        subst (λ l. From (T fs (in_fields f n (fields ++ field b (declarators_of l) ∷ []) ∷ qs) at_base) rest) (sym (append_one acc x (z ∷ declarator_list xs))) (k rest r))))

    -- a constant, in front of these others
    one_constant : (c : Constant) → IsConstant c → ReadsConstant types c → (cs : Constants) (fs : List Frame) (f : Front) (n : Option Name) (acc : List Constant) (p : Part) (qs : List Part) (d : ℕ) (ps : List Piece) (ts : List Spelled)
        → AreMatched ts (constant_pieces i c d (more_constants_pieces i cs d (mark_piece i mark.CloseBrace d ∷ ps)))
        → ((rest : List Spelled) → AreMatched rest (more_constants_pieces i cs d (mark_piece i mark.CloseBrace d ∷ ps)) → After fs (constant_closed (in_constants f n acc ∷ p ∷ qs) c) rest)
        → From (T fs (in_constants f n acc ∷ p ∷ qs) at_constant) ts
    one_constant (constant v absent) w y cs fs f n acc p qs d ps ts h k =
        token (T fs (in_constants f n acc ∷ p ∷ qs) at_constant) _ _ ts h (λ t rest m r.
        subst (λ x. From (T fs (in_constants f n acc ∷ p ∷ qs) (behind_constant x)) rest) (same_name t v m.place m.bytes)
        (ends_with fs (in_constants f n acc ∷ p ∷ qs) (behind_constant v) (constant_closed (in_constants f n acc ∷ p ∷ qs) (constant v absent)) closing rest (led closing _ rest (constants_end cs d ps) r)
        (constant_ends (in_constants f n acc ∷ p ∷ qs) v) (k rest r)))
    one_constant (constant v (present e)) w y cs fs f n acc p qs d ps ts h k =
        token (T fs (in_constants f n acc ∷ p ∷ qs) at_constant) _ _ ts h (λ t rest m r.
        subst (λ x. From (T fs (in_constants f n acc ∷ p ∷ qs) (behind_constant x)) rest) (same_name t v m.place m.bytes)
        (token (T fs (in_constants f n acc ∷ p ∷ qs) (behind_constant v)) _ _ rest r (λ u rest z r.
        begins_expr fs (in_constant v ∷ in_constants f n acc ∷ p ∷ qs) (in_constant v ∷ in_constants f n acc ∷ p ∷ qs) at_value (λ s. false) rest (any_expr (first_name e) rest (begun i e d _ rest r)) (λ s t h. refl)
        (reads e w.1 (in_constant v ∷ in_constants f n acc ∷ p ∷ qs) (alone_frame ∷ fs) d _ rest (argument_floor e (cond_assign e w.0)) (low_stands (alone_frame ∷ fs) e (omega arith)) y r (λ gs o rest same r.
        value_closed cs e (cond_assign e w.0) fs (in_constant v) (in_constants f n acc ∷ p ∷ qs) gs o d ps rest same r (given_constant fs v e (in_constants f n acc ∷ p ∷ qs) rest (k rest r)))))))

    constants_after : (cs : Constants) → AreConstants cs → ReadsConstants types cs → (fs : List Frame) (f : Front) (n : Option Name) (acc : List Constant) (c : Constant) (p : Part) (qs : List Part) (d : ℕ) (ps : List Piece) (ts : List Spelled)
        → AreMatched ts (more_constants_pieces i cs d (mark_piece i mark.CloseBrace d ∷ ps))
        → ((rest : List Spelled) → AreMatched rest ps → From (T fs (p ∷ qs) (behind_form f (constants_form n (acc ++ c ∷ constant_list cs)) 0)) rest)
        → After fs (constant_closed (in_constants f n acc ∷ p ∷ qs) c) ts
    constants_after no_constants w y fs f n acc c p qs d ps ts h k =
        after_token fs (constant_closed (in_constants f n acc ∷ p ∷ qs) c) _ ps ts h (λ t rest m r. k rest r)
    constants_after (with_constant x cs) w y fs f n acc c p qs d ps ts h k =
        after_token fs (constant_closed (in_constants f n acc ∷ p ∷ qs) c) _ _ ts h (λ t rest m r.
        one_constant x w.0 y.0 cs fs f n (acc ++ c ∷ []) p qs d ps rest r (λ rest r.
        constants_after cs w.1 y.1 fs f n (acc ++ c ∷ []) x p qs d ps rest r (λ rest r.
        subst (λ l. From (T fs (p ∷ qs) (behind_form f (constants_form n l) 0)) rest) (sym (append_one acc c (x ∷ constant_list cs))) (k rest r))))

    pub reads_declarator : (must : Bool) (x : Declarator) → IsDeclarator must x → ReadsDeclarator types x → (fs : List Frame) (qs : List Part) (d : ℕ) (ps : List Piece) (ts : List Spelled) → Leads ending ps
        → AreMatched ts (declarator_pieces i x d ps) → ((rest : List Spelled) → AreMatched rest ps → After fs (declared qs x) rest) → From (T fs qs at_declarator) ts
    reads_declarator must (declarator a [] core bs) w y fs qs d ps ts l h k =
        core_run must core bs w.2 y.0 (brackets_run bs w.3 y.1) (lacking_run bs w.3 y.1) w.1 fs qs at_declarator (λ t. t.at) a (first_bracket a [] core) [] (declarator 0 [] lacking no_brackets) d ps ts
        (core_at_first qs) (λ t p. first_at a core bs t w.0 p) (empty_at a core bs w.0) l h k
    reads_declarator must (declarator a (n ∷ ns) core bs) w y fs qs d ps ts l h k =
        token (T fs qs at_declarator) _ _ ts h (λ t rest m r.
        subst (λ z. From (T fs qs (behind_star z [] 0)) rest) (sym m.place)
        (stars_run ns n [] fs qs a d _ rest r (λ ss j e rest r.
        core_run must core bs w.2 y.0 (brackets_run bs w.3 y.1) (lacking_run bs w.3 y.1) w.1 fs qs (behind_star a ss j) (λ t. a) a (first_bracket a (n ∷ ns) core) (ss ++ j ∷ []) (declarator a (ss ++ j ∷ []) lacking no_brackets) d ps rest
        (core_behind_star qs a ss j) (λ t p. refl) (λ c b. rest_lacks a (ss ++ j ∷ []) core bs c b) l r (λ rest r.
        subst (λ z. After fs (declared qs (declarator a z core bs)) rest) (sym e) (k rest r)))))

    core_run : (must : Bool) (core : Core) (bs : Brackets) → IsCore must core → ReadsCore types core → BracketsGo bs → LackingGo bs → IsListFirst core bs
        → (fs : List Frame) (qs : List Part) (x : Point) (at : Spelled → ℕ) (a : ℕ) (o : Option ℕ) (ss : List ℕ) (last : Declarator) (d : ℕ) (ps : List Piece) (ts : List Spelled)
        → ((s : Sign) (t : Spelled) → at_a_core s ≡ true → type_step qs x s t ≡ core_step qs (at t) ss last s t)
        → ((t : Spelled) → HasPlace (first_place core o) t.at → at t ≡ a) → (core ≡ lacking → bs ≡ no_brackets → last ≡ declarator a ss core bs)
        → Leads ending ps → AreMatched ts (core_pieces i core d (brackets_pieces i bs o d ps))
        → ((rest : List Spelled) → AreMatched rest ps → After fs (declared qs (declarator a ss core bs)) rest) → From (T fs qs x) ts
    core_run must lacking bs w y run lack g fs qs x at a o ss last d ps ts q pl e l h k = lack fs qs x at a o ss last d ps ts g q pl (e refl) l h k
    core_run must (named_core n) bs w y run lack g fs qs x at a o ss last d ps ts q pl e l h k =
        token (T fs qs x) _ _ ts h (λ t rest m r.
        subst (λ c. From (placed_on (begins types word.Name t) fs c word.Name t) rest) (sym (q sign.Name t refl))
        (subst (λ c. From (T fs qs (behind_core (declaring c ss (named_core (spelt_name t))))) rest) (sym (pl t m.place))
        (subst (λ c. From (T fs qs (behind_core (declaring a ss (named_core c)))) rest) (same_name t n m.place m.bytes)
        (run fs qs (declaring a ss (named_core n)) o d ps rest l r (λ rest r.
        subst (λ c. After fs (declared qs c) rest) (sym (declared_whole a ss (named_core n) bs)) (k rest r))))))
    core_run must (inner j u) bs w y run lack g fs qs x at a o ss last d ps ts q pl e l h k =
        token (T fs qs x) _ _ ts h (λ t rest m r.
        subst (λ c. From (placed_on false fs c (word.Mark mark.OpenParenthesis) t) rest) (sym (q sign.Open t refl))
        (subst (λ c. From (T fs qs (at_core c ss t.at)) rest) (sym (pl t m.place))
        (subst (λ c. From (T fs qs (at_core a ss c)) rest) (sym m.place)
        (same_point fs qs (in_inner a ss j ∷ qs) (at_core a ss j) at_declarator inside rest (led inside _ rest (inner_leads u (suc d) _ w.0) r) (inner_at_core qs a ss j)
        (reads_declarator must u w.1 y fs (in_inner a ss j ∷ qs) (suc d) _ rest refl r (λ rest r.
        after_token fs (declared (in_inner a ss j ∷ qs) u) _ _ rest r (λ t rest m r.
        run fs qs (declaring a ss (inner j u)) o d ps rest l r (λ rest r.
        subst (λ c. After fs (declared qs c) rest) (sym (declared_whole a ss (inner j u) bs)) (k rest r)))))))))

    lacking_run : (bs : Brackets) → AreBrackets bs → ReadsBrackets types bs → LackingGo bs
    lacking_run no_brackets v z fs qs x at a o ss last d ps ts g q pl e l h k =
        ends_with fs qs x (declared qs last) ending ts (led ending ps ts l h) (λ s t c. q s t (ends_at_core s c) ∙ core_ends qs (at t) ss last s t c)
        (subst (λ c. After fs (declared qs c) ts) (sym (e refl)) (k ts h))
    lacking_run (with_bracket (count c) bs) v z fs qs x at a o ss last d ps ts g q pl e l h k =
        token (T fs qs x) _ _ ts h (λ t rest m r.
        subst (λ c. From (placed_on false fs c (word.Mark mark.OpenBracket) t) rest) (sym (q sign.OpenBracket t refl))
        (subst (λ c. From (T fs qs (at_count (declaring c ss lacking))) rest) (sym (pl t m.place))
        (count_run c v.0 z.0 fs qs (declaring a ss lacking) d _ rest r (λ rest r.
        brackets_run bs v.1 z.1 fs qs (bracketed (declaring a ss lacking) (count c)) None d ps rest l r (λ rest r.
        subst (λ c. After fs (declared qs c) rest) (sym (declared_whole a ss lacking (with_bracket (count c) bs))) (k rest r))))))
    lacking_run (with_bracket empty_list bs) v z fs qs x at a o ss last d ps ts g q pl e l h k =
        token (T fs qs x) _ _ ts h (λ t rest m r.
        subst (λ c. From (placed_on false fs c (word.Mark mark.OpenParenthesis) t) rest) (sym (q sign.Open t refl))
        (subst (λ c. From (T fs qs (at_core c ss t.at)) rest) (sym (pl t m.place))
        (token (T fs qs (at_core a ss t.at)) _ _ rest r (λ t rest m r.
        brackets_run bs v.1 z.1 fs qs (bracketed (declaring a ss lacking) empty_list) None d ps rest l r (λ rest r.
        subst (λ c. After fs (declared qs c) rest) (sym (declared_whole a ss lacking (with_bracket empty_list bs))) (k rest r))))))
    lacking_run (with_bracket void_list bs) v z fs qs x at a o ss last d ps ts g q pl e l h k =
        token (T fs qs x) _ _ ts h (λ t rest m r.
        subst (λ c. From (placed_on false fs c (word.Mark mark.OpenParenthesis) t) rest) (sym (q sign.Open t refl))
        (subst (λ c. From (T fs qs (at_core c ss t.at)) rest) (sym (pl t m.place))
        (token (T fs qs (at_core a ss t.at)) _ _ rest r (λ t rest m r.
        token (T fs (in_params (declaring a ss lacking) [] ∷ qs) (behind_form (front t.at 0) void_form 0)) _ _ rest r (λ u rest n r.
        brackets_run bs v.1 z.1 fs qs (bracketed (declaring a ss lacking) void_list) None d ps rest l r (λ rest r.
        subst (λ c. After fs (declared qs c) rest) (sym (declared_whole a ss lacking (with_bracket void_list bs))) (k rest r)))))))
    lacking_run (with_bracket (param_list nothing_declared) bs) v z fs qs x at a o ss last d ps ts g q pl e l h k = absurd (v.0.0 refl)
    lacking_run (with_bracket (param_list (with_param (param b u) xs)) bs) v z fs qs x at a o ss last d ps ts g q pl e l h k =
        token (T fs qs x) _ _ ts h (λ t rest m r.
        subst (λ c. From (placed_on false fs c (word.Mark mark.OpenParenthesis) t) rest) (sym (q sign.Open t refl))
        (subst (λ c. From (T fs qs (at_core c ss t.at)) rest) (sym (pl t m.place))
        (same_point fs qs (in_params (declaring a ss lacking) [] ∷ qs) (at_core a ss t.at) at_base begins_params rest (led begins_params _ rest (params_lead types i b u xs d _ v.0.2.0.0 g) r) (params_at_core qs a ss t.at)
        (params_run (with_param (param b u) xs) v.0.0 v.0.1 v.0.2 z.0 fs qs (declaring a ss lacking) d _ rest r (λ rest r.
        brackets_run bs v.1 z.1 fs qs (bracketed (declaring a ss lacking) (param_list (with_param (param b u) xs))) None d ps rest l r (λ rest r.
        subst (λ c. After fs (declared qs c) rest) (sym (declared_whole a ss lacking (with_bracket (param_list (with_param (param b u) xs)) bs))) (k rest r)))))))

    count_run : (e : Perhaps) → IsCount e → ReadsPerhaps types e → (fs : List Frame) (qs : List Part) (x : Declaring) (d : ℕ) (ps : List Piece) (ts : List Spelled)
        → AreMatched ts (perhaps_pieces i e d (mark_piece i mark.CloseBracket d ∷ ps))
        → ((rest : List Spelled) → AreMatched rest ps → From (T fs qs (behind_core (bracketed x (count e)))) rest) → From (T fs qs (at_count x)) ts
    count_run absent w y fs qs x d ps ts h k = token (T fs qs (at_count x)) _ ps ts h (λ t rest m r. k rest r)
    count_run (present e) w y fs qs x d ps ts h k =
        begins_expr fs qs (in_count x ∷ qs) (at_count x) is_bracket ts (no_bracket_begun (first_name e) ts (begun i e d _ ts h)) (count_begins qs x)
        (reads e w.1 (in_count x ∷ qs) (alone_frame ∷ fs) d _ ts (argument_floor e (cond_assign e w.0)) (low_stands (alone_frame ∷ fs) e (omega arith)) y h (λ gs o rest same r.
        bracket_after e fs (in_count x) qs gs o d ps rest same r
        (after_token fs (given (in_count x ∷ qs) e) _ ps rest r (λ t rest m r. k rest r))))

    brackets_run : (bs : Brackets) → AreBrackets bs → ReadsBrackets types bs → (fs : List Frame) (qs : List Part) (x : Declaring) (o : Option ℕ) (d : ℕ) (ps : List Piece) (ts : List Spelled) → Leads ending ps
        → AreMatched ts (brackets_pieces i bs o d ps) → ((rest : List Spelled) → AreMatched rest ps → After fs (declared qs (declared_by (with_all x bs))) rest) → From (T fs qs (behind_core x)) ts
    brackets_run no_brackets w y fs qs x o d ps ts l h k =
        ends_with fs qs (behind_core x) (declared qs (declared_by x)) ending ts (led ending ps ts l h) (brackets_end qs x) (k ts h)
    brackets_run (with_bracket (count c) bs) w y fs qs x o d ps ts l h k =
        token (T fs qs (behind_core x)) _ _ ts h (λ t rest m r.
        count_run c w.0 y.0 fs qs x d _ rest r (λ rest r. brackets_run bs w.1 y.1 fs qs (bracketed x (count c)) None d ps rest l r k))
    brackets_run (with_bracket empty_list bs) w y fs qs x o d ps ts l h k =
        token (T fs qs (behind_core x)) _ _ ts h (λ t rest m r.
        token (T fs (in_params x [] ∷ qs) at_base) _ _ rest r (λ t rest m r.
        brackets_run bs w.1 y.1 fs qs (bracketed x empty_list) None d ps rest l r k))
    brackets_run (with_bracket void_list bs) w y fs qs x o d ps ts l h k =
        token (T fs qs (behind_core x)) _ _ ts h (λ t rest m r.
        token (T fs (in_params x [] ∷ qs) at_base) _ _ rest r (λ t rest m r.
        token (T fs (in_params x [] ∷ qs) (behind_form (front t.at 0) void_form 0)) _ _ rest r (λ u rest n r.
        brackets_run bs w.1 y.1 fs qs (bracketed x void_list) None d ps rest l r k)))
    brackets_run (with_bracket (param_list xs) bs) w y fs qs x o d ps ts l h k =
        token (T fs qs (behind_core x)) _ _ ts h (λ t rest m r.
        params_run xs w.0.0 w.0.1 w.0.2 y.0 fs qs x d _ rest r (λ rest r.
        brackets_run bs w.1 y.1 fs qs (bracketed x (param_list xs)) None d ps rest l r k))

    params_run : (xs : Params) → xs ≢ nothing_declared → IsNotVoid xs → AreParams xs → ReadsParams types xs → (fs : List Frame) (qs : List Part) (x : Declaring) (d : ℕ) (ps : List Piece) (ts : List Spelled)
        → AreMatched ts (params_pieces i xs d (mark_piece i mark.CloseParenthesis d ∷ ps))
        → ((rest : List Spelled) → AreMatched rest ps → From (T fs qs (behind_core (bracketed x (param_list xs)))) rest) → From (T fs (in_params x [] ∷ qs) at_base) ts
    params_run nothing_declared some n w y fs qs x d ps ts h k = absurd (some refl)
    params_run (with_param (param b u) xs) some n w y fs qs x d ps ts h k =
        reads_base b w.0.0 y.0.0 fs (in_params x []) qs d _ ts (declarator_leads u (suc d) _ (params_follow xs d ps)) h (λ rest r.
        reads_declarator false u w.0.1 y.0.1 fs (typed b [] ∷ in_params x [] ∷ qs) (suc d) _ rest (params_end xs d ps) r (λ rest r.
        params_after xs w.1 y.1 fs b u [] x qs d ps rest r (λ rest r.
        subst (λ c. From (T fs qs (behind_core (bracketed x c))) rest) (sym (parameters_are (with_param (param b u) xs) n)) (k rest r))))

    params_after : (xs : Params) → AreParams xs → ReadsParams types xs → (fs : List Frame) (b : Base) (u : Declarator) (acc : List Param) (x : Declaring) (qs : List Part) (d : ℕ) (ps : List Piece) (ts : List Spelled)
        → AreMatched ts (more_params_pieces i xs d (mark_piece i mark.CloseParenthesis d ∷ ps))
        → ((rest : List Spelled) → AreMatched rest ps → From (T fs qs (behind_core (bracketed x (parameters (acc ++ param b u ∷ params_list xs))))) rest)
        → After fs (declared (typed b [] ∷ in_params x acc ∷ qs) u) ts
    params_after nothing_declared w y fs b u acc x qs d ps ts h k =
        after_token fs (declared (typed b [] ∷ in_params x acc ∷ qs) u) _ ps ts h (λ t rest m r. k rest r)
    params_after (with_param (param c v) xs) w y fs b u acc x qs d ps ts h k =
        after_token fs (declared (typed b [] ∷ in_params x acc ∷ qs) u) _ _ ts h (λ t rest m r.
        reads_base c w.0.0 y.0.0 fs (in_params x (acc ++ param b u ∷ [])) qs d _ rest (declarator_leads v (suc d) _ (params_follow xs d ps)) r (λ rest r.
        reads_declarator false v w.0.1 y.0.1 fs (typed c [] ∷ in_params x (acc ++ param b u ∷ []) ∷ qs) (suc d) _ rest (params_end xs d ps) r (λ rest r.
        params_after xs w.1 y.1 fs c v (acc ++ param b u ∷ []) x qs d ps rest r (λ rest r.
        subst (λ l. From (T fs qs (behind_core (bracketed x (parameters l)))) rest) (sym (append_one acc (param b u) (param c v ∷ params_list xs))) (k rest r)))))

-- nothing is behind the expression
finish : (types : List (List ℕ)) (e : Expr) (gs : List Frame) (o : Operand) (rest : List Spelled) → closed 1 gs (value_of o) ≡ record { frames = []; value = e } → AreMatched rest []
    → expr_of_state (run types (in_expr [] (behind gs o)) rest) ≡ Some e
finish types e gs o [] h r = ap (λ c. only c.frames c.value) h
finish types e gs o (t ∷ ts) h r = absurd r

pub is_built : (types : List (List ℕ)) (inside : Bool) (e : Expr) → IsExpr e → ReadsExpr types e true → (uses : ℕ) (ts : List Spelled) → AreMatched ts (expr_pieces inside e uses []) → expression_of types ts ≡ Some e
is_built types inside e w y d ts h =
    reads types inside (λ s. expr_of_state s ≡ Some e) e w [] [] d [] ts (floor_positive e) (low_stands [] e (omega arith)) y h (λ gs o rest same r. finish types e gs o rest (same 1 (ends_level e)) r)
