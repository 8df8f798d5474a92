-- The walk shows over the pieces of expressions, types and declarators in how many uses each lies.
use Rattle.std.proofs.Common.{◌≡◌, ◌≢◌, ℕ, zero, suc, ◌+◌, ◌-◌, ◌⊎◌, inl, inr, Bool, true, false, if◌then◌else◌, List, [], ◌∷◌, ◌++◌, map, length, Option, Some, None, refl, sym, subst, ap, ◌∙◌, Contains}
use Rattle.porch_tree.specs.declared.word.Keyword.{Keyword}
use Rattle.porch_tree.specs.declared.word.Keyword.TheVariants as key
use Rattle.porch_tree.specs.declared.word.Mark.TheVariants as mark
use Rattle.porch_tree.specs.declared.word.Word.{Word}
use Rattle.porch_tree.specs.declared.word.Word.TheVariants as word
use Rattle.porch_tree.specs.declared.tree.TagSort.{TagSort}
use Rattle.porch_tree.specs.declared.tree.TagSort.TheVariants as tag_sort
use Rattle.porch_tree.specs.declared.tree.Prefix.{Prefix}
use Rattle.porch_tree.specs.declared.tree.Prefix.TheVariants as prefix_variant
use Rattle.porch_tree.specs.declared.tree.Infix.{Infix}
use Rattle.porch_tree.specs.declared.tree.Infix.TheVariants as infix_variant
use Rattle.porch_tree.specs.declared.tree.Assigning.{Assigning}
use Rattle.porch_tree.specs.declared.tree.Assigning.TheVariants as assigning_variant
use Rattle.porch_tree.specs.declared.tree.Level.{Level as Rank}
use Rattle.porch_tree.specs.Words.{infix_mark, assigning_mark}
use Rattle.porch_tree.specs.Mirror.{Name, Expr, name, whole, character, texts, nested, suffixed, prefixed, size_of, cast, row, conditional, assign, sequence, Exprs, no_exprs, with_expr, Operands, no_operands, with_operand, Perhaps, absent, present, Suffix, index, call, member, arrow, increased, decreased, Suffixes, no_suffixes, with_suffix, Base, kind, void, typedef_name, tag, structure, enumeration, Field, field, Fields, no_fields, with_field, constant, Constants, no_constants, with_constant, Declarator, declarator, Declarators, no_declarators, with_declarator, Core, lacking as lacking_core, named as named_core, inner, count, empty_list, void_list, param_list, Brackets, no_brackets, with_bracket, param, Params, no_params, with_param, TypeName, type_name}
use Rattle.porch_tree.specs.Pieces.{Piece, mark as mark_piece, piece, spelt, text_pieces, expr_pieces, operands_pieces, more_pieces, argument_pieces, perhaps_pieces, suffixes_pieces, suffix_pieces, base_pieces, kind_pieces, const_pieces, tag_pieces, field_pieces, fields_pieces, more_declarators_pieces, more_constants_pieces, given_pieces, star_pieces, core_pieces, brackets_pieces, params_pieces, more_params_pieces, declarator_pieces, type_name_pieces}
use Rattle.porch_tree.specs.Formed.{IsPrimary, IsUnary, IsCast, IsCondition, IsCond, IsAssign, IsOperandOf, IsExpr, AreOperands, AreAssigns, IsCount, AreSuffixes, IsSuffix, IsBase, IsField, AreFields, AreDeclarators, AreConstants, AreBrackets, AreCounts, AreParams, IsNotVoid, HasTokens, IsTypeName}
use Rattle.porch_tree.specs.Names.{takes_cast, ReadsExpr, ReadsOperands, ReadsExprs, ReadsPerhaps, ReadsSuffixes, ReadsSuffix, ReadsBase, ReadsField, ReadsFields, ReadsDeclarators, ReadsConstants, ReadsDeclarator, ReadsBrackets, ReadsParams, ReadsTypeName, name_in}
use Rattle.porch_walk.specs.declared.symbol.Mode.{Mode}
use Rattle.porch_walk.specs.declared.symbol.Mode.TheVariants as mode
use Rattle.porch_walk.specs.declared.symbol.Naming.{Naming}
use Rattle.porch_walk.specs.declared.symbol.Naming.TheVariants as naming
use Rattle.porch_walk.specs.declared.symbol.Kinds.{Kinds}
use Rattle.porch_walk.specs.declared.symbol.Symbol.{Symbol}
use Rattle.porch_walk.specs.declared.symbol.Symbol.TheVariants.{Must, Operand, Open, Texts, Suffixes as Suffixes_to_come, Behind, Commas, Optional, Base as Base_to_come, Kind, Consts, Tag, TagBody, Fields as Fields_to_come, MoreDeclarators, ConstantValue, Constants as Constants_to_come, Declarator as Declarator_to_come, Pointer, Nameless, Brackets as Brackets_to_come, Counts, Count, Parameters, Void, MoreParameters}
use Rattle.porch_walk.specs.declared.level.Level.{Level}
use Rattle.porch_walk.specs.Walk.{or_else, heard, no_kinds, kinds_behind, rest_of, takes_type, goes, kind as kind_stage, behind}
use Rattle.porch_walk.specs.Plans.{rest, opening, is_kind, took, up}
use Rattle.porch_walk.specs.Levels.{level, placed, Read, read_or, read}
use Rattle.porch_walk.proofs.KindWords.{fits, fits_from, kind_fits}
use Rattle.porch_walk.proofs.Meaning.{Whole, IsNamed, fresh_of}
use Rattle.porch_walk.proofs.Expressions.{never}
use Rattle.porch_walk.proofs.Words.{known_type}
use Rattle.porch_walk.proofs.Passes.{Heads, closes, ends, parts, follows, leaves, behind_base, not_text, closes_are_ends, ends_are_parts, parts_are_follows, infix_parts, assigning_follows}
use Rattle.porch_walk.proofs.Accepts.{no_const, follows_no_text, mode_of, suffix_no_text, operands_parts, more_ends, tighter_condition, declarators_leave, params_leave, declared_behind, must_tokens, constants_end, param_tokens, core_no_const, brackets_no_const, named_brackets, named_bare, Bare}
use Rattle.porch_walk.proofs.Owing.{Seen, seen, deepen, Short, Owes, nothing, owing, both, one, by0, by1, by2, owed1, late1, late2, repaid, IsRight, right_from, seen_by, Rt, knows_piece}
use Rattle.porch_walk.proofs.LeftOut as out
use Rattle.porch_walk.proofs.Openings.{front, rest_on, parenthesis_levels, parenthesis, type_levels, type_first, optional_first, count_first, fields_first, parameters_first, nameless_first, inner_first, void_first, void_choice}

-- The level behind an operand: that of the operand, whose first token is the next one.
pub record IsFront (k d : ℕ) (os : List Seen) (b : Level) : Type 0 where
  pub uses : Short k b.uses d
  pub start : b.start ≡ length os

-- what holds once more tokens were read that owe as many uses
abbrev pub Then : ℕ → List Seen → (List Seen → Type 0) → Type 0
Then k os P = (new : List Seen) → Owes k os new → P new

abbrev pub ThenAt : ℕ → ℕ → List Seen → (Level → List Seen → Type 0) → Type 0
ThenAt k d os P = (b : Level) (new : List Seen) → IsFront k d os b → Owes k os new → P b new

pub from : {k : ℕ} {os ns : List Seen} (P : List Seen → Type 0) → Owes k os ns → Then k os P → Then k ns P
from P g t = λ new h. t new (both g h)

-- a use that an operator shows late of all that was read from the front on
repays : (k d : ℕ) (os new : List Seen) (b : Level) → IsFront (suc k) (suc d) os b → Owes (suc k) os new
    → Owes k os (seen (b.uses + 1) (suc d) ∷ deepen (length new - b.start) new)
repays k d os new b n g = owing (late1 (n.uses)) (subst (λ s. Owes k os (deepen (length new - s) new)) (sym (n.start)) (repaid g))

module _ (types : List (List ℕ)) (i : Bool) where
  abbrev pub On : List ℕ → List Symbol → List Level → List Seen → List Piece → Type 0
  On f ss ls os ps = Rt types i f ss ls os ps

  -- What the walk shows over an expression, in each place where it may stand.
  pub record Shows (e : Expr) : Type 0 where
    pub primary : IsPrimary e → (m : Mode) → ReadsExpr types e (takes_type m) → (f : List ℕ) (ss : List Symbol) (l : Level) (ls : List Level) (os : List Seen) (k d : ℕ) (ps : List Piece) → Short k l.uses d → Heads not_text ps
        → ((c : Level) → Short k c.uses (suc d) → ThenAt k d os (λ b new. On f (Suffixes_to_come ∷ rest_of m ss) (c ∷ front m b ls) new ps)) → On f (Operand m ∷ ss) (l ∷ ls) os (expr_pieces i e d ps)
    pub unary : IsUnary e → (m : Mode) → ReadsExpr types e (takes_type m) → (f : List ℕ) (ss : List Symbol) (l : Level) (ls : List Level) (os : List Seen) (k d : ℕ) (ps : List Piece) → Short k l.uses d → Heads follows ps
        → ThenAt k d os (λ b new. On f (rest_of m ss) (front m b ls) new ps) → On f (Operand m ∷ ss) (l ∷ ls) os (expr_pieces i e d ps)
    pub casts : IsCast e → ReadsExpr types e true → (f : List ℕ) (ss : List Symbol) (l : Level) (ls : List Level) (os : List Seen) (k d : ℕ) (ps : List Piece) → Short k l.uses d → Heads follows ps
        → Then k os (λ new. On f ss ls new ps) → On f (Operand mode.Cast ∷ ss) (l ∷ ls) os (expr_pieces i e d ps)
    pub right : IsCondition e → ReadsExpr types e true → (f : List ℕ) (ss : List Symbol) (l b : Level) (ls : List Level) (os : List Seen) (k d : ℕ) (ps : List Piece) → Short k l.uses d → Short k b.uses d → Heads parts ps
        → Then k os (λ new. On f (Behind false ∷ ss) (b ∷ ls) new ps) → On f (Operand mode.Cast ∷ Behind false ∷ ss) (l ∷ b ∷ ls) os (expr_pieces i e d ps)
    pub left : (u : Bool) → IsCondition e → ReadsExpr types e true → (f : List ℕ) (ss : List Symbol) (l : Level) (ls : List Level) (os : List Seen) (k d : ℕ) (ps : List Piece) → Short k l.uses d → Heads parts ps
        → ThenAt k d os (λ b new. On f (Behind false ∷ ss) (b ∷ ls) new ps) → On f (Operand (mode_of types i u) ∷ ss) (l ∷ ls) os (expr_pieces i e d ps)
    pub free : (u : Bool) → Whole u e → ReadsExpr types e true → (f : List ℕ) (ss : List Symbol) (l : Level) (ls : List Level) (os : List Seen) (k d : ℕ) (ps : List Piece) → Short k l.uses d → Heads ends ps
        → Then k os (λ new. On f ss ls new ps) → On f (Operand (mode_of types i u) ∷ ss) (l ∷ ls) os (expr_pieces i e d ps)
    pub any : ReadsExpr types e true → (f : List ℕ) (ss : List Symbol) (l c : Level) (ls : List Level) (os : List Seen) (k d : ℕ) (ps : List Piece) → Short k l.uses d → Short k c.uses d → Heads closes ps
        → Then k os (λ new. On f ss ls new ps) → On f (Operand mode.Assign ∷ Commas ∷ ss) (l ∷ c ∷ ls) os (expr_pieces i e d ps)

  -- the places of one form from those of another

  abbrev Free : Expr → Type 0
  Free e = (u : Bool) → Whole u e → ReadsExpr types e true → (f : List ℕ) (ss : List Symbol) (l : Level) (ls : List Level) (os : List Seen) (k d : ℕ) (ps : List Piece) → Short k l.uses d → Heads ends ps
      → Then k os (λ new. On f ss ls new ps) → On f (Operand (mode_of types i u) ∷ ss) (l ∷ ls) os (expr_pieces i e d ps)

  abbrev Left : Expr → Type 0
  Left e = (u : Bool) → ReadsExpr types e true → (f : List ℕ) (ss : List Symbol) (l : Level) (ls : List Level) (os : List Seen) (k d : ℕ) (ps : List Piece) → Short k l.uses d → Heads parts ps
      → ThenAt k d os (λ b new. On f (Behind false ∷ ss) (b ∷ ls) new ps) → On f (Operand (mode_of types i u) ∷ ss) (l ∷ ls) os (expr_pieces i e d ps)

  abbrev Unary : Expr → Type 0
  Unary e = (m : Mode) → ReadsExpr types e (takes_type m) → (f : List ℕ) (ss : List Symbol) (l : Level) (ls : List Level) (os : List Seen) (k d : ℕ) (ps : List Piece) → Short k l.uses d → Heads follows ps
      → ThenAt k d os (λ b new. On f (rest_of m ss) (front m b ls) new ps) → On f (Operand m ∷ ss) (l ∷ ls) os (expr_pieces i e d ps)

  abbrev Primary : Expr → Type 0
  Primary e = (m : Mode) → ReadsExpr types e (takes_type m) → (f : List ℕ) (ss : List Symbol) (l : Level) (ls : List Level) (os : List Seen) (k d : ℕ) (ps : List Piece) → Short k l.uses d → Heads not_text ps
      → ((c : Level) → Short k c.uses (suc d) → ThenAt k d os (λ b new. On f (Suffixes_to_come ∷ rest_of m ss) (c ∷ front m b ls) new ps)) → On f (Operand m ∷ ss) (l ∷ ls) os (expr_pieces i e d ps)

  free_of : (e : Expr) → Left e → Free e
  free_of e q u w r f ss l ls os k d ps s h t = q u r f ss l ls os k d ps s (ends_are_parts ps h) (λ b new n g. out.pass_row types i f ss b ls new ps h (t new g))

  any_of : (e : Expr) → IsAssign e → Free e → ReadsExpr types e true → (f : List ℕ) (ss : List Symbol) (l c : Level) (ls : List Level) (os : List Seen) (k d : ℕ) (ps : List Piece) → Short k l.uses d → Short k c.uses d → Heads closes ps
      → Then k os (λ new. On f ss ls new ps) → On f (Operand mode.Assign ∷ Commas ∷ ss) (l ∷ c ∷ ls) os (expr_pieces i e d ps)
  any_of e w q r f ss l c ls os k d ps s z h t = q true w r f (Commas ∷ ss) l (c ∷ ls) os k d ps s (closes_are_ends ps h) (λ new g. out.pass_commas types i f ss c ls new ps h (t new g))

  left_of : (e : Expr) → Unary e → Left e
  left_of e q true r f ss l ls os k d ps s h t = q mode.Assign r f ss l ls os k d ps s (parts_are_follows ps h) (λ b new n g. out.as_row types i f ss b ls new ps h (t b new n g))
  left_of e q false r f ss l ls os k d ps s h t = q mode.Cond r f ss l ls os k d ps s (parts_are_follows ps h) t

  of_unary : (e : Expr) → IsAssign e → (IsPrimary e → Primary e) → Unary e → Shows e
  of_unary e w p q = record {
    primary = p;
    unary = λ h. q;
    casts = λ h r f ss l ls os k d ps s n t. q mode.Cast r f ss l ls os k d ps s n (λ b new m g. t new g);
    right = λ h r f ss l b ls os k d ps s z n t. q mode.Cast r f (Behind false ∷ ss) l (b ∷ ls) os k d ps s (parts_are_follows ps n) (λ c new m g. t new g);
    left = λ u h. left_of e q u;
    free = free_of e (left_of e q);
    any = any_of e w (free_of e (left_of e q));
  }

  of_primary : (e : Expr) → IsAssign e → Primary e → Shows e
  of_primary e w p = of_unary e w (λ h. p)
      (λ m r f ss l ls os k d ps s h t. p m r f ss l ls os k d ps s (follows_no_text ps h)
      (λ c z b new n g. out.pass_suffixes types i f (rest_of m ss) c (front m b ls) new ps h (t b new n g)))

  -- a name or a constant
  atom : (m : Mode) (f : List ℕ) (ss : List Symbol) (l : Level) (ls : List Level) (os : List Seen) (k d : ℕ) (ps : List Piece) → Short k l.uses d
      → ((c : Level) → Short k c.uses (suc d) → ThenAt k d os (λ b new. On f (Suffixes_to_come ∷ rest_of m ss) (c ∷ front m b ls) new ps))
      → On f (Suffixes_to_come ∷ rest_of m ss) (level (l.uses + 1) (length os) ∷ (map (placed l (length os)) (rest m 0) ++ ls)) (seen (l.uses + 1) (suc d) ∷ os) ps
  atom m f ss l ls os k d ps s t =
      rest_on m (λ q. On f (Suffixes_to_come ∷ rest_of m ss) (level (l.uses + 1) (length os) ∷ q) (seen (l.uses + 1) (suc d) ∷ os) ps) l (length os) 0 ls
      (t (level (l.uses + 1) (length os)) (by1 s) (level (l.uses + 0) (length os)) _ (record { uses = by0 s; start = refl }) (one (by1 s)))

  texts_show : (ns : List Name) (f : List ℕ) (ss : List Symbol) (l : Level) (ls : List Level) (os : List Seen) (k d : ℕ) (ps : List Piece) → Short k l.uses d → Heads not_text ps
      → Then k os (λ new. On f ss ls new ps) → On f (Texts ∷ ss) (l ∷ ls) os (text_pieces i ns d ps)
  texts_show [] f ss l ls os k d ps s h t = out.pass_texts types i f ss l ls os ps h (t os nothing)
  texts_show (n ∷ ns) f ss l ls os k d ps s h t =
      texts_show ns f ss _ ls _ k d ps (by0 s) h (from (λ new. On f ss ls new ps) (one (by0 s)) t)

  literals : (n : Name) (ns : List Name) → Primary (texts n ns)
  literals n ns m r f ss l ls os k d ps s h t =
      rest_on m (λ q. On f (Texts ∷ Suffixes_to_come ∷ rest_of m ss) (level (l.uses + 1) (length os) ∷ level (l.uses + 1) (length os) ∷ q) (seen (l.uses + 1) (suc d) ∷ os) (text_pieces i ns (suc d) ps)) l (length os) 0 ls
      (texts_show ns f (Suffixes_to_come ∷ rest_of m ss) (level (l.uses + 1) (length os)) _ _ k (suc d) ps (by1 s) h
      (λ new g. t (level (l.uses + 1) (length os)) (by1 s) (level (l.uses + 0) (length os)) new (record { uses = by0 s; start = refl }) (both (one (by1 s)) g)))

  in_parentheses : (at : ℕ) (e : Expr) → Shows e → Primary (nested at e)
  in_parentheses at e q m r f ss l ls os k d ps s h t =
      let o = level (l.uses + 0) (length os) in
      parenthesis types i m e r.0 f ss o ls os l.uses (suc d) (suc (suc d)) _ refl
      (q.any r.1 f (Must (word.Mark mark.CloseParenthesis) ∷ Suffixes_to_come ∷ rest_of m ss) _ _ _ (seen (l.uses + 1) (suc d) ∷ os) k (suc (suc d)) _ (by2 (by0 s)) (by2 (by0 s)) refl
      (λ new g. t _ (by1 (by0 s)) o _ (record { uses = by0 s; start = refl }) (owing (by0 (by1 (by0 s))) (both (one (by1 s)) g))))

  -- an operator in front of an operand
  after_prefix : (m : Mode) (f : List ℕ) (ss : List Symbol) (l : Level) (ls : List Level) (os : List Seen) (k d : ℕ) (ps : List Piece) → Short k l.uses d
      → ThenAt k d os (λ b new. On f (rest_of m ss) (front m b ls) new ps) → Then k (seen (l.uses + 1) (suc d) ∷ os) (λ new. On f (rest_of m ss) (map (placed l (length os)) (rest m 0) ++ ls) new ps)
  after_prefix m f ss l ls os k d ps s t new g =
      rest_on m (λ q. On f (rest_of m ss) q new ps) l (length os) 0 ls (t (level (l.uses + 0) (length os)) new (record { uses = by0 s; start = refl }) (both (one (by1 s)) g))

  prefix_shows : (at : ℕ) (p : Prefix) (e : Expr) → Shows e → IsOperandOf p e → ReadsExpr types e (takes_cast p) → (m : Mode) (f : List ℕ) (ss : List Symbol) (l : Level) (ls : List Level) (os : List Seen) (k d : ℕ) (ps : List Piece) → Short k l.uses d → Heads follows ps
      → ThenAt k d os (λ b new. On f (rest_of m ss) (front m b ls) new ps) → On f (Operand m ∷ ss) (l ∷ ls) os (expr_pieces i (prefixed at p e) d ps)
  prefix_shows at prefix_variant.Increase e q g r m f ss l ls os k d ps s h t = q.unary g mode.Unary r f (rest_of m ss) _ _ _ k (suc d) ps (by1 s) h (λ b new n. after_prefix m f ss l ls os k d ps s t new)
  prefix_shows at prefix_variant.Decrease e q g r m f ss l ls os k d ps s h t = q.unary g mode.Unary r f (rest_of m ss) _ _ _ k (suc d) ps (by1 s) h (λ b new n. after_prefix m f ss l ls os k d ps s t new)
  prefix_shows at prefix_variant.Sizeof e q g r m f ss l ls os k d ps s h t = q.unary g mode.Size r f (rest_of m ss) _ _ _ k (suc d) ps (by1 s) h (λ b new n. after_prefix m f ss l ls os k d ps s t new)
  prefix_shows at prefix_variant.Address e q g r m f ss l ls os k d ps s h t = q.casts g r f (rest_of m ss) _ _ _ k (suc d) ps (by1 s) h (after_prefix m f ss l ls os k d ps s t)
  prefix_shows at prefix_variant.Pointee e q g r m f ss l ls os k d ps s h t = q.casts g r f (rest_of m ss) _ _ _ k (suc d) ps (by1 s) h (after_prefix m f ss l ls os k d ps s t)
  prefix_shows at prefix_variant.Plus e q g r m f ss l ls os k d ps s h t = q.casts g r f (rest_of m ss) _ _ _ k (suc d) ps (by1 s) h (after_prefix m f ss l ls os k d ps s t)
  prefix_shows at prefix_variant.Minus e q g r m f ss l ls os k d ps s h t = q.casts g r f (rest_of m ss) _ _ _ k (suc d) ps (by1 s) h (after_prefix m f ss l ls os k d ps s t)
  prefix_shows at prefix_variant.Complement e q g r m f ss l ls os k d ps s h t = q.casts g r f (rest_of m ss) _ _ _ k (suc d) ps (by1 s) h (after_prefix m f ss l ls os k d ps s t)
  prefix_shows at prefix_variant.Not e q g r m f ss l ls os k d ps s h t = q.casts g r f (rest_of m ss) _ _ _ k (suc d) ps (by1 s) h (after_prefix m f ss l ls os k d ps s t)

  -- bases

  consts_show : (n : ℕ) (f : List ℕ) (ss : List Symbol) (l : Level) (ls : List Level) (os : List Seen) (k d : ℕ) (ps : List Piece) → Short k l.uses d → Heads behind_base ps
      → Then k os (λ new. On f ss ls new ps) → On f (Consts ∷ ss) (l ∷ ls) os (const_pieces i n None d ps)
  consts_show zero f ss l ls os k d ps s h t = out.pass_consts types i f ss l ls os ps h (t os nothing)
  consts_show (suc n) f ss l ls os k d ps s h t = consts_show n f ss _ ls _ k d ps (by0 s) h (from (λ new. On f ss ls new ps) (one (by0 s)) t)

  -- `const` in front of a base
  before_shows : (n : ℕ) (a : Option ℕ) (f : List ℕ) (ss : List Symbol) (l : Level) (ls : List Level) (os : List Seen) (k d : ℕ) (ps : List Piece) → Short k l.uses d
      → ((c : Level) → Short k c.uses d → Then k os (λ new. On f (Base_to_come ∷ ss) (c ∷ ls) new ps)) → On f (Base_to_come ∷ ss) (l ∷ ls) os (const_pieces i n a d ps)
  before_shows zero a f ss l ls os k d ps s t = t l s os nothing
  before_shows (suc n) a f ss l ls os k d ps s t = before_shows n None f ss _ ls _ k d ps (by0 s) (λ c z. from (λ new. On f (Base_to_come ∷ ss) (c ∷ ls) new ps) (one (by0 s)) (t c z))

  kinds_next : (w : Keyword) (ks : List Keyword) (o : Option Kinds) (n : Kinds) (f : List ℕ) (ss : List Symbol) (l : Level) (ls : List Level) (os : List Seen) (d : ℕ) (ps : List Piece) → kinds_behind n w ≡ o → fits_from o (λ m. fits m ks) ≡ true
      → ((m : Kinds) → fits m ks ≡ true → On f (Kind m ∷ ss) (level (l.uses + 0) (length os) ∷ ls) (seen (l.uses + 0) d ∷ os) (kind_pieces i ks None d ps)) → On f (Kind n ∷ ss) (l ∷ ls) os (kind_pieces i (w ∷ ks) None d ps)
  kinds_next w ks None n f ss l ls os d ps e g h = absurd (never (sym g))
  kinds_next w ks (Some m) n f ss l ls os d ps e g h =
      let other = read (knows_piece types i (piece i None (word.Key w) d)) (length os) (word.Key w) ss ls in
      let by : Option Kinds → Read = λ o. read_or l (length os) (if is_kind o then took 0 (up 0 ∷ []) else None) ls other in
      subst (λ o. right_from (or_else (kind_stage types f i ss o) (behind types f i ss (heard (word.Key w) [])))
      (λ next. IsRight next (by o).levels (seen_by (by o).reading d os) (kind_pieces i ks None d ps))) (sym e) (h m g)

  kinds_show : (ks : List Keyword) (n : Kinds) (f : List ℕ) (ss : List Symbol) (l : Level) (ls : List Level) (os : List Seen) (k d : ℕ) (ps : List Piece) → fits n ks ≡ true → Short k l.uses d → Heads behind_base ps
      → Then k os (λ new. On f ss ls new ps) → On f (Kind n ∷ ss) (l ∷ ls) os (kind_pieces i ks None d ps)
  kinds_show [] n f ss l ls os k d ps g s h t = out.pass_kind types i n f ss l ls os ps h (t os nothing)
  kinds_show (w ∷ ks) n f ss l ls os k d ps g s h t =
      kinds_next w ks (kinds_behind n w) n f ss l ls os d ps refl g
      (λ m e. kinds_show ks m f ss (level (l.uses + 0) (length os)) ls _ k d ps e (by0 s) h (from (λ new. On f ss ls new ps) (one (by0 s)) t))

  kind_shows : (ks : List Keyword) (a : Option ℕ) (f : List ℕ) (ss : List Symbol) (l : Level) (ls : List Level) (os : List Seen) (k d : ℕ) (ps : List Piece) → fits no_kinds ks ≡ true → Short k l.uses d → Heads behind_base ps
      → Then k os (λ new. On f ss ls new ps) → On f (Base_to_come ∷ ss) (l ∷ ls) os (kind_pieces i ks a d ps)
  kind_shows [] a f ss l ls os k d ps g s h t = absurd (never (sym g))
  kind_shows (key.Const ∷ ks) a f ss l ls os k d ps g s h t = kind_shows ks None f ss _ ls _ k d ps g (by0 s) h (from (λ new. On f ss ls new ps) (one (by0 s)) t)
  kind_shows (key.Char ∷ ks) a f ss l ls os k d ps g s h t = kinds_show ks _ f ss _ ls _ k d ps g (by0 s) h (from (λ new. On f ss ls new ps) (one (by0 s)) t)
  kind_shows (key.Short ∷ ks) a f ss l ls os k d ps g s h t = kinds_show ks _ f ss _ ls _ k d ps g (by0 s) h (from (λ new. On f ss ls new ps) (one (by0 s)) t)
  kind_shows (key.Int ∷ ks) a f ss l ls os k d ps g s h t = kinds_show ks _ f ss _ ls _ k d ps g (by0 s) h (from (λ new. On f ss ls new ps) (one (by0 s)) t)
  kind_shows (key.Long ∷ ks) a f ss l ls os k d ps g s h t = kinds_show ks _ f ss _ ls _ k d ps g (by0 s) h (from (λ new. On f ss ls new ps) (one (by0 s)) t)
  kind_shows (key.Signed ∷ ks) a f ss l ls os k d ps g s h t = kinds_show ks _ f ss _ ls _ k d ps g (by0 s) h (from (λ new. On f ss ls new ps) (one (by0 s)) t)
  kind_shows (key.Unsigned ∷ ks) a f ss l ls os k d ps g s h t = kinds_show ks _ f ss _ ls _ k d ps g (by0 s) h (from (λ new. On f ss ls new ps) (one (by0 s)) t)
  kind_shows (w ∷ ks) a f ss l ls os k d ps g s h t = absurd (never (sym g))

  tag_consts_show : (sort : TagSort) (n : ℕ) (f : List ℕ) (ss : List Symbol) (l : Level) (ls : List Level) (os : List Seen) (k d : ℕ) (ps : List Piece) → Short k l.uses d → Heads behind_base ps
      → Then k os (λ new. On f ss ls new ps) → On f (TagBody sort ∷ ss) (l ∷ ls) os (const_pieces i n None d ps)
  tag_consts_show sort zero f ss l ls os k d ps s h t = out.pass_tag types i sort f ss l ls os ps h (t os nothing)
  tag_consts_show sort (suc n) f ss l ls os k d ps s h t = consts_show n f ss _ ls _ k d ps (by0 s) h (from (λ new. On f ss ls new ps) (one (by0 s)) t)

  name_known : (n : Name) (f : List ℕ) (ss : List Symbol) (l : Level) (ls : List Level) (os : List Seen) (d : ℕ) (ps : List Piece) → Contains types n.bytes
      → On f (Consts ∷ ss) (level (l.uses + 0) (length os) ∷ ls) (seen (l.uses + 0) d ∷ os) ps → On f (Base_to_come ∷ ss) (l ∷ ls) os (spelt i word.Name n d ∷ ps)
  name_known n f ss l ls os d ps r h =
      subst (λ (b : Bool). right_from (if b then goes types f i (Consts ∷ ss) else None)
      (λ next. IsRight next (level (l.uses + 0) (length os) ∷ ls) (seen (l.uses + 0) d ∷ os) ps)) (sym (known_type types n.bytes r)) h

  -- stars

  abbrev Stands : ℕ → ℕ → List Seen → (Level → List Seen → Type 0) → Type 0
  Stands k d os P = (b : Level) → Short k b.uses d → Then k os (P b)

  star_consts_show : (c : ℕ) (n : Naming) (f : List ℕ) (ss : List Symbol) (l : Level) (ls : List Level) (os : List Seen) (k d : ℕ) (ps : List Piece) → Short k l.uses d
      → Stands k d os (λ b new. On f (Pointer n ∷ ss) (b ∷ ls) new ps) → On f (Pointer n ∷ ss) (l ∷ ls) os (const_pieces i c None d ps)
  star_consts_show zero n f ss l ls os k d ps s t = t l s os nothing
  star_consts_show (suc c) n f ss l ls os k d ps s t = star_consts_show c n f ss _ ls _ k d ps (by0 s) (λ b z. from (λ new. On f (Pointer n ∷ ss) (b ∷ ls) new ps) (one (by0 s)) (t b z))

  pointers_show : (stars : List ℕ) (n : Naming) (f : List ℕ) (ss : List Symbol) (l : Level) (ls : List Level) (os : List Seen) (k d : ℕ) (ps : List Piece) → Short k l.uses d → Heads no_const ps
      → Stands k d os (λ b new. On f (Declarator_to_come n ∷ ss) (b ∷ ls) new ps) → On f (Pointer n ∷ ss) (l ∷ ls) os (star_pieces i stars None d ps)
  pointers_show [] n f ss l ls os k d ps s h t = out.after_star types i n f ss l ls os ps h (t l s os nothing)
  pointers_show (c ∷ cs) n f ss l ls os k d ps s h t =
      star_consts_show c n f ss _ ls _ k d _ (by0 s)
      (λ b z new g. pointers_show cs n f ss b ls new k d ps z h (λ a y. from (λ q. On f (Declarator_to_come n ∷ ss) (a ∷ ls) q ps) (both (one (by0 s)) g) (t a y)))

  stars_show : (stars : List ℕ) (a : Option ℕ) (n : Naming) (f : List ℕ) (ss : List Symbol) (l : Level) (ls : List Level) (os : List Seen) (k d : ℕ) (ps : List Piece) → Short k l.uses d → Heads no_const ps
      → Stands k d os (λ b new. On f (Declarator_to_come n ∷ ss) (b ∷ ls) new ps) → On f (Declarator_to_come n ∷ ss) (l ∷ ls) os (star_pieces i stars a d ps)
  stars_show [] a n f ss l ls os k d ps s h t = t l s os nothing
  stars_show (c ∷ cs) a n f ss l ls os k d ps s h t =
      star_consts_show c n f ss _ ls _ k d _ (by0 s)
      (λ b z new g. pointers_show cs n f ss b ls new k d ps z h (λ a y. from (λ q. On f (Declarator_to_come n ∷ ss) (a ∷ ls) q ps) (both (one (by0 s)) g) (t a y)))

  -- declarators by their cores

  abbrev pub Declares : Naming → Declarator → Type 0
  Declares n x = (f : List ℕ) (ss : List Symbol) (l : Level) (ls : List Level) (os : List Seen) (k d : ℕ) (ps : List Piece) → Short k l.uses d → Heads leaves ps
      → Then k os (λ new. On (fresh_of n f x) ss ls new ps) → On f (Declarator_to_come n ∷ ss) (l ∷ ls) os (declarator_pieces i x d ps)

  abbrev ListsAt : Symbol → Brackets → Type 0
  ListsAt c bs = (a : Option ℕ) (f : List ℕ) (ss : List Symbol) (l : Level) (ls : List Level) (os : List Seen) (k d : ℕ) (ps : List Piece) → Short k l.uses d → Heads leaves ps
      → Then k os (λ new. On f ss ls new ps) → On f (c ∷ ss) (l ∷ ls) os (brackets_pieces i bs a d ps)

  named_shows : (n : Naming) (at : ℕ) (stars : List ℕ) (m : Name) (bs : Brackets) → IsNamed n (declarator at stars (named_core m) bs) → ListsAt Brackets_to_come bs → Declares n (declarator at stars (named_core m) bs)
  named_shows naming.Must at stars m bs g q f ss l ls os k d ps s h t =
      stars_show stars (Some at) naming.Must f ss l ls os k d _ s refl (λ b z new y. q _ f ss _ ls _ k d ps (by0 z) h (from (λ new. On f ss ls new ps) (both y (one (by0 z))) t))
  named_shows naming.May at stars m bs g q f ss l ls os k d ps s h t =
      stars_show stars (Some at) naming.May f ss l ls os k d _ s refl (λ b z new y. q _ f ss _ ls _ k d ps (by0 z) h (from (λ new. On f ss ls new ps) (both y (one (by0 z))) t))
  named_shows naming.Typedef at stars m bs g q f ss l ls os k d ps s h t =
      stars_show stars (Some at) naming.Typedef f ss l ls os k d _ s refl (λ b z new y. q _ m.bytes ss _ ls _ k d ps (by0 z) h (from (λ new. On m.bytes ss ls new ps) (both y (one (by0 z))) t))
  named_shows naming.Abstract at stars m bs g q f ss l ls os k d ps s h t = absurd g.0

  inner_shows : (n : Naming) (at j : ℕ) (stars : List ℕ) (x : Declarator) (bs : Brackets) → IsNamed n (declarator at stars (inner j x) bs) → (IsNamed n x → Declares n x) → ListsAt Brackets_to_come bs → Declares n (declarator at stars (inner j x) bs)
  inner_shows naming.Must at j stars x bs g y q f ss l ls os k d ps s h t =
      stars_show stars (Some at) naming.Must f ss l ls os k d _ s refl
      (λ b z new v. y g.2.1 f (Must (word.Mark mark.CloseParenthesis) ∷ Brackets_to_come ∷ ss) _ _ _ k (suc d) _ (by1 z) refl
      (λ more w. q _ f ss _ ls _ k d ps (by0 z) h (from (λ new. On f ss ls new ps) (owing (by0 (by0 z)) (both (both v (one (by0 z))) w)) t)))
  inner_shows naming.Typedef at j stars x bs g y q f ss l ls os k d ps s h t =
      stars_show stars (Some at) naming.Typedef f ss l ls os k d _ s refl
      (λ b z new v. y g.2.1 f (Must (word.Mark mark.CloseParenthesis) ∷ Brackets_to_come ∷ ss) _ _ _ k (suc d) _ (by1 z) refl
      (λ more w. q _ (name_in x) ss _ ls _ k d ps (by0 z) h (from (λ new. On (name_in x) ss ls new ps) (owing (by0 (by0 z)) (both (both v (one (by0 z))) w)) t)))
  inner_shows naming.May at j stars x bs g y q f ss l ls os k d ps s h t =
      stars_show stars (Some at) naming.May f ss l ls os k d _ s refl
      (λ b z new v. inner_first types i x g.2.0 f ss _ ls _ (suc d) _
      (y g.2.1 f (Must (word.Mark mark.CloseParenthesis) ∷ Brackets_to_come ∷ ss) _ _ _ k (suc d) _ (by1 (by0 z)) refl
      (λ more w. q _ f ss _ ls _ k d ps (by0 (by0 z)) h (from (λ new. On f ss ls new ps) (owing (by0 (by0 (by0 z))) (both (both v (one (by0 z))) w)) t))))
  inner_shows naming.Abstract at j stars x bs g y q f ss l ls os k d ps s h t = absurd g.0

  lacking_shows : (n : Naming) (at : ℕ) (stars : List ℕ) (bs : Brackets) → IsNamed n (declarator at stars lacking_core bs) → ListsAt (Declarator_to_come n) bs → Declares n (declarator at stars lacking_core bs)
  lacking_shows naming.May at stars bs g q f ss l ls os k d ps s h t =
      stars_show stars (Some at) naming.May f ss l ls os k d _ s (brackets_no_const types i bs _ d ps h) (λ b z new y. q _ f ss b ls new k d ps z h (from (λ new. On f ss ls new ps) y t))
  lacking_shows naming.Abstract at stars bs g q f ss l ls os k d ps s h t =
      stars_show stars (Some at) naming.Abstract f ss l ls os k d _ s (brackets_no_const types i bs _ d ps h) (λ b z new y. q _ f ss b ls new k d ps z h (from (λ new. On f ss ls new ps) y t))
  lacking_shows naming.Must at stars bs g q f ss l ls os k d ps s h t = absurd g.2
  lacking_shows naming.Typedef at stars bs g q f ss l ls os k d ps s h t = absurd g.2

  -- what is behind the word `struct` or `enum` up to its brace

  struct_tag : (n : Option Name) (f : List ℕ) (ss : List Symbol) (l : Level) (ls : List Level) (os : List Seen) (k d : ℕ) (ps : List Piece) → Short k l.uses d
      → ((a b c e z : Level) → Short k a.uses (suc d) → Short k b.uses (suc (suc d)) → Short k c.uses (suc d) → Short k e.uses d → Short k z.uses d
      → Then k os (λ new. On f (Base_to_come ∷ Declarator_to_come naming.Must ∷ MoreDeclarators ∷ Fields_to_come ∷ Consts ∷ ss) (a ∷ b ∷ c ∷ e ∷ z ∷ ls) new ps))
      → On f (Tag tag_sort.Struct ∷ ss) (l ∷ ls) os (tag_pieces i n d (mark_piece i mark.OpenBrace d ∷ ps))
  struct_tag None f ss l ls os k d ps s t = t _ _ _ _ _ (by1 s) (by2 s) (by1 s) (by0 s) (by0 s) _ (one (by0 s))
  struct_tag (Some n) f ss l ls os k d ps s t =
      let z = by0 s in
      t _ _ _ _ _ (by1 z) (by2 z) (by1 z) (by0 z) (by0 z) _ (owing (by0 z) (one z))

  enum_tag : (n : Option Name) (f : List ℕ) (ss : List Symbol) (l : Level) (ls : List Level) (os : List Seen) (k d : ℕ) (ps : List Piece) → Short k l.uses d
      → ((a b c e : Level) → Short k a.uses d → Short k b.uses d → Short k c.uses d → Short k e.uses d
      → Then k os (λ new. On f (Must word.Name ∷ ConstantValue ∷ Constants_to_come ∷ Consts ∷ ss) (a ∷ b ∷ c ∷ e ∷ ls) new ps))
      → On f (Tag tag_sort.Enum ∷ ss) (l ∷ ls) os (tag_pieces i n d (mark_piece i mark.OpenBrace d ∷ ps))
  enum_tag None f ss l ls os k d ps s t = t _ _ _ _ (by0 s) (by0 s) (by0 s) (by0 s) _ (one (by0 s))
  enum_tag (Some n) f ss l ls os k d ps s t =
      let z = by0 s in
      t _ _ _ _ (by0 z) (by0 z) (by0 z) (by0 z) _ (owing (by0 z) (one z))

  -- a parameter that begins with `void`
  void_shows : (at before behind d : ℕ) (x : Declarator) (xs : Params) (f : List ℕ) (ss : List Symbol) (l : Level) (ls : List Level) (os : List Seen) (k : ℕ) (ps : List Piece)
      → IsNotVoid (with_param (param (void at (record { before = before; behind = behind })) x) xs) → Short k l.uses d
      → Heads behind_base (declarator_pieces i x (suc d) (more_params_pieces i xs d (mark_piece i mark.CloseParenthesis d ∷ ps)))
      → ((a b : Level) → Short k a.uses (suc d) → Short k b.uses d → Then k os (λ new. On f (Declarator_to_come naming.May ∷ MoreParameters ∷ ss) (a ∷ b ∷ ls) new (declarator_pieces i x (suc d) (more_params_pieces i xs d (mark_piece i mark.CloseParenthesis d ∷ ps)))))
      → On f (Parameters ∷ ss) (l ∷ ls) os (base_pieces i (void at (record { before = before; behind = behind })) d (declarator_pieces i x (suc d) (more_params_pieces i xs d (mark_piece i mark.CloseParenthesis d ∷ ps))))
  void_shows at zero zero d x xs f ss l ls os k ps n s h t =
      let z = by0 s in
      void_first types i f ss (level (l.uses + 0) (length os)) ls (seen (l.uses + 0) d ∷ os) x (suc d) _
      (void_choice types i at d x xs f ss (level (l.uses + 0) (length os)) ls (seen (l.uses + 0) d ∷ os) ps n) (t _ _ (by1 z) (by0 z) _ (one z))
  void_shows at zero (suc m) d x xs f ss l ls os k ps n s h t =
      let z = by0 s in
      consts_show m f (Declarator_to_come naming.May ∷ MoreParameters ∷ ss) _ _ _ k d _ (by0 z) h
      (λ new g. t _ _ (by1 z) (by0 z) new (both (owing (by0 z) (one z)) g))
  void_shows at (suc m) b d x xs f ss l ls os k ps n s h t =
      let z = by0 s in
      before_shows m None f (Declarator_to_come naming.May ∷ MoreParameters ∷ ss) _ _ _ k d _ z
      (λ c y new g. consts_show b f (Declarator_to_come naming.May ∷ MoreParameters ∷ ss) _ _ _ k d _ (by0 y) h
      (λ more w. t _ _ (by1 s) (by0 s) more (both (owing (by0 y) (both (one z) g)) w)))

  -- operators between operands

  infix_shows : (o : Infix) (f : List ℕ) (ss : List Symbol) (b : Level) (ls : List Level) (os : List Seen) (d : ℕ) (ps : List Piece)
      → On f (Operand mode.Cast ∷ Behind false ∷ ss) (level (b.uses + 0) (length os) ∷ b ∷ ls) (seen (b.uses + 0) d ∷ os) ps → On f (Behind false ∷ ss) (b ∷ ls) os (mark_piece i (infix_mark o) d ∷ ps)
  infix_shows infix_variant.Any f ss b ls os d ps r = r
  infix_shows o f ss b ls os d ps r = r

  assign_shows : (a : Assigning) (f : List ℕ) (ss : List Symbol) (b : Level) (ls : List Level) (os : List Seen) (d : ℕ) (ps : List Piece)
      → On f (Operand mode.Assign ∷ ss) (level (b.uses + 1) (length os) ∷ ls) (seen (b.uses + 1) d ∷ deepen (length os - b.start) os) ps → On f (Behind true ∷ ss) (b ∷ ls) os (mark_piece i (assigning_mark a) d ∷ ps)
  assign_shows assigning_variant.Plain f ss b ls os d ps r = r
  assign_shows a f ss b ls os d ps r = r

  assign_free : (a : Assigning) (x e : Expr) → IsUnary x → Shows x → IsAssign e → Shows e → Free (assign a x e)
  assign_free a x e g y w z true h r f ss l ls os k d ps s n t =
      y.unary g mode.Assign r.0 f ss l ls os (suc k) (suc d) _ (owed1 s) (assigning_follows a)
      (λ b new m v. assign_shows a f ss b ls new (suc d) _
      (z.free true w r.1 f ss _ ls _ k (suc d) ps (late1 (m.uses)) n (from (λ new. On f ss ls new ps) (repays k d os new b m v) t)))
  assign_free a x e g y w z false h r f ss l ls os k d ps s n t = absurd h

  conditional_free : (c a b : Expr) → IsCondition c → Shows c → Shows a → IsCond b → Shows b → Free (conditional c a b)
  conditional_free c a b g x y w z u h r f ss l ls os k d ps s n t =
      x.left u g r.0 f ss l ls os (suc k) (suc d) _ (owed1 s) refl
      (λ v new m q. let e = late1 (m.uses) in
      y.any r.1 f (Must (word.Mark mark.Colon) ∷ Operand mode.Cond ∷ ss) _ _ _ _ k (suc (suc d)) _ (late2 (m.uses)) (late2 (m.uses)) refl
      (λ more o. z.free false w r.2 f ss _ ls _ k (suc d) ps e n
      (from (λ new. On f ss ls new ps) (owing (by0 e) (both (repays k d os new v m q) o)) t)))

  no_sequence : (e : Expr) (es : Exprs) → Free (sequence e es)
  no_sequence e es true h r f ss l ls os k d ps s n t = absurd h
  no_sequence e es false h r f ss l ls os k d ps s n t = absurd h

  -- a cast in the place of an assignment or of the condition of a conditional
  cast_left : (at : ℕ) (x : TypeName) (e : Expr) → IsTypeName x → Shows e → IsCast e
      → ((f : List ℕ) (ss : List Symbol) (a b c : Level) (ls : List Level) (os : List Seen) (k d : ℕ) (ps : List Piece) → Short k a.uses d → Short k b.uses d → Short k c.uses d
      → Then k os (λ new. On f ss ls new ps) → On f (Base_to_come ∷ Declarator_to_come naming.Abstract ∷ Must (word.Mark mark.CloseParenthesis) ∷ ss) (a ∷ b ∷ c ∷ ls) os (type_name_pieces i x d (mark_piece i mark.CloseParenthesis d ∷ ps)))
      → ReadsTypeName types x → Left (cast at x e)
  cast_left at x e g q c y rx true r f ss l ls os k d ps s h t =
      let z = by0 s in
      type_first types i mode.Assign x refl g rx f ss (level (l.uses + 0) (length os)) ls _ (suc d) _
      (y f (Operand mode.Cast ∷ Behind false ∷ ss) _ _ _ _ _ k (suc d) _ (by1 z) (by1 z) (by1 z)
      (λ new v. q.casts c r.1 f (Behind false ∷ ss) _ _ new k (suc d) ps (by1 z) (parts_are_follows ps h)
      (λ more w. t (level (l.uses + 0) (length os)) more (record { uses = z; start = refl }) (both (both (one (by1 s)) v) w))))
  cast_left at x e g q c y rx false r f ss l ls os k d ps s h t =
      let z = by0 s in
      type_first types i mode.Cond x refl g rx f ss (level (l.uses + 0) (length os)) ls _ (suc d) _
      (y f (Operand mode.Cast ∷ Behind false ∷ ss) _ _ _ _ _ k (suc d) _ (by1 z) (by1 z) (by1 z)
      (λ new v. q.casts c r.1 f (Behind false ∷ ss) _ _ new k (suc d) ps (by1 z) (parts_are_follows ps h)
      (λ more w. t (level (l.uses + 0) (length os)) more (record { uses = z; start = refl }) (both (both (one (by1 s)) v) w))))

  mutual
    pub expr_shows : (e : Expr) → IsExpr e → Shows e
    expr_shows (name n) g = of_primary (name n) tt (λ m r f ss l ls os k d ps s h t. atom m f ss l ls os k d ps s t)
    expr_shows (whole n) g = of_primary (whole n) tt (λ m r f ss l ls os k d ps s h t. atom m f ss l ls os k d ps s t)
    expr_shows (character n) g = of_primary (character n) tt (λ m r f ss l ls os k d ps s h t. atom m f ss l ls os k d ps s t)
    expr_shows (texts n ns) g = of_primary (texts n ns) tt (literals n ns)
    expr_shows (nested at e) g = of_primary (nested at e) tt (in_parentheses at e (expr_shows e g))
    expr_shows (suffixed e xs) g =
        let q = expr_shows e g.1 in
        of_unary (suffixed e xs) tt (λ h. absurd h)
        (λ m r f ss l ls os k d ps s h t. q.primary g.0 m r.0 f ss l ls os k d _ s (suffix_no_text types i xs (suc d) ps (follows_no_text ps h))
        (λ c z b new n v. suffixes_show xs g.3 r.1 f (rest_of m ss) c (front m b ls) new k (suc d) ps z h (λ more w. t b more n (both v w))))
    expr_shows (prefixed at p e) g =
        let q = expr_shows e g.1 in
        of_unary (prefixed at p e) tt (λ h. absurd h) (λ m r. prefix_shows at p e q g.0 r m)
    expr_shows (size_of at x) g =
        of_unary (size_of at x) tt (λ h. absurd h)
        (λ m r f ss l ls os k d ps s h t. let z = by0 (by1 s) in
        type_first types i mode.Size x refl g r f (rest_of m ss) (level (l.uses + 1 + 0) (suc (length os))) _ _ (suc d) _
        (type_name_shows x g r f (rest_of m ss) _ _ _ _ _ k (suc d) ps (by0 z) (by0 z) (by0 z)
        (λ new v. after_prefix m f ss l ls os k d ps s t new (both (one z) v))))
    expr_shows (cast at x e) g =
        let q = expr_shows e g.2 in
        let left : Left (cast at x e) = λ u r. cast_left at x e g.0 q g.1 (type_name_shows x g.0 r.0) r.0 u r in
        record {
          primary = λ h. absurd h;
          unary = λ h. absurd h;
          casts = λ h r f ss l ls os k d ps s n t. let z = by0 s in
              type_first types i mode.Cast x refl g.0 r.0 f ss (level (l.uses + 0) (length os)) ls _ (suc d) _
              (type_name_shows x g.0 r.0 f (Operand mode.Cast ∷ ss) _ _ _ _ _ k (suc d) _ (by1 z) (by1 z) (by1 z)
              (λ new v. q.casts g.1 r.1 f ss _ ls new k (suc d) ps (by1 z) n (from (λ new. On f ss ls new ps) (both (one (by1 s)) v) t)));
          right = λ h r f ss l b ls os k d ps s y n t. let z = by0 s in
              type_first types i mode.Cast x refl g.0 r.0 f (Behind false ∷ ss) (level (l.uses + 0) (length os)) (b ∷ ls) _ (suc d) _
              (type_name_shows x g.0 r.0 f (Operand mode.Cast ∷ Behind false ∷ ss) _ _ _ _ _ k (suc d) _ (by1 z) (by1 z) (by1 z)
              (λ new v. q.casts g.1 r.1 f (Behind false ∷ ss) _ (b ∷ ls) new k (suc d) ps (by1 z) (parts_are_follows ps n) (from (λ new. On f (Behind false ∷ ss) (b ∷ ls) new ps) (both (one (by1 s)) v) t)));
          left = λ u h. left u;
          free = free_of (cast at x e) left;
          any = any_of (cast at x e) tt (free_of (cast at x e) left);
        }
    expr_shows (row v a xs) g =
        let q = expr_shows a g.1 in
        let left : Left (row v a xs) = λ u r f ss l ls os k d ps s n t.
        q.left u (tighter_condition types i v a g.0) r.0 f ss l ls os k d _ s (operands_parts types i xs d ps n)
        (λ b new m w. operands_show v xs g.3 r.1 f ss b ls new k d ps (m.uses) n (λ more y. t b more m (both w y))) in
        record {
          primary = λ h. absurd h;
          unary = λ h. absurd h;
          casts = λ h. absurd h;
          right = λ h r f ss l b ls os k d ps s z n t.
              q.right (tighter_condition types i v a g.0) r.0 f ss l b ls os k d _ s z (operands_parts types i xs d ps n)
              (λ new w. operands_show v xs g.3 r.1 f ss b ls new k d ps z n (from (λ new. On f (Behind false ∷ ss) (b ∷ ls) new ps) w t));
          left = λ u h. left u;
          free = free_of (row v a xs) left;
          any = any_of (row v a xs) tt (free_of (row v a xs) left);
        }
    expr_shows (conditional c a b) g =
        let q = conditional_free c a b g.0 (expr_shows c g.1) (expr_shows a g.2) g.3 (expr_shows b g.4) in
        record {
          primary = λ h. absurd h;
          unary = λ h. absurd h;
          casts = λ h. absurd h;
          right = λ h. absurd h;
          left = λ u h. absurd h;
          free = q;
          any = any_of (conditional c a b) tt q;
        }
    expr_shows (assign a x e) g =
        let q = assign_free a x e g.0 (expr_shows x g.1) g.2 (expr_shows e g.3) in
        record {
          primary = λ h. absurd h;
          unary = λ h. absurd h;
          casts = λ h. absurd h;
          right = λ h. absurd h;
          left = λ u h. absurd h;
          free = q;
          any = any_of (assign a x e) tt q;
        }
    expr_shows (sequence e es) g =
        let q = expr_shows e g.1 in
        record {
          primary = λ h. absurd h;
          unary = λ h. absurd h;
          casts = λ h. absurd h;
          right = λ h. absurd h;
          left = λ u h. absurd h;
          free = no_sequence e es;
          any = λ r f ss l c ls os k d ps s z h t. q.free true g.0 r.0 f (Commas ∷ ss) l (c ∷ ls) os k d _ s (more_ends types i es d ps h)
              (λ new v. more_show es g.3 r.1 f ss c ls new k d ps z h (from (λ new. On f ss ls new ps) v t));
        }

    operands_show : (v : Rank) (xs : Operands) → AreOperands v xs → ReadsOperands types xs → (f : List ℕ) (ss : List Symbol) (b : Level) (ls : List Level) (os : List Seen) (k d : ℕ) (ps : List Piece) → Short k b.uses d → Heads parts ps
        → Then k os (λ new. On f (Behind false ∷ ss) (b ∷ ls) new ps) → On f (Behind false ∷ ss) (b ∷ ls) os (operands_pieces i xs d ps)
    operands_show v no_operands g r f ss b ls os k d ps s h t = t os nothing
    operands_show v (with_operand o e xs) g r f ss b ls os k d ps s h t =
        let q = expr_shows e g.2 in
        infix_shows o f ss b ls os d _
        (q.right (tighter_condition types i v e g.1) r.0 f ss _ b ls _ k d _ (by0 s) s (operands_parts types i xs d ps h)
        (λ new w. operands_show v xs g.3 r.1 f ss b ls new k d ps s h (from (λ new. On f (Behind false ∷ ss) (b ∷ ls) new ps) (both (one (by0 s)) w) t)))

    more_show : (es : Exprs) → AreAssigns es → ReadsExprs types es → (f : List ℕ) (ss : List Symbol) (l : Level) (ls : List Level) (os : List Seen) (k d : ℕ) (ps : List Piece) → Short k l.uses d → Heads closes ps
        → Then k os (λ new. On f ss ls new ps) → On f (Commas ∷ ss) (l ∷ ls) os (more_pieces i es d ps)
    more_show no_exprs g r f ss l ls os k d ps s h t = out.pass_commas types i f ss l ls os ps h (t os nothing)
    more_show (with_expr e es) g r f ss l ls os k d ps s h t =
        let q = expr_shows e g.1 in
        q.free true g.0 r.0 f (Commas ∷ ss) _ _ _ k d _ (by0 s) (more_ends types i es d ps h)
        (λ new v. more_show es g.2 r.1 f ss _ ls new k d ps (by0 s) h (from (λ new. On f ss ls new ps) (both (one (by0 s)) v) t))

    pub arguments_show : (es : Exprs) → AreAssigns es → ReadsExprs types es → (f : List ℕ) (ss : List Symbol) (l : Level) (ls : List Level) (os : List Seen) (k d : ℕ) (ps : List Piece) → Short k l.uses d → Heads closes ps
        → Then k os (λ new. On f ss ls new ps) → On f (Optional ∷ ss) (l ∷ ls) os (argument_pieces i es d ps)
    arguments_show no_exprs g r f ss l ls os k d ps s h t = out.pass_optional types i f ss l ls os ps h (t os nothing)
    arguments_show (with_expr e es) g r f ss l ls os k d ps s h t =
        let q = expr_shows e g.1 in
        optional_first types i e f ss l ls os d _
        (q.free true g.0 r.0 f (Commas ∷ ss) _ _ os k d _ (by0 s) (more_ends types i es d ps h)
        (λ new v. more_show es g.2 r.1 f ss _ ls new k d ps (by0 s) h (from (λ new. On f ss ls new ps) v t)))

    suffixes_show : (xs : Suffixes) → AreSuffixes xs → ReadsSuffixes types xs → (f : List ℕ) (ss : List Symbol) (l : Level) (ls : List Level) (os : List Seen) (k d : ℕ) (ps : List Piece) → Short k l.uses d → Heads follows ps
        → Then k os (λ new. On f ss ls new ps) → On f (Suffixes_to_come ∷ ss) (l ∷ ls) os (suffixes_pieces i xs d ps)
    suffixes_show no_suffixes g r f ss l ls os k d ps s h t = out.pass_suffixes types i f ss l ls os ps h (t os nothing)
    suffixes_show (with_suffix x xs) g r f ss l ls os k d ps s h t =
        suffix_shows x g.0 r.0 f ss l ls os k d _ s (λ b z new v. suffixes_show xs g.1 r.1 f ss b ls new k d ps z h (from (λ new. On f ss ls new ps) v t))

    suffix_shows : (x : Suffix) → IsSuffix x → ReadsSuffix types x → (f : List ℕ) (ss : List Symbol) (l : Level) (ls : List Level) (os : List Seen) (k d : ℕ) (ps : List Piece) → Short k l.uses d
        → Stands k d os (λ b new. On f (Suffixes_to_come ∷ ss) (b ∷ ls) new ps) → On f (Suffixes_to_come ∷ ss) (l ∷ ls) os (suffix_pieces i x d ps)
    suffix_shows (index e) g r f ss l ls os k d ps s t =
        let q = expr_shows e g in
        q.any r f (Must (word.Mark mark.CloseBracket) ∷ Suffixes_to_come ∷ ss) _ _ _ _ k (suc d) _ (by1 s) (by1 s) refl
        (λ new v. t _ (by0 s) _ (owing (by0 (by0 s)) (both (one (by0 s)) v)))
    suffix_shows (call es) g r f ss l ls os k d ps s t =
        arguments_show es g r f (Must (word.Mark mark.CloseParenthesis) ∷ Suffixes_to_come ∷ ss) _ _ _ k d _ (by0 s) refl
        (λ new v. t _ (by0 s) _ (owing (by0 (by0 s)) (both (one (by0 s)) v)))
    suffix_shows (member n) g r f ss l ls os k d ps s t = t _ (by0 s) _ (owing (by0 (by0 s)) (one (by0 s)))
    suffix_shows (arrow n) g r f ss l ls os k d ps s t = t _ (by0 s) _ (owing (by0 (by0 s)) (one (by0 s)))
    suffix_shows increased g r f ss l ls os k d ps s t = t _ (by0 s) _ (one (by0 s))
    suffix_shows decreased g r f ss l ls os k d ps s t = t _ (by0 s) _ (one (by0 s))

    count_shows : (e : Perhaps) → IsCount e → ReadsPerhaps types e → (f : List ℕ) (ss : List Symbol) (l : Level) (ls : List Level) (os : List Seen) (k d : ℕ) (ps : List Piece) → Short k l.uses d
        → Then k os (λ new. On f ss ls new ps) → On f (Count ∷ ss) (l ∷ ls) os (perhaps_pieces i e d (mark_piece i mark.CloseBracket d ∷ ps))
    count_shows absent g r f ss l ls os k d ps s t = t _ (one (by0 s))
    count_shows (present e) g r f ss l ls os k d ps s t =
        let q = expr_shows e g.1 in
        count_first types i e f ss l ls os d _
        (q.free false g.0 r f (Must (word.Mark mark.CloseBracket) ∷ ss) l _ os k d _ s refl (λ new v. t _ (owing (by0 (by0 s)) v)))

    given_shows : (e : Perhaps) → IsCount e → ReadsPerhaps types e → (f : List ℕ) (ss : List Symbol) (l : Level) (ls : List Level) (os : List Seen) (k d : ℕ) (ps : List Piece) → Short k l.uses d → Heads ends ps
        → Then k os (λ new. On f ss ls new ps) → On f (ConstantValue ∷ ss) (l ∷ ls) os (given_pieces i e d ps)
    given_shows absent g r f ss l ls os k d ps s h t = out.pass_value types i f ss l ls os ps h (t os nothing)
    given_shows (present e) g r f ss l ls os k d ps s h t =
        let q = expr_shows e g.1 in
        q.free false g.0 r f ss _ ls _ k d ps (by0 s) h (from (λ new. On f ss ls new ps) (one (by0 s)) t)

    pub base_shows : (b : Base) → IsBase b → ReadsBase types b → (f : List ℕ) (ss : List Symbol) (l : Level) (ls : List Level) (os : List Seen) (k d : ℕ) (ps : List Piece) → Short k l.uses d → Heads behind_base ps
        → Then k os (λ new. On f ss ls new ps) → On f (Base_to_come ∷ ss) (l ∷ ls) os (base_pieces i b d ps)
    base_shows (kind at ws) g r f ss l ls os k d ps s h t = kind_shows ws (Some at) f ss l ls os k d ps (kind_fits ws g) s h t
    base_shows (void at c) g r f ss l ls os k d ps s h t =
        before_shows c.before (Some at) f ss l ls os k d _ s
        (λ b z new v. consts_show c.behind f ss _ ls _ k d ps (by0 z) h (from (λ new. On f ss ls new ps) (both v (one (by0 z))) t))
    base_shows (typedef_name at n c) g r f ss l ls os k d ps s h t =
        before_shows c.before (Some at) f ss l ls os k d _ s
        (λ b z new v. name_known n f ss b ls new d _ r (consts_show c.behind f ss _ ls _ k d ps (by0 z) h (from (λ new. On f ss ls new ps) (both v (one (by0 z))) t)))
    base_shows (tag at tag_sort.Struct n c) g r f ss l ls os k d ps s h t =
        before_shows c.before (Some at) f ss l ls os k d _ s
        (λ b z new v. tag_consts_show tag_sort.Struct c.behind f ss _ ls _ k d ps (by0 (by0 z)) h (from (λ new. On f ss ls new ps) (owing (by0 (by0 z)) (both v (one (by0 z)))) t))
    base_shows (tag at tag_sort.Enum n c) g r f ss l ls os k d ps s h t =
        before_shows c.before (Some at) f ss l ls os k d _ s
        (λ b z new v. tag_consts_show tag_sort.Enum c.behind f ss _ ls _ k d ps (by0 (by0 z)) h (from (λ new. On f ss ls new ps) (owing (by0 (by0 z)) (both v (one (by0 z)))) t))
    base_shows (structure at n no_fields c) g r f ss l ls os k d ps s h t = absurd (g.0 refl)
    base_shows (structure at n (with_field x xs) c) g r f ss l ls os k d ps s h t =
        before_shows c.before (Some at) f ss l ls os k d _ s
        (λ b z new v. struct_tag n f ss _ ls _ k d _ (by0 z)
        (λ a1 a2 a3 a4 a5 z1 z2 z3 z4 z5 n1 v1. field_shows x g.1.0 r.0 f (Fields_to_come ∷ Consts ∷ ss) a1 a2 a3 _ n1 k (suc d) _ z1 z2 z3
        (λ n2 v2. fields_show xs g.1.1 r.1 f (Consts ∷ ss) a4 _ n2 k d _ z4
        (λ n3 v3. consts_show c.behind f ss a5 ls n3 k d ps z5 h (from (λ new. On f ss ls new ps) (both (both (both (both v (one (by0 z))) v1) v2) v3) t)))))
    base_shows (enumeration at n no_constants c) g r f ss l ls os k d ps s h t = absurd (g.0 refl)
    base_shows (enumeration at n (with_constant (constant m e) cs) c) g r f ss l ls os k d ps s h t =
        before_shows c.before (Some at) f ss l ls os k d _ s
        (λ b z new v. enum_tag n f ss _ ls _ k d _ (by0 z)
        (λ a1 a2 a3 a4 z1 z2 z3 z4 n1 v1. given_shows e g.1.0 r.0 f (Constants_to_come ∷ Consts ∷ ss) a2 _ _ k d _ z2 (constants_end types i cs d _)
        (λ n2 v2. constants_show cs g.1.1 r.1 f (Consts ∷ ss) a3 _ n2 k d _ z3
        (λ n3 v3. consts_show c.behind f ss a4 ls n3 k d ps z4 h (from (λ new. On f ss ls new ps) (both (both (both (both (both v (one (by0 z))) v1) (one (by0 z1))) v2) v3) t)))))

    field_shows : (x : Field) → IsField x → ReadsField types x → (f : List ℕ) (ss : List Symbol) (a b c : Level) (ls : List Level) (os : List Seen) (k d : ℕ) (ps : List Piece) → Short k a.uses d → Short k b.uses (suc d) → Short k c.uses d
        → Then k os (λ new. On f ss ls new ps) → On f (Base_to_come ∷ Declarator_to_come naming.Must ∷ MoreDeclarators ∷ ss) (a ∷ b ∷ c ∷ ls) os (field_pieces i x d ps)
    field_shows (field base no_declarators) g r f ss a b c ls os k d ps z1 z2 z3 t = absurd (g.1 refl)
    field_shows (field base (with_declarator x xs)) g r f ss a b c ls os k d ps z1 z2 z3 t =
        base_shows base g.0 r.0 f (Declarator_to_come naming.Must ∷ MoreDeclarators ∷ ss) a _ os k d _ z1 (declared_behind types i x (suc d) _ (inl (must_tokens types i x g.2.0)))
        (λ n1 v1. declarator_shows naming.Must x g.2.0 r.1.0 f (MoreDeclarators ∷ ss) b _ n1 k (suc d) _ z2 (declarators_leave types i xs d _ refl)
        (λ n2 v2. declarators_show xs g.2.1 r.1.1 f ss c ls n2 k d ps z3 (from (λ new. On f ss ls new ps) (both v1 v2) t)))

    fields_show : (xs : Fields) → AreFields xs → ReadsFields types xs → (f : List ℕ) (ss : List Symbol) (l : Level) (ls : List Level) (os : List Seen) (k d : ℕ) (ps : List Piece) → Short k l.uses d
        → Then k os (λ new. On f ss ls new ps) → On f (Fields_to_come ∷ ss) (l ∷ ls) os (fields_pieces i xs (suc d) (mark_piece i mark.CloseBrace d ∷ ps))
    fields_show no_fields g r f ss l ls os k d ps s t = t _ (one (by0 s))
    fields_show (with_field (field base ds) xs) g r f ss l ls os k d ps s t =
        fields_first types i base g.0.0 r.0.0 f ss l ls os (suc d) _
        (field_shows (field base ds) g.0 r.0 f (Fields_to_come ∷ ss) _ _ _ _ os k (suc d) _ (by1 s) (by2 s) (by1 s)
        (λ n1 v1. fields_show xs g.1 r.1 f ss _ ls n1 k d ps (by0 s) (from (λ new. On f ss ls new ps) v1 t)))

    declarators_show : (xs : Declarators) → AreDeclarators xs → ReadsDeclarators types xs → (f : List ℕ) (ss : List Symbol) (l : Level) (ls : List Level) (os : List Seen) (k d : ℕ) (ps : List Piece) → Short k l.uses d
        → Then k os (λ new. On f ss ls new ps) → On f (MoreDeclarators ∷ ss) (l ∷ ls) os (more_declarators_pieces i xs d (mark_piece i mark.Semicolon d ∷ ps))
    declarators_show no_declarators g r f ss l ls os k d ps s t = t _ (one (by0 s))
    declarators_show (with_declarator x xs) g r f ss l ls os k d ps s t =
        declarator_shows naming.Must x g.0 r.0 f (MoreDeclarators ∷ ss) _ _ _ k (suc d) _ (by1 s) (declarators_leave types i xs d _ refl)
        (λ n1 v1. declarators_show xs g.1 r.1 f ss _ ls n1 k d ps (by0 s) (from (λ new. On f ss ls new ps) (both (one (by0 s)) v1) t))

    constants_show : (cs : Constants) → AreConstants cs → ReadsConstants types cs → (f : List ℕ) (ss : List Symbol) (l : Level) (ls : List Level) (os : List Seen) (k d : ℕ) (ps : List Piece) → Short k l.uses d
        → Then k os (λ new. On f ss ls new ps) → On f (Constants_to_come ∷ ss) (l ∷ ls) os (more_constants_pieces i cs d (mark_piece i mark.CloseBrace d ∷ ps))
    constants_show no_constants g r f ss l ls os k d ps s t = t _ (one (by0 s))
    constants_show (with_constant (constant n e) cs) g r f ss l ls os k d ps s t =
        given_shows e g.0 r.0 f (Constants_to_come ∷ ss) _ _ _ k d _ (by0 s) (constants_end types i cs d ps)
        (λ n1 v1. constants_show cs g.1 r.1 f ss _ ls n1 k d ps (by0 s) (from (λ new. On f ss ls new ps) (both (owing (by0 (by0 s)) (one (by0 s))) v1) t))

    pub declarator_shows : (n : Naming) (x : Declarator) → IsNamed n x → ReadsDeclarator types x → Declares n x
    declarator_shows n (declarator at stars (named_core m) bs) g r = named_shows n at stars m bs g (brackets_show bs (named_brackets types i n (declarator at stars (named_core m) bs) g) r.1)
    declarator_shows n (declarator at stars (inner j x) bs) g r =
        inner_shows n at j stars x bs g (λ h. declarator_shows n x h r.0) (brackets_show bs (named_brackets types i n (declarator at stars (inner j x) bs) g) r.1)
    declarator_shows n (declarator at stars lacking_core bs) g r = lacking_shows n at stars bs g (bare_shows n bs (named_bare types i n at stars bs g) r.1)

    brackets_show : (bs : Brackets) → AreBrackets bs → ReadsBrackets types bs → ListsAt Brackets_to_come bs
    brackets_show no_brackets g r a f ss l ls os k d ps s h t = out.pass_brackets types i f ss l ls os ps h (t os nothing)
    brackets_show (with_bracket (count e) bs) g r a f ss l ls os k d ps s h t =
        count_shows e g.0 r.0 f (Brackets_to_come ∷ ss) _ _ _ k d _ (by0 s) (λ n1 v1. brackets_show bs g.1 r.1 None f ss _ ls n1 k d ps (by0 s) h (from (λ new. On f ss ls new ps) (both (one (by0 s)) v1) t))
    brackets_show (with_bracket empty_list bs) g r a f ss l ls os k d ps s h t = brackets_show bs g.1 r.1 None f ss _ ls _ k d ps (by0 s) h (from (λ new. On f ss ls new ps) (owing (by0 (by0 s)) (one (by0 s))) t)
    brackets_show (with_bracket void_list bs) g r a f ss l ls os k d ps s h t =
        brackets_show bs g.1 r.1 None f ss _ ls _ k d ps (by0 s) h (from (λ new. On f ss ls new ps) (owing (by0 (by0 (by0 s))) (owing (by0 (by0 s)) (one (by0 s)))) t)
    brackets_show (with_bracket (param_list xs) bs) g r a f ss l ls os k d ps s h t =
        params_show xs g.0.0 g.0.1 g.0.2 r.0 f (Brackets_to_come ∷ ss) _ _ _ k d _ (by0 s) (λ n1 v1. brackets_show bs g.1 r.1 None f ss _ ls n1 k d ps (by0 s) h (from (λ new. On f ss ls new ps) (both (one (by0 s)) v1) t))

    counts_show : (bs : Brackets) → AreCounts bs → AreBrackets bs → ReadsBrackets types bs → ListsAt Counts bs
    counts_show no_brackets c g r a f ss l ls os k d ps s h t = out.pass_counts types i f ss l ls os ps h (t os nothing)
    counts_show (with_bracket (count e) bs) c g r a f ss l ls os k d ps s h t =
        count_shows e g.0 r.0 f (Counts ∷ ss) _ _ _ k d _ (by0 s) (λ n1 v1. counts_show bs c g.1 r.1 None f ss _ ls n1 k d ps (by0 s) h (from (λ new. On f ss ls new ps) (both (one (by0 s)) v1) t))
    counts_show (with_bracket empty_list bs) c g r a f ss l ls os k d ps s h t = absurd c
    counts_show (with_bracket void_list bs) c g r a f ss l ls os k d ps s h t = absurd c
    counts_show (with_bracket (param_list xs) bs) c g r a f ss l ls os k d ps s h t = absurd c

    -- the brackets where a core lacks
    bare_shows : (n : Naming) (bs : Brackets) → Bare types i n bs → ReadsBrackets types bs → ListsAt (Declarator_to_come n) bs
    bare_shows naming.Must bs g r a f ss l ls os k d ps s h t = absurd g
    bare_shows naming.Typedef bs g r a f ss l ls os k d ps s h t = absurd g
    bare_shows naming.May no_brackets g r a f ss l ls os k d ps s h t = out.pass_declarator types i naming.May f ss l ls os ps refl h (t os nothing)
    bare_shows naming.May (with_bracket (count e) bs) g r a f ss l ls os k d ps s h t =
        count_shows e g.1.0 r.0 f (Brackets_to_come ∷ ss) _ _ _ k d _ (by0 s) (λ n1 v1. brackets_show bs g.1.1 r.1 None f ss _ ls n1 k d ps (by0 s) h (from (λ new. On f ss ls new ps) (both (one (by0 s)) v1) t))
    bare_shows naming.May (with_bracket empty_list bs) g r a f ss l ls os k d ps s h t =
        brackets_show bs g.1.1 r.1 None f ss _ ls _ k d ps (by0 (by0 s)) h (from (λ new. On f ss ls new ps) (owing (by0 (by0 s)) (one (by0 s))) t)
    bare_shows naming.May (with_bracket void_list bs) g r a f ss l ls os k d ps s h t =
        brackets_show bs g.1.1 r.1 None f ss _ ls _ k d ps (by0 (by0 s)) h (from (λ new. On f ss ls new ps) (owing (by0 (by0 (by0 s))) (owing (by0 (by0 s)) (one (by0 s)))) t)
    bare_shows naming.May (with_bracket (param_list no_params) bs) g r a f ss l ls os k d ps s h t = absurd (g.1.0.0 refl)
    bare_shows naming.May (with_bracket (param_list (with_param (param b x) xs)) bs) g r a f ss l ls os k d ps s h t =
        nameless_first types i b x xs g.0 g.1.0.2.0.0 f ss _ ls _ d _
        (params_show (with_param (param b x) xs) g.1.0.0 g.1.0.1 g.1.0.2 r.0 f (Brackets_to_come ∷ ss) _ _ _ k d _ (by0 s)
        (λ n1 v1. brackets_show bs g.1.1 r.1 None f ss _ ls n1 k d ps (by0 (by0 s)) h (from (λ new. On f ss ls new ps) (both (one (by0 s)) v1) t)))
    bare_shows naming.Abstract no_brackets g r a f ss l ls os k d ps s h t = out.pass_declarator types i naming.Abstract f ss l ls os ps refl h (t os nothing)
    bare_shows naming.Abstract (with_bracket (count e) bs) g r a f ss l ls os k d ps s h t =
        count_shows e g.1.0 r.0 f (Counts ∷ ss) _ _ _ k d _ (by0 s) (λ n1 v1. counts_show bs g.0 g.1.1 r.1 None f ss _ ls n1 k d ps (by0 s) h (from (λ new. On f ss ls new ps) (both (one (by0 s)) v1) t))
    bare_shows naming.Abstract (with_bracket empty_list bs) g r a f ss l ls os k d ps s h t = absurd g.0
    bare_shows naming.Abstract (with_bracket void_list bs) g r a f ss l ls os k d ps s h t = absurd g.0
    bare_shows naming.Abstract (with_bracket (param_list xs) bs) g r a f ss l ls os k d ps s h t = absurd g.0

    params_show : (xs : Params) → (xs ≢ no_params) → IsNotVoid xs → AreParams xs → ReadsParams types xs → (f : List ℕ) (ss : List Symbol) (l : Level) (ls : List Level) (os : List Seen) (k d : ℕ) (ps : List Piece) → Short k l.uses d
        → Then k os (λ new. On f ss ls new ps) → On f (Parameters ∷ ss) (l ∷ ls) os (params_pieces i xs d (mark_piece i mark.CloseParenthesis d ∷ ps))
    params_show no_params n v g r f ss l ls os k d ps s t = absurd (n refl)
    params_show (with_param (param (void at c) x) xs) n v g r f ss l ls os k d ps s t =
        void_shows at c.before c.behind d x xs f ss l ls os k ps v s (declared_behind types i x (suc d) _ (param_tokens types i x xs d ps))
        (λ a b z1 z2 n1 v1. declarator_shows naming.May x g.0.1 r.0.1 f (MoreParameters ∷ ss) a _ n1 k (suc d) _ z1 (params_leave types i xs d ps)
        (λ n2 v2. more_params_show xs g.1 r.1 f ss b ls n2 k d ps z2 (from (λ new. On f ss ls new ps) (both v1 v2) t)))
    params_show (with_param (param b x) xs) n v g r f ss l ls os k d ps s t =
        parameters_first types i b g.0.0 tt f ss l ls os d _
        (base_shows b g.0.0 r.0.0 f (Declarator_to_come naming.May ∷ MoreParameters ∷ ss) l _ os k d _ s (declared_behind types i x (suc d) _ (param_tokens types i x xs d ps))
        (λ n1 v1. declarator_shows naming.May x g.0.1 r.0.1 f (MoreParameters ∷ ss) _ _ n1 k (suc d) _ (by1 s) (params_leave types i xs d ps)
        (λ n2 v2. more_params_show xs g.1 r.1 f ss _ ls n2 k d ps (by0 s) (from (λ new. On f ss ls new ps) (both v1 v2) t))))

    more_params_show : (xs : Params) → AreParams xs → ReadsParams types xs → (f : List ℕ) (ss : List Symbol) (l : Level) (ls : List Level) (os : List Seen) (k d : ℕ) (ps : List Piece) → Short k l.uses d
        → Then k os (λ new. On f ss ls new ps) → On f (MoreParameters ∷ ss) (l ∷ ls) os (more_params_pieces i xs d (mark_piece i mark.CloseParenthesis d ∷ ps))
    more_params_show no_params g r f ss l ls os k d ps s t = t _ (one (by0 s))
    more_params_show (with_param (param b x) xs) g r f ss l ls os k d ps s t =
        base_shows b g.0.0 r.0.0 f (Declarator_to_come naming.May ∷ MoreParameters ∷ ss) _ _ _ k d _ (by0 s) (declared_behind types i x (suc d) _ (param_tokens types i x xs d ps))
        (λ n1 v1. declarator_shows naming.May x g.0.1 r.0.1 f (MoreParameters ∷ ss) _ _ n1 k (suc d) _ (by1 s) (params_leave types i xs d ps)
        (λ n2 v2. more_params_show xs g.1 r.1 f ss _ ls n2 k d ps (by0 s) (from (λ new. On f ss ls new ps) (both (both (one (by0 s)) v1) v2) t)))

    type_name_shows : (x : TypeName) → IsTypeName x → ReadsTypeName types x → (f : List ℕ) (ss : List Symbol) (a b c : Level) (ls : List Level) (os : List Seen) (k d : ℕ) (ps : List Piece) → Short k a.uses d → Short k b.uses d → Short k c.uses d
        → Then k os (λ new. On f ss ls new ps) → On f (Base_to_come ∷ Declarator_to_come naming.Abstract ∷ Must (word.Mark mark.CloseParenthesis) ∷ ss) (a ∷ b ∷ c ∷ ls) os (type_name_pieces i x d (mark_piece i mark.CloseParenthesis d ∷ ps))
    type_name_shows (type_name base x) g r f ss a b c ls os k d ps z1 z2 z3 t =
        base_shows base g.0 r.0 f (Declarator_to_come naming.Abstract ∷ Must (word.Mark mark.CloseParenthesis) ∷ ss) a _ os k d _ z1 (declared_behind types i x d _ (inr refl))
        (λ n1 v1. declarator_shows naming.Abstract x (g.1, g.2) r.1 f (Must (word.Mark mark.CloseParenthesis) ∷ ss) b _ n1 k d _ z2 refl
        (λ n2 v2. t _ (owing (by0 z3) (both v1 v2))))
