-- The walk takes the pieces of expressions, types and declarators.
use Rattle.std.proofs.Common.{◌≡◌, ◌≢◌, ℕ, zero, suc, ◌⊎◌, inl, inr, Bool, true, false, if◌then◌else◌, List, [], ◌∷◌, Option, Some, None, refl, sym, ap, ◌∙◌, Contains}
use Rattle.porch_tree.specs.declared.word.Keyword.{Keyword}
use Rattle.porch_tree.specs.declared.word.Keyword.TheVariants as key
use Rattle.porch_tree.specs.declared.word.Mark.{Mark}
use Rattle.porch_tree.specs.declared.word.Mark.TheVariants as mark
use Rattle.porch_tree.specs.declared.word.Word.{Word}
use Rattle.porch_tree.specs.declared.word.Word.TheVariants as word
use Rattle.porch_tree.specs.declared.tree.TagSort.{TagSort}
use Rattle.porch_tree.specs.declared.tree.TagSort.TheVariants as tag_sort
use Rattle.porch_tree.specs.declared.tree.Prefix.{Prefix}
use Rattle.porch_tree.specs.declared.tree.Prefix.TheVariants as prefix_variant
use Rattle.porch_tree.specs.declared.tree.Infix.{Infix}
use Rattle.porch_tree.specs.declared.tree.Infix.TheVariants as infix_variant
use Rattle.porch_tree.specs.declared.tree.Assigning.{Assigning}
use Rattle.porch_tree.specs.declared.tree.Assigning.TheVariants as assigning_variant
use Rattle.porch_tree.specs.declared.tree.Level.{Level}
use Rattle.porch_tree.specs.Words.{infix_mark, assigning_mark}
use Rattle.porch_tree.specs.Mirror.{Name, Expr, name, whole, character, texts, nested, suffixed, prefixed, size_of, cast, row, conditional, assign, sequence, Exprs, no_exprs, with_expr, Operands, no_operands, with_operand, Perhaps, absent, present, Suffix, index, call, member, arrow, increased, decreased, Suffixes, no_suffixes, with_suffix, Base, kind, void, typedef_name, tag, structure, enumeration, Field, field, Fields, no_fields, with_field, constant, Constants, no_constants, with_constant, Declarator, declarator, Declarators, no_declarators, with_declarator, Core, lacking as lacking_core, named as named_core, inner, count, empty_list, void_list, param_list, Brackets, no_brackets, with_bracket, param, Params, no_params, with_param, TypeName, type_name}
use Rattle.porch_tree.specs.Pieces.{Piece, mark as mark_piece, piece, spelt, text_pieces, expr_pieces, operands_pieces, more_pieces, argument_pieces, perhaps_pieces, suffixes_pieces, suffix_pieces, base_pieces, kind_pieces, const_pieces, tag_pieces, field_pieces, fields_pieces, more_declarators_pieces, more_constants_pieces, given_pieces, star_pieces, core_pieces, brackets_pieces, params_pieces, more_params_pieces, declarator_pieces, type_name_pieces}
use Rattle.porch_tree.specs.Formed.{IsPrimary, IsUnary, IsTighter, IsCast, IsCondition, IsCond, IsAssign, IsOperandOf, IsExpr, AreOperands, AreAssigns, IsCount, AreSuffixes, IsSuffix, IsBase, IsField, AreFields, AreDeclarators, AreConstants, IsDeclarator, AreBrackets, AreCounts, AreParams, IsNotVoid, BeginsParams, IsListFirst, HasTokens, IsTypeName}
use Rattle.porch_tree.specs.Names.{first_name, takes_cast, IsPlain, IsNoType, ReadsExpr, ReadsOperands, ReadsExprs, ReadsPerhaps, ReadsSuffixes, ReadsSuffix, ReadsBase, ReadsField, ReadsFields, ReadsDeclarators, ReadsConstants, ReadsDeclarator, ReadsBrackets, ReadsParams, ReadsTypeName, name_in}
use Rattle.porch_walk.specs.declared.symbol.Mode.{Mode}
use Rattle.porch_walk.specs.declared.symbol.Mode.TheVariants as mode
use Rattle.porch_walk.specs.declared.symbol.Naming.{Naming}
use Rattle.porch_walk.specs.declared.symbol.Naming.TheVariants as naming
use Rattle.porch_walk.specs.declared.symbol.Kinds.{Kinds}
use Rattle.porch_walk.specs.declared.symbol.Symbol.{Symbol}
use Rattle.porch_walk.specs.declared.symbol.Symbol.TheVariants.{Must, Operand, Open, Texts, Suffixes as Suffixes_to_come, Behind, Commas, Optional, Base as Base_to_come, Kind, Consts, Tag, TagBody, Fields as Fields_to_come, MoreDeclarators, ConstantValue, Constants as Constants_to_come, Declarator as Declarator_to_come, Pointer, Nameless, Brackets as Brackets_to_come, Counts, Count, Parameters, Void, MoreParameters}
use Rattle.porch_walk.specs.Walk.{Stage, run_from, is, heard, name_bytes, names_type, or_else, no_kinds, kinds_behind, kinds_of, rest_of, takes_type, behind_type, contents, may_lack, kind as kind_stage, base_key, base_of, base, operand, nested as nested_stage, open_type, open_on, behind}
use Rattle.porch_walk.proofs.Words.{same, known_type}
use Rattle.porch_walk.proofs.KindWords.{fits, fits_from, kind_fits}
use Rattle.porch_walk.proofs.Meaning.{Whole, IsNamed, fresh_of}
use Rattle.porch_walk.proofs.Expressions.{never}
use Rattle.porch_walk.proofs.Passes.{over, Heads, closes, ends, parts, follows, leaves, behind_base, behind_base_mark, starts, starts_mark, closes_mark, begins, begins_mark, begins_key, begins_base, base_word, not_text, closes_are_ends, ends_are_parts, parts_are_follows, infix_parts, assigning_follows, takes, skips, passes, decided, differs, at, pass_suffixes, pass_behind, as_row, pass_commas, pass_texts, expr_first, no_base, bytes_at}

decided_not : (b : Bool) → (b ≡ false → ⊥) → b ≡ true
decided_not true h = refl
decided_not false h = absurd (h refl)

text_word : (w : Word) → not_text w ≡ false → w ≡ word.Text
text_word word.Text h = refl
text_word word.Name h = absurd (never h)
text_word w h = absurd (never h)

key_name : (k : Keyword) → ◌≡◌ {A = Word} (word.Key k) word.Name → ⊥
key_name k h = cc

abbrev pub no_const_key : Keyword → Bool
no_const_key key.Const = false
no_const_key k = true

abbrev pub no_const : Word → Bool
no_const (word.Key k) = no_const_key k
no_const w = true

leaves_word : (w : Word) → leaves w ≡ true → no_const w ≡ true
leaves_word (word.Key k) h = absurd (never (sym h))
leaves_word (word.Mark m) h = refl
leaves_word w h = refl

pub follows_no_text : (ps : List Piece) → Heads follows ps → Heads not_text ps
follows_no_text [] h = absurd h
follows_no_text (p ∷ ps) h = decided_not (not_text p.word) (λ e. never (sym h ∙ ap follows (text_word p.word e)))

abbrev pub brackets_in : Declarator → Brackets
brackets_in (declarator k stars core bs) = bs

starts_close_mark : (m : Mark) → starts_mark m ≡ true → word.Mark m ≡ word.Mark mark.CloseParenthesis → ⊥
starts_close_mark mark.Star h e = cc
starts_close_mark mark.OpenParenthesis h e = cc
starts_close_mark mark.OpenBracket h e = cc
starts_close_mark m h e = never (sym h)

pub starts_close : (w : Word) → starts w ≡ true → w ≡ word.Mark mark.CloseParenthesis → ⊥
starts_close word.Name h e = cc
starts_close (word.Mark m) h e = starts_close_mark m h e
starts_close w h e = never (sym h)

module _ (types : List (List ℕ)) (i : Bool) where
  abbrev pub on : List ℕ → List Symbol → List Piece → Option Stage
  on f ss ps = over (at types i f ss) ps

  abbrev pub mode_of : Bool → Mode
  mode_of true = mode.Assign
  mode_of false = mode.Cond

  pub record Runs (e : Expr) : Type 0 where
    pub primary : IsPrimary e → (m : Mode) → ReadsExpr types e (takes_type m) → (f : List ℕ) (ss : List Symbol) (d : ℕ) (ps : List Piece) → Heads not_text ps
        → on f (Operand m ∷ ss) (expr_pieces i e d ps) ≡ on f (Suffixes_to_come ∷ rest_of m ss) ps
    pub unary : IsUnary e → (m : Mode) → ReadsExpr types e (takes_type m) → (f : List ℕ) (ss : List Symbol) (d : ℕ) (ps : List Piece) → Heads follows ps
        → on f (Operand m ∷ ss) (expr_pieces i e d ps) ≡ on f (rest_of m ss) ps
    pub casts : IsCast e → ReadsExpr types e true → (f : List ℕ) (ss : List Symbol) (d : ℕ) (ps : List Piece) → Heads follows ps
        → on f (Operand mode.Cast ∷ ss) (expr_pieces i e d ps) ≡ on f ss ps
    pub right : IsCondition e → ReadsExpr types e true → (f : List ℕ) (ss : List Symbol) (d : ℕ) (ps : List Piece) → Heads parts ps
        → on f (Operand mode.Cast ∷ Behind false ∷ ss) (expr_pieces i e d ps) ≡ on f (Behind false ∷ ss) ps
    pub free : (u : Bool) → Whole u e → ReadsExpr types e true → (f : List ℕ) (ss : List Symbol) (d : ℕ) (ps : List Piece) → Heads parts ps
        → on f (Operand (mode_of u) ∷ ss) (expr_pieces i e d ps) ≡ on f (Behind false ∷ ss) ps
    pub any : ReadsExpr types e true → (f : List ℕ) (ss : List Symbol) (d : ℕ) (ps : List Piece) → Heads closes ps
        → on f (Operand mode.Assign ∷ Commas ∷ ss) (expr_pieces i e d ps) ≡ on f ss ps

  -- an assignment that a comma or an end follows
  pub assigned : (e : Expr) → Runs e → IsAssign e → ReadsExpr types e true → (f : List ℕ) (ss : List Symbol) (d : ℕ) (ps : List Piece) → Heads ends ps
      → on f (Operand mode.Assign ∷ ss) (expr_pieces i e d ps) ≡ on f ss ps
  assigned e k w r f ss d ps h = k.free true w r f ss d ps (ends_are_parts ps h) ∙ pass_behind types i f ss ps h

  pub conditioned : (e : Expr) → Runs e → IsCond e → ReadsExpr types e true → (f : List ℕ) (ss : List Symbol) (d : ℕ) (ps : List Piece) → Heads ends ps
      → on f (Operand mode.Cond ∷ ss) (expr_pieces i e d ps) ≡ on f ss ps
  conditioned e k w r f ss d ps h = k.free false w r f ss d ps (ends_are_parts ps h) ∙ pass_behind types i f ss ps h

  any_of : (e : Expr) → IsAssign e → ((u : Bool) → Whole u e → ReadsExpr types e true → (f : List ℕ) (ss : List Symbol) (d : ℕ) (ps : List Piece) → Heads parts ps → on f (Operand (mode_of u) ∷ ss) (expr_pieces i e d ps) ≡ on f (Behind false ∷ ss) ps)
      → ReadsExpr types e true → (f : List ℕ) (ss : List Symbol) (d : ℕ) (ps : List Piece) → Heads closes ps → on f (Operand mode.Assign ∷ Commas ∷ ss) (expr_pieces i e d ps) ≡ on f ss ps
  any_of e w k r f ss d ps h =
      let q = closes_are_ends ps h in
      k true w r f (Commas ∷ ss) d ps (ends_are_parts ps q) ∙ pass_behind types i f (Commas ∷ ss) ps q ∙ pass_commas types i f ss ps h

  free_unary : (e : Expr) → ((m : Mode) → ReadsExpr types e (takes_type m) → (f : List ℕ) (ss : List Symbol) (d : ℕ) (ps : List Piece) → Heads follows ps → on f (Operand m ∷ ss) (expr_pieces i e d ps) ≡ on f (rest_of m ss) ps)
      → (u : Bool) → Whole u e → ReadsExpr types e true → (f : List ℕ) (ss : List Symbol) (d : ℕ) (ps : List Piece) → Heads parts ps → on f (Operand (mode_of u) ∷ ss) (expr_pieces i e d ps) ≡ on f (Behind false ∷ ss) ps
  free_unary e k true w r f ss d ps h = k mode.Assign r f ss d ps (parts_are_follows ps h) ∙ as_row types i f true ss ps h
  free_unary e k false w r f ss d ps h = k mode.Cond r f ss d ps (parts_are_follows ps h)

  -- what is no cast, row, conditional, assignment or sequence
  of_unary : (e : Expr) → IsUnary e → IsCast e → IsAssign e → (IsPrimary e → (m : Mode) → ReadsExpr types e (takes_type m) → (f : List ℕ) (ss : List Symbol) (d : ℕ) (ps : List Piece) → Heads not_text ps
      → on f (Operand m ∷ ss) (expr_pieces i e d ps) ≡ on f (Suffixes_to_come ∷ rest_of m ss) ps)
      → ((m : Mode) → ReadsExpr types e (takes_type m) → (f : List ℕ) (ss : List Symbol) (d : ℕ) (ps : List Piece) → Heads follows ps → on f (Operand m ∷ ss) (expr_pieces i e d ps) ≡ on f (rest_of m ss) ps) → Runs e
  of_unary e a c w p k = record {
    primary = p;
    unary = λ h. k;
    casts = λ h r f ss d ps. k mode.Cast r f ss d ps;
    right = λ h r f ss d ps q. k mode.Cast r f (Behind false ∷ ss) d ps (parts_are_follows ps q);
    free = free_unary e k;
    any = any_of e w (free_unary e k);
  }

  of_primary : (e : Expr) → IsUnary e → IsCast e → IsAssign e → ((m : Mode) → ReadsExpr types e (takes_type m) → (f : List ℕ) (ss : List Symbol) (d : ℕ) (ps : List Piece) → Heads not_text ps
      → on f (Operand m ∷ ss) (expr_pieces i e d ps) ≡ on f (Suffixes_to_come ∷ rest_of m ss) ps) → Runs e
  of_primary e a c w p = of_unary e a c w (λ h. p)
      (λ m r f ss d ps h. p m r f ss d ps (follows_no_text ps h) ∙ pass_suffixes types i f (rest_of m ss) ps h)

  texts_run : (ns : List Name) (f : List ℕ) (ss : List Symbol) (d : ℕ) (ps : List Piece) → Heads not_text ps → on f (Texts ∷ ss) (text_pieces i ns d ps) ≡ on f ss ps
  texts_run [] f ss d ps h = pass_texts types i f ss ps h
  texts_run (n ∷ ns) f ss d ps h = texts_run ns f ss d ps h

  -- what stands in parentheses

  pub open_nested : (b : Bool) (m : Mode) (f : List ℕ) (ss : List Symbol) (p : Piece) (go : Stage → Option Stage) → (b ≡ true → open_type types f i m ss (heard p.word p.bytes) ≡ None)
      → run_from (open_on types f i b m ss (heard p.word p.bytes)) go ≡ run_from (nested_stage types f i m ss p.word) go
  open_nested true m f ss p go h = passes _ _ go (h refl)
  open_nested false m f ss p go h = refl

  pub plain_when : (b : Bool) (e : Expr) → IsNoType types b e → b ≡ true → IsPlain types (first_name e)
  plain_when true e h k = h
  plain_when false e h k = absurd (never (sym k))

  parenthesis : (m : Mode) (e : Expr) → IsNoType types (takes_type m) e → (f : List ℕ) (ss : List Symbol) (d : ℕ) (ps : List Piece)
      → on f (Open m ∷ ss) (expr_pieces i e d ps) ≡ on f (Operand mode.Assign ∷ Commas ∷ Must (word.Mark mark.CloseParenthesis) ∷ Suffixes_to_come ∷ rest_of m ss) (expr_pieces i e d ps)
  parenthesis m e n f ss d ps =
      expr_first types i (λ q. on f (Open m ∷ ss) q ≡ on f (Operand mode.Assign ∷ Commas ∷ Must (word.Mark mark.CloseParenthesis) ∷ Suffixes_to_come ∷ rest_of m ss) q) e
      (λ p qs k. open_nested (takes_type m) m f ss p (λ s. over s qs) (λ t. no_base types i f _ (first_name e) p k (plain_when (takes_type m) e n t))) d ps

  pub some_first : (x y : Option Stage) (go : Stage → Option Stage) → (x ≡ None → ⊥) → run_from (or_else x y) go ≡ run_from x go
  some_first None y go h = absurd (h refl)
  some_first (Some s) y go h = refl

  some_there : (s : Stage) → Some s ≡ None → ⊥
  some_there s h = cc

  -- the first piece of a base
  pub record StartOf (p : Piece) : Type 0 where
    pub begins : begins_base p.word ≡ true
    pub known : p.word ≡ word.Name → names_type types p.bytes ≡ true

  pub kind_start : (k : Keyword) (go : Kinds → Bool) → fits_from (kinds_behind no_kinds k) go ≡ true → base_word k ≡ true
  kind_start key.Const go h = refl
  kind_start key.Char go h = refl
  kind_start key.Short go h = refl
  kind_start key.Int go h = refl
  kind_start key.Long go h = refl
  kind_start key.Signed go h = refl
  kind_start key.Unsigned go h = refl
  kind_start k go h = absurd (never (sym h))

  key_start : (k : Keyword) → begins_base (word.Key k) ≡ true → (p : Piece) → p.word ≡ word.Key k → StartOf p
  key_start k h p e = record { begins = ap begins_base e ∙ h; known = λ n. absurd (key_name k (sym e ∙ n)) }

  consts_first : (P : List Piece → Type 0) → ((p : Piece) (ps : List Piece) → StartOf p → P (p ∷ ps)) → (n : ℕ) (a : Option ℕ) (d : ℕ) (ps : List Piece) → P ps → P (const_pieces i n a d ps)
  consts_first P f zero a d ps h = h
  consts_first P f (suc n) a d ps h = f _ _ (key_start key.Const refl _ refl)

  pub base_first : (P : List Piece → Type 0) → ((p : Piece) (ps : List Piece) → StartOf p → P (p ∷ ps)) → (b : Base) → IsBase b → ReadsBase types b → (d : ℕ) (ps : List Piece) → P (base_pieces i b d ps)
  base_first P f (kind k []) g r d ps = absurd (never (sym (kind_fits [] g)))
  base_first P f (kind k (w ∷ ws)) g r d ps = f _ _ (key_start w (kind_start w (λ s. fits s ws) (kind_fits (w ∷ ws) g)) _ refl)
  base_first P f (void k c) g r d ps = consts_first P f c.before (Some k) d _ (f _ _ (key_start key.Void refl _ refl))
  base_first P f (typedef_name k n c) g r d ps = consts_first P f c.before (Some k) d _ (f _ _ (record { begins = refl; known = λ e. known_type types n.bytes r }))
  base_first P f (tag k tag_sort.Struct n c) g r d ps = consts_first P f c.before (Some k) d _ (f _ _ (key_start key.Struct refl _ refl))
  base_first P f (tag k tag_sort.Enum n c) g r d ps = consts_first P f c.before (Some k) d _ (f _ _ (key_start key.Enum refl _ refl))
  base_first P f (structure k n fs c) g r d ps = consts_first P f c.before (Some k) d _ (f _ _ (key_start key.Struct refl _ refl))
  base_first P f (enumeration k n cs c) g r d ps = consts_first P f c.before (Some k) d _ (f _ _ (key_start key.Enum refl _ refl))

  base_key_there : (f : List ℕ) (ss : List Symbol) (k : Keyword) → base_word k ≡ true → base_key types f i ss k ≡ None → ⊥
  base_key_there f ss key.Const h e = cc
  base_key_there f ss key.Void h e = cc
  base_key_there f ss key.Struct h e = cc
  base_key_there f ss key.Enum h e = cc
  base_key_there f ss key.Char h e = cc
  base_key_there f ss key.Short h e = cc
  base_key_there f ss key.Int h e = cc
  base_key_there f ss key.Long h e = cc
  base_key_there f ss key.Signed h e = cc
  base_key_there f ss key.Unsigned h e = cc
  base_key_there f ss k h e = never (sym h)

  if_true : (b : Bool) (x : Stage) → b ≡ true → (if b then Some x else None) ≡ None → ⊥
  if_true true x h e = cc
  if_true false x h e = never (sym h)

  base_of_there : (f : List ℕ) (ss : List Symbol) (w : Word) (b : Bool) → begins_base w ≡ true → (w ≡ word.Name → b ≡ true) → base_of types f i ss w b ≡ None → ⊥
  base_of_there f ss (word.Key k) b h g e = base_key_there f ss k h e
  base_of_there f ss word.Name b h g e = if_true b _ (g refl) e
  base_of_there f ss w b h g e = never (sym h)

  pub base_there : (f : List ℕ) (ss : List Symbol) (p : Piece) → StartOf p → base types f i ss (heard p.word p.bytes) ≡ None → ⊥
  base_there f ss p k e =
      base_of_there f ss p.word (names_type types (name_bytes p.word p.bytes)) k.begins
      (λ n. ap (names_type types) (bytes_at types i p.word p.bytes n) ∙ k.known n) e

  pub open_some : (b : Bool) (m : Mode) (f : List ℕ) (ss : List Symbol) (p : Piece) (go : Stage → Option Stage) → b ≡ true → (open_type types f i m ss (heard p.word p.bytes) ≡ None → ⊥)
      → run_from (open_on types f i b m ss (heard p.word p.bytes)) go ≡ run_from (open_type types f i m ss (heard p.word p.bytes)) go
  open_some true m f ss p go k h = some_first _ _ go h
  open_some false m f ss p go k h = absurd (never (sym k))

  type_first : (m : Mode) (t : TypeName) → takes_type m ≡ true → IsTypeName t → ReadsTypeName types t → (f : List ℕ) (ss : List Symbol) (d : ℕ) (ps : List Piece)
      → on f (Open m ∷ ss) (type_name_pieces i t d ps) ≡ on f (Base_to_come ∷ Declarator_to_come naming.Abstract ∷ Must (word.Mark mark.CloseParenthesis) ∷ behind_type m ss) (type_name_pieces i t d ps)
  type_first m (type_name b x) k g r f ss d ps =
      base_first (λ q. on f (Open m ∷ ss) q ≡ on f (Base_to_come ∷ Declarator_to_come naming.Abstract ∷ Must (word.Mark mark.CloseParenthesis) ∷ behind_type m ss) q)
      (λ p qs z. open_some (takes_type m) m f ss p (λ s. over s qs) k (base_there f _ p z)) b g.0 r.0 d _

  -- bases

  pub not_const : (f : List ℕ) (ss : List Symbol) (p : Piece) (ps : List Piece) → behind_base p.word ≡ true → on f (Consts ∷ ss) (p ∷ ps) ≡ on f ss (p ∷ ps)
  not_const f ss p ps h = skips _ _ (λ n. over n ps) (differs behind_base p.word (word.Key key.Const) h refl)

  consts_run : (n : ℕ) (f : List ℕ) (ss : List Symbol) (d : ℕ) (ps : List Piece) → Heads behind_base ps → on f (Consts ∷ ss) (const_pieces i n None d ps) ≡ on f ss ps
  consts_run zero f ss d [] h = absurd h
  consts_run zero f ss d (p ∷ ps) h = not_const f ss p ps h
  consts_run (suc n) f ss d ps h = consts_run n f ss d ps h

  before_run : (n : ℕ) (a : Option ℕ) (f : List ℕ) (ss : List Symbol) (d : ℕ) (ps : List Piece) → on f (Base_to_come ∷ ss) (const_pieces i n a d ps) ≡ on f (Base_to_come ∷ ss) ps
  before_run zero a f ss d ps = refl
  before_run (suc n) a f ss d ps = before_run n None f ss d ps

  pub no_kind_of : (s : Kinds) (w : Word) → behind_base w ≡ true → kinds_of s w ≡ None
  no_kind_of s (word.Key k) h = absurd (never (sym h))
  no_kind_of s (word.Mark m) h = refl
  no_kind_of s w h = refl

  kinds_next : (k : Keyword) (ks : List Keyword) (o : Option Kinds) (s : Kinds) (f : List ℕ) (ss : List Symbol) (d : ℕ) (ps : List Piece) → kinds_behind s k ≡ o → fits_from o (λ n. fits n ks) ≡ true
      → ((n : Kinds) → fits n ks ≡ true → on f (Kind n ∷ ss) (kind_pieces i ks None d ps) ≡ on f ss ps) → on f (Kind s ∷ ss) (kind_pieces i (k ∷ ks) None d ps) ≡ on f ss ps
  kinds_next k ks None s f ss d ps e g h = absurd (never (sym g))
  kinds_next k ks (Some n) s f ss d ps e g h =
      ap (λ o. run_from (or_else (kind_stage types f i ss o) (behind types f i ss (heard (word.Key k) []))) (λ m. over m (kind_pieces i ks None d ps))) e ∙ h n g

  kinds_run : (ks : List Keyword) (s : Kinds) (f : List ℕ) (ss : List Symbol) (d : ℕ) (ps : List Piece) → fits s ks ≡ true → Heads behind_base ps → on f (Kind s ∷ ss) (kind_pieces i ks None d ps) ≡ on f ss ps
  kinds_run [] s f ss d [] g h = absurd h
  kinds_run [] s f ss d (p ∷ ps) g h = passes (kind_stage types f i ss (kinds_of s p.word)) _ (λ n. over n ps) (ap (kind_stage types f i ss) (no_kind_of s p.word h))
  kinds_run (k ∷ ks) s f ss d ps g h = kinds_next k ks (kinds_behind s k) s f ss d ps refl g (λ n e. kinds_run ks n f ss d ps e h)

  kind_run : (ks : List Keyword) (a : Option ℕ) (f : List ℕ) (ss : List Symbol) (d : ℕ) (ps : List Piece) → fits no_kinds ks ≡ true → Heads behind_base ps → on f (Base_to_come ∷ ss) (kind_pieces i ks a d ps) ≡ on f ss ps
  kind_run [] a f ss d ps g h = absurd (never (sym g))
  kind_run (key.Const ∷ ks) a f ss d ps g h = kind_run ks None f ss d ps g h
  kind_run (key.Char ∷ ks) a f ss d ps g h = kinds_run ks _ f ss d ps g h
  kind_run (key.Short ∷ ks) a f ss d ps g h = kinds_run ks _ f ss d ps g h
  kind_run (key.Int ∷ ks) a f ss d ps g h = kinds_run ks _ f ss d ps g h
  kind_run (key.Long ∷ ks) a f ss d ps g h = kinds_run ks _ f ss d ps g h
  kind_run (key.Signed ∷ ks) a f ss d ps g h = kinds_run ks _ f ss d ps g h
  kind_run (key.Unsigned ∷ ks) a f ss d ps g h = kinds_run ks _ f ss d ps g h
  kind_run (k ∷ ks) a f ss d ps g h = absurd (never (sym g))

  pub tag_consts : (s : TagSort) (n : ℕ) (f : List ℕ) (ss : List Symbol) (d : ℕ) (ps : List Piece) → Heads behind_base ps → on f (TagBody s ∷ ss) (const_pieces i n None d ps) ≡ on f ss ps
  tag_consts s zero f ss d [] h = absurd h
  tag_consts s zero f ss d (p ∷ ps) h =
      skips _ _ (λ n. over n ps) (differs behind_base p.word (word.Mark mark.OpenBrace) h refl) ∙ skips _ _ (λ n. over n ps) (differs behind_base p.word (word.Key key.Const) h refl)
  tag_consts s (suc n) f ss d ps h = consts_run n f ss d ps h

  name_known : (n : Name) (f : List ℕ) (ss : List Symbol) (ps : List Piece) (d : ℕ) → Contains types n.bytes → on f (Base_to_come ∷ ss) (spelt i word.Name n d ∷ ps) ≡ on f (Consts ∷ ss) ps
  name_known n f ss ps d r = takes _ _ (λ s. over s ps) (known_type types n.bytes r)

  -- what a declarator leaves out and what is behind it

  pub pass_brackets : (f : List ℕ) (ss : List Symbol) (ps : List Piece) → Heads leaves ps → on f (Brackets_to_come ∷ ss) ps ≡ on f ss ps
  pass_brackets f ss [] h = absurd h
  pass_brackets f ss (p ∷ ps) h =
      skips _ _ (λ n. over n ps) (differs leaves p.word (word.Mark mark.OpenBracket) h refl) ∙ skips _ _ (λ n. over n ps) (differs leaves p.word (word.Mark mark.OpenParenthesis) h refl)

  pub pass_counts : (f : List ℕ) (ss : List Symbol) (ps : List Piece) → Heads leaves ps → on f (Counts ∷ ss) ps ≡ on f ss ps
  pass_counts f ss [] h = absurd h
  pass_counts f ss (p ∷ ps) h = skips _ _ (λ n. over n ps) (differs leaves p.word (word.Mark mark.OpenBracket) h refl)

  pub pass_declarator : (n : Naming) (f : List ℕ) (ss : List Symbol) (ps : List Piece) → may_lack n ≡ true → Heads leaves ps → on f (Declarator_to_come n ∷ ss) ps ≡ on f ss ps
  pass_declarator n f ss [] k h = absurd h
  pass_declarator naming.Must f ss (p ∷ ps) k h = absurd (never (sym k))
  pass_declarator naming.Typedef f ss (p ∷ ps) k h = absurd (never (sym k))
  pass_declarator naming.May f ss (p ∷ ps) k h =
      skips _ _ (λ n. over n ps) (differs leaves p.word (word.Mark mark.Star) h refl) ∙ skips _ _ (λ n. over n ps) (differs leaves p.word word.Name h refl)
      ∙ skips _ _ (λ n. over n ps) (differs leaves p.word (word.Mark mark.OpenParenthesis) h refl) ∙ skips _ _ (λ n. over n ps) (differs leaves p.word (word.Mark mark.OpenBracket) h refl)
  pass_declarator naming.Abstract f ss (p ∷ ps) k h =
      skips _ _ (λ n. over n ps) (differs leaves p.word (word.Mark mark.Star) h refl) ∙ skips _ _ (λ n. over n ps) (differs leaves p.word (word.Mark mark.OpenBracket) h refl)

  -- a piece that isn't `const` behind a star
  pub after_star : (n : Naming) (f : List ℕ) (ss : List Symbol) (ps : List Piece) → Heads no_const ps → on f (Pointer n ∷ ss) ps ≡ on f (Declarator_to_come n ∷ ss) ps
  after_star n f ss [] h = absurd h
  after_star n f ss (p ∷ ps) h = skips _ _ (λ s. over s ps) (differs no_const p.word (word.Key key.Const) h refl)

  star_consts : (c : ℕ) (n : Naming) (f : List ℕ) (ss : List Symbol) (d : ℕ) (ps : List Piece) → on f (Pointer n ∷ ss) (const_pieces i c None d ps) ≡ on f (Pointer n ∷ ss) ps
  star_consts zero n f ss d ps = refl
  star_consts (suc c) n f ss d ps = star_consts c n f ss d ps

  pointers_run : (stars : List ℕ) (n : Naming) (f : List ℕ) (ss : List Symbol) (d : ℕ) (ps : List Piece) → Heads no_const ps → on f (Pointer n ∷ ss) (star_pieces i stars None d ps) ≡ on f (Declarator_to_come n ∷ ss) ps
  pointers_run [] n f ss d ps h = after_star n f ss ps h
  pointers_run (c ∷ cs) n f ss d ps h = star_consts c n f ss d _ ∙ pointers_run cs n f ss d ps h

  stars_run : (stars : List ℕ) (a : Option ℕ) (n : Naming) (f : List ℕ) (ss : List Symbol) (d : ℕ) (ps : List Piece) → Heads no_const ps → on f (Declarator_to_come n ∷ ss) (star_pieces i stars a d ps) ≡ on f (Declarator_to_come n ∷ ss) ps
  stars_run [] a n f ss d ps h = refl
  stars_run (c ∷ cs) a n f ss d ps h = star_consts c n f ss d _ ∙ pointers_run cs n f ss d ps h

  pub leaves_no_const : (ps : List Piece) → Heads leaves ps → Heads no_const ps
  leaves_no_const [] h = absurd h
  leaves_no_const (p ∷ ps) h = leaves_word p.word h

  pub brackets_no_const : (bs : Brackets) (a : Option ℕ) (d : ℕ) (ps : List Piece) → Heads leaves ps → Heads no_const (brackets_pieces i bs a d ps)
  brackets_no_const no_brackets a d ps h = leaves_no_const ps h
  brackets_no_const (with_bracket (count e) bs) a d ps h = refl
  brackets_no_const (with_bracket empty_list bs) a d ps h = refl
  brackets_no_const (with_bracket void_list bs) a d ps h = refl
  brackets_no_const (with_bracket (param_list xs) bs) a d ps h = refl

  pub core_no_const : (c : Core) (bs : Brackets) (a : Option ℕ) (d : ℕ) (ps : List Piece) → Heads leaves ps → Heads no_const (core_pieces i c d (brackets_pieces i bs a d ps))
  core_no_const lacking_core bs a d ps h = brackets_no_const bs a d ps h
  core_no_const (named_core n) bs a d ps h = refl
  core_no_const (inner k x) bs a d ps h = refl

  -- the first piece of a declarator, or what is behind it
  pub declarator_first : (P : List Piece → Type 0) (x : Declarator) → ((p : Piece) (ps : List Piece) → starts p.word ≡ true → P (p ∷ ps)) → (d : ℕ) (ps : List Piece) → (HasTokens x ⊎ P ps) → P (declarator_pieces i x d ps)
  declarator_first P (declarator k (c ∷ cs) core bs) f d ps h = f _ _ refl
  declarator_first P (declarator k [] (named_core n) bs) f d ps h = f _ _ refl
  declarator_first P (declarator k [] (inner j x) bs) f d ps h = f _ _ refl
  declarator_first P (declarator k [] lacking_core (with_bracket (count e) bs)) f d ps h = f _ _ refl
  declarator_first P (declarator k [] lacking_core (with_bracket empty_list bs)) f d ps h = f _ _ refl
  declarator_first P (declarator k [] lacking_core (with_bracket void_list bs)) f d ps h = f _ _ refl
  declarator_first P (declarator k [] lacking_core (with_bracket (param_list xs) bs)) f d ps h = f _ _ refl
  declarator_first P (declarator k [] lacking_core no_brackets) f d ps (inl h) = absurd h
  declarator_first P (declarator k [] lacking_core no_brackets) f d ps (inr h) = h

  -- a word that begins an expression where it may be left out
  unary_there_mark : (f : List ℕ) (ss : List Symbol) (m : Mark) → begins_mark m ≡ true → operand types f i mode.Assign ss (word.Mark m) ≡ None → ⊥
  unary_there_mark f ss mark.OpenParenthesis h e = cc
  unary_there_mark f ss mark.PlusPlus h e = cc
  unary_there_mark f ss mark.MinusMinus h e = cc
  unary_there_mark f ss mark.And h e = cc
  unary_there_mark f ss mark.Star h e = cc
  unary_there_mark f ss mark.Plus h e = cc
  unary_there_mark f ss mark.Minus h e = cc
  unary_there_mark f ss mark.Tilde h e = cc
  unary_there_mark f ss mark.Not h e = cc
  unary_there_mark f ss m h e = never (sym h)

  unary_there_key : (f : List ℕ) (ss : List Symbol) (k : Keyword) → begins_key k ≡ true → operand types f i mode.Assign ss (word.Key k) ≡ None → ⊥
  unary_there_key f ss key.Sizeof h e = cc
  unary_there_key f ss k h e = never (sym h)

  pub operand_there : (f : List ℕ) (ss : List Symbol) (w : Word) → begins w ≡ true → operand types f i mode.Assign ss w ≡ None → ⊥
  operand_there f ss word.Name h e = cc
  operand_there f ss word.Whole h e = cc
  operand_there f ss word.Character h e = cc
  operand_there f ss word.Text h e = cc
  operand_there f ss (word.Key k) h e = unary_there_key f ss k h e
  operand_there f ss (word.Mark m) h e = unary_there_mark f ss m h e

  no_operand_mark : (f : List ℕ) (ss : List Symbol) (m : Mark) → closes_mark m ≡ true → operand types f i mode.Assign ss (word.Mark m) ≡ None
  no_operand_mark f ss mark.CloseParenthesis h = refl
  no_operand_mark f ss mark.CloseBracket h = refl
  no_operand_mark f ss mark.CloseBrace h = refl
  no_operand_mark f ss mark.Semicolon h = refl
  no_operand_mark f ss mark.Colon h = refl
  no_operand_mark f ss m h = absurd (never (sym h))

  pub no_operand : (f : List ℕ) (ss : List Symbol) (w : Word) → closes w ≡ true → operand types f i mode.Assign ss w ≡ None
  no_operand f ss (word.Mark m) h = no_operand_mark f ss m h
  no_operand f ss w h = absurd (never (sym h))

  pub pass_optional : (f : List ℕ) (ss : List Symbol) (ps : List Piece) → Heads closes ps → on f (Optional ∷ ss) ps ≡ on f ss ps
  pass_optional f ss [] h = absurd h
  pass_optional f ss (p ∷ ps) h = passes _ _ (λ n. over n ps) (no_operand f (Commas ∷ ss) p.word h)

  pub optional_first : (e : Expr) (f : List ℕ) (ss : List Symbol) (d : ℕ) (ps : List Piece) → on f (Optional ∷ ss) (expr_pieces i e d ps) ≡ on f (Operand mode.Assign ∷ Commas ∷ ss) (expr_pieces i e d ps)
  optional_first e f ss d ps =
      expr_first types i (λ q. on f (Optional ∷ ss) q ≡ on f (Operand mode.Assign ∷ Commas ∷ ss) q) e
      (λ p qs k. some_first _ _ (λ n. over n qs) (operand_there f (Commas ∷ ss) p.word k.begins)) d ps

  -- an expression where a closing word may stand
  count_first : (e : Expr) (f : List ℕ) (ss : List Symbol) (d : ℕ) (ps : List Piece)
      → on f (Count ∷ ss) (expr_pieces i e d ps) ≡ on f (Operand mode.Cond ∷ Must (word.Mark mark.CloseBracket) ∷ ss) (expr_pieces i e d ps)
  count_first e f ss d ps =
      expr_first types i (λ q. on f (Count ∷ ss) q ≡ on f (Operand mode.Cond ∷ Must (word.Mark mark.CloseBracket) ∷ ss) q) e
      (λ p qs k. skips _ _ (λ n. over n qs) (differs begins p.word (word.Mark mark.CloseBracket) k.begins refl)) d ps

  pub condition_cond : (e : Expr) → IsCondition e → IsCond e
  condition_cond (assign a x e) h = absurd h
  condition_cond (sequence e es) h = absurd h
  condition_cond (name n) h = tt
  condition_cond e h = tt

  tighter_whole : (u : Bool) (l : Level) (e : Expr) → IsTighter l e → Whole u e
  tighter_whole true l (conditional e a b) h = absurd h
  tighter_whole true l (assign a x e) h = absurd h
  tighter_whole true l (sequence e es) h = absurd h
  tighter_whole true l (name n) h = tt
  tighter_whole true l e h = tt
  tighter_whole false l (conditional e a b) h = absurd h
  tighter_whole false l (assign a x e) h = absurd h
  tighter_whole false l (sequence e es) h = absurd h
  tighter_whole false l (name n) h = tt
  tighter_whole false l e h = tt

  pub tighter_condition : (l : Level) (e : Expr) → IsTighter l e → IsCondition e
  tighter_condition l (conditional e a b) h = absurd h
  tighter_condition l (assign a x e) h = absurd h
  tighter_condition l (sequence e es) h = absurd h
  tighter_condition l (name n) h = tt
  tighter_condition l e h = tt

  condition_whole : (u : Bool) (e : Expr) → IsCondition e → Whole u e
  condition_whole u (conditional e a b) h = absurd h
  condition_whole u (assign a x e) h = absurd h
  condition_whole u (sequence e es) h = absurd h
  condition_whole true (name n) h = tt
  condition_whole true e h = tt
  condition_whole false (name n) h = tt
  condition_whole false e h = tt

  pub suffix_no_text : (xs : Suffixes) (d : ℕ) (ps : List Piece) → Heads not_text ps → Heads not_text (suffixes_pieces i xs d ps)
  suffix_no_text no_suffixes d ps h = h
  suffix_no_text (with_suffix (index e) xs) d ps h = refl
  suffix_no_text (with_suffix (call es) xs) d ps h = refl
  suffix_no_text (with_suffix (member n) xs) d ps h = refl
  suffix_no_text (with_suffix (arrow n) xs) d ps h = refl
  suffix_no_text (with_suffix increased xs) d ps h = refl
  suffix_no_text (with_suffix decreased xs) d ps h = refl

  pub operands_parts : (os : Operands) (d : ℕ) (ps : List Piece) → Heads parts ps → Heads parts (operands_pieces i os d ps)
  operands_parts no_operands d ps h = h
  operands_parts (with_operand o e os) d ps h = infix_parts o

  pub more_ends : (es : Exprs) (d : ℕ) (ps : List Piece) → Heads closes ps → Heads ends (more_pieces i es d ps)
  more_ends no_exprs d ps h = closes_are_ends ps h
  more_ends (with_expr e es) d ps h = refl

  infix_step : (o : Infix) (f : List ℕ) (ss : List Symbol) (d : ℕ) (ps : List Piece) → on f (Behind false ∷ ss) (mark_piece i (infix_mark o) d ∷ ps) ≡ on f (Operand mode.Cast ∷ Behind false ∷ ss) ps
  infix_step infix_variant.Any f ss d ps = refl
  infix_step o f ss d ps = refl

  assign_step : (a : Assigning) (f : List ℕ) (ss : List Symbol) (d : ℕ) (ps : List Piece) → on f (Behind true ∷ ss) (mark_piece i (assigning_mark a) d ∷ ps) ≡ on f (Operand mode.Assign ∷ ss) ps
  assign_step assigning_variant.Plain f ss d ps = refl
  assign_step a f ss d ps = refl

  prefix_run : (p : Prefix) (e : Expr) → Runs e → IsOperandOf p e → ReadsExpr types e (takes_cast p) → (m : Mode) (f : List ℕ) (ss : List Symbol) (k d : ℕ) (ps : List Piece) → Heads follows ps
      → on f (Operand m ∷ ss) (expr_pieces i (prefixed k p e) d ps) ≡ on f (rest_of m ss) ps
  prefix_run prefix_variant.Increase e q g r m f ss k d ps h = q.unary g mode.Unary r f (rest_of m ss) (suc d) ps h
  prefix_run prefix_variant.Decrease e q g r m f ss k d ps h = q.unary g mode.Unary r f (rest_of m ss) (suc d) ps h
  prefix_run prefix_variant.Sizeof e q g r m f ss k d ps h = q.unary g mode.Size r f (rest_of m ss) (suc d) ps h
  prefix_run prefix_variant.Address e q g r m f ss k d ps h = q.casts g r f (rest_of m ss) (suc d) ps h
  prefix_run prefix_variant.Pointee e q g r m f ss k d ps h = q.casts g r f (rest_of m ss) (suc d) ps h
  prefix_run prefix_variant.Plus e q g r m f ss k d ps h = q.casts g r f (rest_of m ss) (suc d) ps h
  prefix_run prefix_variant.Minus e q g r m f ss k d ps h = q.casts g r f (rest_of m ss) (suc d) ps h
  prefix_run prefix_variant.Complement e q g r m f ss k d ps h = q.casts g r f (rest_of m ss) (suc d) ps h
  prefix_run prefix_variant.Not e q g r m f ss k d ps h = q.casts g r f (rest_of m ss) (suc d) ps h

  pub declarators_leave : (xs : Declarators) (d : ℕ) (ps : List Piece) → Heads leaves ps → Heads leaves (more_declarators_pieces i xs d ps)
  declarators_leave no_declarators d ps h = h
  declarators_leave (with_declarator x xs) d ps h = refl

  pub params_leave : (xs : Params) (d : ℕ) (ps : List Piece) → Heads leaves (more_params_pieces i xs d (mark_piece i mark.CloseParenthesis d ∷ ps))
  params_leave no_params d ps = refl
  params_leave (with_param (param b x) xs) d ps = refl

  starts_behind_mark : (m : Mark) → starts_mark m ≡ true → behind_base_mark m ≡ true
  starts_behind_mark mark.Star h = refl
  starts_behind_mark mark.OpenParenthesis h = refl
  starts_behind_mark mark.OpenBracket h = refl
  starts_behind_mark m h = absurd (never (sym h))

  starts_behind : (w : Word) → starts w ≡ true → behind_base w ≡ true
  starts_behind word.Name h = refl
  starts_behind (word.Mark m) h = starts_behind_mark m h
  starts_behind w h = absurd (never (sym h))

  -- a declarator, or a word that may come where it lacks, behind a base
  pub declared_behind : (x : Declarator) (d : ℕ) (ps : List Piece) → (HasTokens x ⊎ Heads behind_base ps) → Heads behind_base (declarator_pieces i x d ps)
  declared_behind x d ps h = declarator_first (Heads behind_base) x (λ p qs k. starts_behind p.word k) d ps h

  pub must_tokens : (x : Declarator) → IsDeclarator true x → HasTokens x
  must_tokens (declarator k [] lacking_core bs) g = absurd g.2
  must_tokens (declarator k [] (named_core n) bs) g = tt
  must_tokens (declarator k [] (inner j x) bs) g = tt
  must_tokens (declarator k (n ∷ ns) core bs) g = tt

  pub constants_end : (cs : Constants) (d : ℕ) (ps : List Piece) → Heads ends (more_constants_pieces i cs d (mark_piece i mark.CloseBrace d ∷ ps))
  constants_end no_constants d ps = refl
  constants_end (with_constant (constant n e) cs) d ps = refl

  pub no_value : (f : List ℕ) (ss : List Symbol) (ps : List Piece) → Heads ends ps → on f (ConstantValue ∷ ss) ps ≡ on f ss ps
  no_value f ss [] h = absurd h
  no_value f ss (p ∷ ps) h = skips _ _ (λ n. over n ps) (differs ends p.word (word.Mark mark.Equal) h refl)

  -- where fields, and where parameters begin
  fields_first : (b : Base) → IsBase b → ReadsBase types b → (f : List ℕ) (ss : List Symbol) (d : ℕ) (ps : List Piece)
      → on f (Fields_to_come ∷ ss) (base_pieces i b d ps) ≡ on f (Base_to_come ∷ Declarator_to_come naming.Must ∷ MoreDeclarators ∷ Fields_to_come ∷ ss) (base_pieces i b d ps)
  fields_first b g r f ss d ps =
      base_first (λ q. on f (Fields_to_come ∷ ss) q ≡ on f (Base_to_come ∷ Declarator_to_come naming.Must ∷ MoreDeclarators ∷ Fields_to_come ∷ ss) q)
      (λ p qs k. skips _ _ (λ n. over n qs) (differs begins_base p.word (word.Mark mark.CloseBrace) k.begins refl)) b g r d ps

  abbrev pub Params_first : Base → Type 0
  Params_first (void k c) = c.before ≡ zero → ⊥
  Params_first b = Unit {0}

  pub no_void : (p : Piece) → begins_base p.word ≡ true → (p.word ≡ word.Key key.Void → ⊥) → (f : List ℕ) (ss : List Symbol) (ps : List Piece)
      → on f (Parameters ∷ ss) (p ∷ ps) ≡ on f (Base_to_come ∷ Declarator_to_come naming.May ∷ MoreParameters ∷ ss) (p ∷ ps)
  no_void p h n f ss ps =
      skips _ _ (λ s. over s ps) (differs begins_base p.word (word.Mark mark.CloseParenthesis) h refl)
      ∙ skips _ _ (λ s. over s ps) (decided (is p.word (word.Key key.Void)) (λ e. n (same p.word (word.Key key.Void) e)))

  parameters_const : (n : ℕ) (a : Option ℕ) (f : List ℕ) (ss : List Symbol) (d : ℕ) (ps : List Piece) → (n ≡ zero → ⊥)
      → on f (Parameters ∷ ss) (const_pieces i n a d ps) ≡ on f (Base_to_come ∷ Declarator_to_come naming.May ∷ MoreParameters ∷ ss) (const_pieces i n a d ps)
  parameters_const zero a f ss d ps h = absurd (h refl)
  parameters_const (suc n) a f ss d ps h = refl

  parameters_word : (n : ℕ) (a : Option ℕ) (p : Piece) (f : List ℕ) (ss : List Symbol) (d : ℕ) (ps : List Piece) → begins_base p.word ≡ true → (p.word ≡ word.Key key.Void → ⊥)
      → on f (Parameters ∷ ss) (const_pieces i n a d (p ∷ ps)) ≡ on f (Base_to_come ∷ Declarator_to_come naming.May ∷ MoreParameters ∷ ss) (const_pieces i n a d (p ∷ ps))
  parameters_word zero a p f ss d ps h k = no_void p h k f ss ps
  parameters_word (suc n) a p f ss d ps h k = refl

  pub kind_no_void : (k : Keyword) (go : Kinds → Bool) → fits_from (kinds_behind no_kinds k) go ≡ true → ◌≡◌ {A = Word} (word.Key k) (word.Key key.Void) → ⊥
  kind_no_void key.Const go h e = cc
  kind_no_void key.Char go h e = cc
  kind_no_void key.Short go h e = cc
  kind_no_void key.Int go h e = cc
  kind_no_void key.Long go h e = cc
  kind_no_void key.Signed go h e = cc
  kind_no_void key.Unsigned go h e = cc
  kind_no_void k go h e = never (sym h)

  parameters_first : (b : Base) → IsBase b → ReadsBase types b → Params_first b → (f : List ℕ) (ss : List Symbol) (d : ℕ) (ps : List Piece)
      → on f (Parameters ∷ ss) (base_pieces i b d ps) ≡ on f (Base_to_come ∷ Declarator_to_come naming.May ∷ MoreParameters ∷ ss) (base_pieces i b d ps)
  parameters_first (kind k []) g r v f ss d ps = absurd (never (sym (kind_fits [] g)))
  parameters_first (kind k (w ∷ ws)) g r v f ss d ps =
      no_void (piece i (Some k) (word.Key w) d) (kind_start w (λ s. fits s ws) (kind_fits (w ∷ ws) g)) (kind_no_void w (λ s. fits s ws) (kind_fits (w ∷ ws) g)) f ss _
  parameters_first (void k c) g r v f ss d ps = parameters_const c.before (Some k) f ss d _ v
  parameters_first (typedef_name k n c) g r v f ss d ps = parameters_word c.before (Some k) _ f ss d _ refl (λ e. cc)
  parameters_first (tag k tag_sort.Struct n c) g r v f ss d ps = parameters_word c.before (Some k) _ f ss d _ refl (λ e. cc)
  parameters_first (tag k tag_sort.Enum n c) g r v f ss d ps = parameters_word c.before (Some k) _ f ss d _ refl (λ e. cc)
  parameters_first (structure k n fs c) g r v f ss d ps = parameters_word c.before (Some k) _ f ss d _ refl (λ e. cc)
  parameters_first (enumeration k n cs c) g r v f ss d ps = parameters_word c.before (Some k) _ f ss d _ refl (λ e. cc)

  kind_nameless : (w : Keyword) → base_word w ≡ true → (f : List ℕ) (ss : List Symbol) (a : Option ℕ) (d : ℕ) (ps : List Piece)
      → on f (Nameless ∷ ss) (piece i a (word.Key w) d ∷ ps) ≡ on f (Parameters ∷ Brackets_to_come ∷ ss) (piece i a (word.Key w) d ∷ ps)
  kind_nameless key.Const h f ss a d ps = refl
  kind_nameless key.Void h f ss a d ps = refl
  kind_nameless key.Struct h f ss a d ps = refl
  kind_nameless key.Enum h f ss a d ps = refl
  kind_nameless key.Char h f ss a d ps = refl
  kind_nameless key.Short h f ss a d ps = refl
  kind_nameless key.Int h f ss a d ps = refl
  kind_nameless key.Long h f ss a d ps = refl
  kind_nameless key.Signed h f ss a d ps = refl
  kind_nameless key.Unsigned h f ss a d ps = refl
  kind_nameless w h f ss a d ps = absurd (never (sym h))

  consts_nameless : (n : ℕ) (a b : Option ℕ) (w : Keyword) (f : List ℕ) (ss : List Symbol) (d : ℕ) (ps : List Piece) → base_word w ≡ true
      → on f (Nameless ∷ ss) (const_pieces i n a d (piece i b (word.Key w) d ∷ ps)) ≡ on f (Parameters ∷ Brackets_to_come ∷ ss) (const_pieces i n a d (piece i b (word.Key w) d ∷ ps))
  consts_nameless zero a b w f ss d ps h = kind_nameless w h f ss b d ps
  consts_nameless (suc n) a b w f ss d ps h = refl

  typedef_nameless : (n : ℕ) (a : Option ℕ) (f : List ℕ) (ss : List Symbol) (d : ℕ) (ps : List Piece) → (n ≡ zero → ⊥)
      → on f (Nameless ∷ ss) (const_pieces i n a d ps) ≡ on f (Parameters ∷ Brackets_to_come ∷ ss) (const_pieces i n a d ps)
  typedef_nameless zero a f ss d ps h = absurd (h refl)
  typedef_nameless (suc n) a f ss d ps h = refl

  nameless_first : (b : Base) (x : Declarator) (xs : Params) → BeginsParams (with_param (param b x) xs) → IsBase b → (f : List ℕ) (ss : List Symbol) (d : ℕ) (ps : List Piece)
      → on f (Nameless ∷ ss) (base_pieces i b d ps) ≡ on f (Parameters ∷ Brackets_to_come ∷ ss) (base_pieces i b d ps)
  nameless_first (kind k []) x xs q g f ss d ps = absurd (never (sym (kind_fits [] g)))
  nameless_first (kind k (w ∷ ws)) x xs q g f ss d ps = kind_nameless w (kind_start w (λ s. fits s ws) (kind_fits (w ∷ ws) g)) f ss (Some k) d _
  nameless_first (void k c) x xs q g f ss d ps = consts_nameless c.before (Some k) _ key.Void f ss d _ refl
  nameless_first (typedef_name k n c) x xs q g f ss d ps = typedef_nameless c.before (Some k) f ss d _ q
  nameless_first (tag k tag_sort.Struct n c) x xs q g f ss d ps = consts_nameless c.before (Some k) _ key.Struct f ss d _ refl
  nameless_first (tag k tag_sort.Enum n c) x xs q g f ss d ps = consts_nameless c.before (Some k) _ key.Enum f ss d _ refl
  nameless_first (structure k n fs c) x xs q g f ss d ps = consts_nameless c.before (Some k) _ key.Struct f ss d _ refl
  nameless_first (enumeration k n cs c) x xs q g f ss d ps = consts_nameless c.before (Some k) _ key.Enum f ss d _ refl

  -- a declarator in a parenthesis where a core may lack
  start_mark : (m : Mark) → starts_mark m ≡ true → (f : List ℕ) (ss : List Symbol) (bs : List ℕ)
      → behind types f i (Nameless ∷ ss) (heard (word.Mark m) bs) ≡ behind types f i (Declarator_to_come naming.May ∷ Must (word.Mark mark.CloseParenthesis) ∷ Brackets_to_come ∷ ss) (heard (word.Mark m) bs)
  start_mark mark.Star h f ss bs = refl
  start_mark mark.OpenParenthesis h f ss bs = refl
  start_mark mark.OpenBracket h f ss bs = refl
  start_mark m h f ss bs = absurd (never (sym h))

  pub start_word : (w : Word) → starts w ≡ true → (f : List ℕ) (ss : List Symbol) (bs : List ℕ)
      → behind types f i (Nameless ∷ ss) (heard w bs) ≡ behind types f i (Declarator_to_come naming.May ∷ Must (word.Mark mark.CloseParenthesis) ∷ Brackets_to_come ∷ ss) (heard w bs)
  start_word word.Name h f ss bs = refl
  start_word (word.Mark m) h f ss bs = start_mark m h f ss bs
  start_word w h f ss bs = absurd (never (sym h))

  inner_first : (x : Declarator) → HasTokens x → (f : List ℕ) (ss : List Symbol) (d : ℕ) (ps : List Piece)
      → on f (Nameless ∷ ss) (declarator_pieces i x d ps) ≡ on f (Declarator_to_come naming.May ∷ Must (word.Mark mark.CloseParenthesis) ∷ Brackets_to_come ∷ ss) (declarator_pieces i x d ps)
  inner_first x t f ss d ps =
      declarator_first (λ q. on f (Nameless ∷ ss) q ≡ on f (Declarator_to_come naming.May ∷ Must (word.Mark mark.CloseParenthesis) ∷ Brackets_to_come ∷ ss) q) x
      (λ p qs h. ap (λ o. run_from o (λ s. over s qs)) (start_word p.word h f ss p.bytes)) d ps (inl t)

  -- behind the word `void` in parentheses
  void_first : (f : List ℕ) (ss : List Symbol) (x : Declarator) (d : ℕ) (ps : List Piece)
      → (HasTokens x ⊎ (on f (Void ∷ ss) ps ≡ on f (Declarator_to_come naming.May ∷ MoreParameters ∷ ss) ps))
      → on f (Void ∷ ss) (declarator_pieces i x d ps) ≡ on f (Declarator_to_come naming.May ∷ MoreParameters ∷ ss) (declarator_pieces i x d ps)
  void_first f ss x d ps h =
      declarator_first (λ q. on f (Void ∷ ss) q ≡ on f (Declarator_to_come naming.May ∷ MoreParameters ∷ ss) q) x
      (λ p qs k. skips _ _ (λ s. over s qs) (decided (is p.word (word.Mark mark.CloseParenthesis)) (λ e. starts_close p.word k (same p.word _ e)))
      ∙ skips _ _ (λ s. over s qs) (differs starts p.word (word.Key key.Const) k refl)) d ps h

  pub void_choice : (k d : ℕ) (x : Declarator) (xs : Params) (f : List ℕ) (ss : List Symbol) (ps : List Piece) → IsNotVoid (with_param (param (void k (record { before = 0; behind = 0 })) x) xs)
      → HasTokens x ⊎ (on f (Void ∷ ss) (more_params_pieces i xs d (mark_piece i mark.CloseParenthesis d ∷ ps)) ≡ on f (Declarator_to_come naming.May ∷ MoreParameters ∷ ss) (more_params_pieces i xs d (mark_piece i mark.CloseParenthesis d ∷ ps)))
  void_choice k d (declarator j [] lacking_core no_brackets) no_params f ss ps h = absurd (h refl)
  void_choice k d (declarator j [] lacking_core no_brackets) (with_param (param b y) ys) f ss ps h = inr refl
  void_choice k d x xs f ss ps h = inl tt

  void_run : (k before behind d : ℕ) (x : Declarator) (xs : Params) (f : List ℕ) (ss : List Symbol) (ps : List Piece) → IsNotVoid (with_param (param (void k (record { before = before; behind = behind })) x) xs)
      → Heads behind_base (declarator_pieces i x (suc d) (more_params_pieces i xs d (mark_piece i mark.CloseParenthesis d ∷ ps)))
      → on f (Declarator_to_come naming.May ∷ MoreParameters ∷ ss) (declarator_pieces i x (suc d) (more_params_pieces i xs d (mark_piece i mark.CloseParenthesis d ∷ ps))) ≡ on f ss ps
      → on f (Parameters ∷ ss) (base_pieces i (void k (record { before = before; behind = behind })) d (declarator_pieces i x (suc d) (more_params_pieces i xs d (mark_piece i mark.CloseParenthesis d ∷ ps)))) ≡ on f ss ps
  void_run k zero zero d x xs f ss ps n h e = void_first f ss x (suc d) _ (void_choice k d x xs f ss ps n) ∙ e
  void_run k zero (suc m) d x xs f ss ps n h e = consts_run m f (Declarator_to_come naming.May ∷ MoreParameters ∷ ss) d _ h ∙ e
  void_run k (suc m) b d x xs f ss ps n h e = before_run m None f (Declarator_to_come naming.May ∷ MoreParameters ∷ ss) d _ ∙ consts_run b f (Declarator_to_come naming.May ∷ MoreParameters ∷ ss) d _ h ∙ e

  pub param_tokens : (x : Declarator) (xs : Params) (d : ℕ) (ps : List Piece) → HasTokens x ⊎ Heads behind_base (more_params_pieces i xs d (mark_piece i mark.CloseParenthesis d ∷ ps))
  param_tokens x no_params d ps = inr refl
  param_tokens x (with_param (param b y) ys) d ps = inr refl

  tag_name_run : (n : Option Name) (s : TagSort) (f : List ℕ) (ss : List Symbol) (d : ℕ) (ps : List Piece)
      → on f (Tag s ∷ ss) (tag_pieces i n d (mark_piece i mark.OpenBrace d ∷ ps)) ≡ on f (contents s ss) ps
  tag_name_run None s f ss d ps = refl
  tag_name_run (Some n) s f ss d ps = refl

  cast_free : (t : TypeName) (e : Expr) → IsTypeName t → ReadsTypeName types t → Runs e → IsCast e → ReadsExpr types e true
      → ((f : List ℕ) (ss : List Symbol) (d : ℕ) (ps : List Piece) → on f (Base_to_come ∷ Declarator_to_come naming.Abstract ∷ Must (word.Mark mark.CloseParenthesis) ∷ ss) (type_name_pieces i t d (mark_piece i mark.CloseParenthesis d ∷ ps)) ≡ on f ss ps)
      → (u : Bool) (k : ℕ) (f : List ℕ) (ss : List Symbol) (d : ℕ) (ps : List Piece) → Heads parts ps → on f (Operand (mode_of u) ∷ ss) (expr_pieces i (cast k t e) d ps) ≡ on f (Behind false ∷ ss) ps
  cast_free t e g r q c s y true k f ss d ps h = type_first mode.Assign t refl g r f ss (suc d) _ ∙ y f (Operand mode.Cast ∷ Behind false ∷ ss) (suc d) _ ∙ q.casts c s f (Behind false ∷ ss) (suc d) ps (parts_are_follows ps h)
  cast_free t e g r q c s y false k f ss d ps h = type_first mode.Cond t refl g r f ss (suc d) _ ∙ y f (Operand mode.Cast ∷ Behind false ∷ ss) (suc d) _ ∙ q.casts c s f (Behind false ∷ ss) (suc d) ps (parts_are_follows ps h)

  abbrev pub Declares : Naming → Declarator → Type 0
  Declares n x = (f : List ℕ) (ss : List Symbol) (d : ℕ) (ps : List Piece) → Heads leaves ps → on f (Declarator_to_come n ∷ ss) (declarator_pieces i x d ps) ≡ on (fresh_of n f x) ss ps

  abbrev pub Bracketed : Brackets → Type 0
  Bracketed bs = (a : Option ℕ) (f : List ℕ) (ss : List Symbol) (d : ℕ) (ps : List Piece) → Heads leaves ps → on f (Brackets_to_come ∷ ss) (brackets_pieces i bs a d ps) ≡ on f ss ps

  -- a declarator by its core
  named_run : (n : Naming) (k : ℕ) (stars : List ℕ) (m : Name) (bs : Brackets) → IsNamed n (declarator k stars (named_core m) bs) → Bracketed bs → Declares n (declarator k stars (named_core m) bs)
  named_run naming.Must k stars m bs g q f ss d ps h = stars_run stars (Some k) naming.Must f ss d _ refl ∙ q _ f ss d ps h
  named_run naming.May k stars m bs g q f ss d ps h = stars_run stars (Some k) naming.May f ss d _ refl ∙ q _ f ss d ps h
  named_run naming.Typedef k stars m bs g q f ss d ps h = stars_run stars (Some k) naming.Typedef f ss d _ refl ∙ q _ m.bytes ss d ps h
  named_run naming.Abstract k stars m bs g q f ss d ps h = absurd g.0

  inner_run : (n : Naming) (k j : ℕ) (stars : List ℕ) (x : Declarator) (bs : Brackets) → IsNamed n (declarator k stars (inner j x) bs) → (IsNamed n x → Declares n x) → Bracketed bs → Declares n (declarator k stars (inner j x) bs)
  inner_run naming.Must k j stars x bs g y q f ss d ps h = stars_run stars (Some k) naming.Must f ss d _ refl ∙ y g.2.1 f (Must (word.Mark mark.CloseParenthesis) ∷ Brackets_to_come ∷ ss) (suc d) _ refl ∙ q _ f ss d ps h
  inner_run naming.Typedef k j stars x bs g y q f ss d ps h = stars_run stars (Some k) naming.Typedef f ss d _ refl ∙ y g.2.1 f (Must (word.Mark mark.CloseParenthesis) ∷ Brackets_to_come ∷ ss) (suc d) _ refl ∙ q _ (name_in x) ss d ps h
  inner_run naming.May k j stars x bs g y q f ss d ps h =
      stars_run stars (Some k) naming.May f ss d _ refl ∙ inner_first x g.2.0 f ss (suc d) _ ∙ y g.2.1 f (Must (word.Mark mark.CloseParenthesis) ∷ Brackets_to_come ∷ ss) (suc d) _ refl ∙ q _ f ss d ps h
  inner_run naming.Abstract k j stars x bs g y q f ss d ps h = absurd g.0

  -- a declarator without a core
  lacking_run : (n : Naming) (k : ℕ) (stars : List ℕ) (bs : Brackets) → IsNamed n (declarator k stars lacking_core bs)
      → ((a : Option ℕ) (f : List ℕ) (ss : List Symbol) (d : ℕ) (ps : List Piece) → Heads leaves ps → on f (Declarator_to_come n ∷ ss) (brackets_pieces i bs a d ps) ≡ on f ss ps) → Declares n (declarator k stars lacking_core bs)
  lacking_run naming.May k stars bs g q f ss d ps h = stars_run stars (Some k) naming.May f ss d _ (brackets_no_const bs _ d ps h) ∙ q _ f ss d ps h
  lacking_run naming.Abstract k stars bs g q f ss d ps h = stars_run stars (Some k) naming.Abstract f ss d _ (brackets_no_const bs _ d ps h) ∙ q _ f ss d ps h
  lacking_run naming.Must k stars bs g q f ss d ps h = absurd g.2
  lacking_run naming.Typedef k stars bs g q f ss d ps h = absurd g.2

  -- what a good declarator says of its brackets
  pub named_brackets : (n : Naming) (x : Declarator) → IsNamed n x → AreBrackets (brackets_in x)
  named_brackets naming.Must (declarator k stars core bs) g = g.3
  named_brackets naming.Typedef (declarator k stars core bs) g = g.3
  named_brackets naming.May (declarator k stars core bs) g = g.3
  named_brackets naming.Abstract (declarator k stars core bs) g = g.1.3

  abbrev pub Bare : Naming → Brackets → Type 0
  Bare naming.Must bs = ⊥
  Bare naming.Typedef bs = ⊥
  Bare naming.May bs = IsListFirst lacking_core bs × AreBrackets bs
  Bare naming.Abstract bs = AreCounts bs × AreBrackets bs

  pub named_bare : (n : Naming) (k : ℕ) (stars : List ℕ) (bs : Brackets) → IsNamed n (declarator k stars lacking_core bs) → Bare n bs
  named_bare naming.Must k stars bs g = g.2
  named_bare naming.Typedef k stars bs g = g.2
  named_bare naming.May k stars bs g = (g.1, g.3)
  named_bare naming.Abstract k stars bs g = (g.0, g.1.3)

  assign_free : (a : Assigning) (x e : Expr) → IsUnary x → Runs x → IsAssign e → Runs e → (u : Bool) → Whole u (assign a x e) → ReadsExpr types (assign a x e) true → (f : List ℕ) (ss : List Symbol) (d : ℕ) (ps : List Piece) → Heads parts ps
      → on f (Operand (mode_of u) ∷ ss) (expr_pieces i (assign a x e) d ps) ≡ on f (Behind false ∷ ss) ps
  assign_free a x e g y w z true h r f ss d ps n = y.unary g mode.Assign r.0 f ss (suc d) _ (assigning_follows a) ∙ assign_step a f ss (suc d) _ ∙ z.free true w r.1 f ss (suc d) ps n
  assign_free a x e g y w z false h r f ss d ps n = absurd h

  no_sequence : (e : Expr) (es : Exprs) (u : Bool) → Whole u (sequence e es) → ReadsExpr types (sequence e es) true → (f : List ℕ) (ss : List Symbol) (d : ℕ) (ps : List Piece) → Heads parts ps
      → on f (Operand (mode_of u) ∷ ss) (expr_pieces i (sequence e es) d ps) ≡ on f (Behind false ∷ ss) ps
  no_sequence e es true h r f ss d ps n = absurd h
  no_sequence e es false h r f ss d ps n = absurd h

  mutual
    pub expr_runs : (e : Expr) → IsExpr e → Runs e
    expr_runs (name n) g = of_primary (name n) tt tt tt (λ m r f ss d ps h. refl)
    expr_runs (whole n) g = of_primary (whole n) tt tt tt (λ m r f ss d ps h. refl)
    expr_runs (character n) g = of_primary (character n) tt tt tt (λ m r f ss d ps h. refl)
    expr_runs (texts n ns) g = of_primary (texts n ns) tt tt tt (λ m r f ss d ps h. texts_run ns f (Suffixes_to_come ∷ rest_of m ss) (suc d) ps h)
    expr_runs (nested k e) g =
        let q = expr_runs e g in
        of_primary (nested k e) tt tt tt (λ m r f ss d ps h. parenthesis m e r.0 f ss (suc (suc d)) _ ∙ q.any r.1 f (Must (word.Mark mark.CloseParenthesis) ∷ Suffixes_to_come ∷ rest_of m ss) (suc (suc d)) _ refl)
    expr_runs (suffixed e xs) g =
        let q = expr_runs e g.1 in
        of_unary (suffixed e xs) tt tt tt (λ h. absurd h)
        (λ m r f ss d ps h. q.primary g.0 m r.0 f ss d _ (suffix_no_text xs (suc d) ps (follows_no_text ps h)) ∙ suffixes_run xs g.3 r.1 f (rest_of m ss) (suc d) ps h)
    expr_runs (prefixed k p e) g =
        let q = expr_runs e g.1 in
        of_unary (prefixed k p e) tt tt tt (λ h. absurd h) (λ m r f ss d ps h. prefix_run p e q g.0 r m f ss k d ps h)
    expr_runs (size_of k t) g =
        of_unary (size_of k t) tt tt tt (λ h. absurd h) (λ m r f ss d ps h. type_first mode.Size t refl g r f (rest_of m ss) (suc d) _ ∙ type_name_run t g r f (rest_of m ss) (suc d) ps)
    expr_runs (cast k t e) g =
        let q = expr_runs e g.2 in
        record {
          primary = λ h. absurd h;
          unary = λ h. absurd h;
          casts = λ h r f ss d ps n. type_first mode.Cast t refl g.0 r.0 f ss (suc d) _ ∙ type_name_run t g.0 r.0 f (Operand mode.Cast ∷ ss) (suc d) _ ∙ q.casts g.1 r.1 f ss (suc d) ps n;
          right = λ h r f ss d ps n. type_first mode.Cast t refl g.0 r.0 f (Behind false ∷ ss) (suc d) _ ∙ type_name_run t g.0 r.0 f (Operand mode.Cast ∷ Behind false ∷ ss) (suc d) _ ∙ q.casts g.1 r.1 f (Behind false ∷ ss) (suc d) ps (parts_are_follows ps n);
          free = λ u w r f ss d ps n. cast_free t e g.0 r.0 q g.1 r.1 (type_name_run t g.0 r.0) u k f ss d ps n;
          any = any_of (cast k t e) tt (λ u w r f ss d ps n. cast_free t e g.0 r.0 q g.1 r.1 (type_name_run t g.0 r.0) u k f ss d ps n);
        }
    expr_runs (row l a os) g =
        let q = expr_runs a g.1 in
        record {
          primary = λ h. absurd h;
          unary = λ h. absurd h;
          casts = λ h. absurd h;
          right = λ h r f ss d ps n. q.right (tighter_condition l a g.0) r.0 f ss d _ (operands_parts os d ps n) ∙ operands_run l os g.3 r.1 f ss d ps n;
          free = λ u w r f ss d ps n. q.free u (tighter_whole u l a g.0) r.0 f ss d _ (operands_parts os d ps n) ∙ operands_run l os g.3 r.1 f ss d ps n;
          any = any_of (row l a os) tt (λ u w r f ss d ps n. q.free u (tighter_whole u l a g.0) r.0 f ss d _ (operands_parts os d ps n) ∙ operands_run l os g.3 r.1 f ss d ps n);
        }
    expr_runs (conditional c a b) g =
        let x = expr_runs c g.1 in
        let y = expr_runs a g.2 in
        let z = expr_runs b g.4 in
        record {
          primary = λ h. absurd h;
          unary = λ h. absurd h;
          casts = λ h. absurd h;
          right = λ h. absurd h;
          free = λ u w r f ss d ps n. x.free u (condition_whole u c g.0) r.0 f ss (suc d) _ refl ∙ y.any r.1 f (Must (word.Mark mark.Colon) ∷ Operand mode.Cond ∷ ss) (suc (suc d)) _ refl ∙ z.free false g.3 r.2 f ss (suc d) ps n;
          any = any_of (conditional c a b) tt
              (λ u w r f ss d ps n. x.free u (condition_whole u c g.0) r.0 f ss (suc d) _ refl ∙ y.any r.1 f (Must (word.Mark mark.Colon) ∷ Operand mode.Cond ∷ ss) (suc (suc d)) _ refl ∙ z.free false g.3 r.2 f ss (suc d) ps n);
        }
    expr_runs (assign a x e) g =
        let y = expr_runs x g.1 in
        let z = expr_runs e g.3 in
        record {
          primary = λ h. absurd h;
          unary = λ h. absurd h;
          casts = λ h. absurd h;
          right = λ h. absurd h;
          free = assign_free a x e g.0 y g.2 z;
          any = any_of (assign a x e) tt (assign_free a x e g.0 y g.2 z);
        }
    expr_runs (sequence e es) g =
        let q = expr_runs e g.1 in
        record {
          primary = λ h. absurd h;
          unary = λ h. absurd h;
          casts = λ h. absurd h;
          right = λ h. absurd h;
          free = no_sequence e es;
          any = λ r f ss d ps h. assigned e q g.0 r.0 f (Commas ∷ ss) d _ (more_ends es d ps h) ∙ more_run es g.3 r.1 f ss d ps h;
        }

    operands_run : (l : Level) (os : Operands) → AreOperands l os → ReadsOperands types os → (f : List ℕ) (ss : List Symbol) (d : ℕ) (ps : List Piece) → Heads parts ps → on f (Behind false ∷ ss) (operands_pieces i os d ps) ≡ on f (Behind false ∷ ss) ps
    operands_run l no_operands g r f ss d ps h = refl
    operands_run l (with_operand o e os) g r f ss d ps h =
        let q = expr_runs e g.2 in
        infix_step o f ss d _ ∙ q.right (tighter_condition l e g.1) r.0 f ss d _ (operands_parts os d ps h) ∙ operands_run l os g.3 r.1 f ss d ps h

    more_run : (es : Exprs) → AreAssigns es → ReadsExprs types es → (f : List ℕ) (ss : List Symbol) (d : ℕ) (ps : List Piece) → Heads closes ps → on f (Commas ∷ ss) (more_pieces i es d ps) ≡ on f ss ps
    more_run no_exprs g r f ss d ps h = pass_commas types i f ss ps h
    more_run (with_expr e es) g r f ss d ps h = assigned e (expr_runs e g.1) g.0 r.0 f (Commas ∷ ss) d _ (more_ends es d ps h) ∙ more_run es g.2 r.1 f ss d ps h

    pub arguments_run : (es : Exprs) → AreAssigns es → ReadsExprs types es → (f : List ℕ) (ss : List Symbol) (d : ℕ) (ps : List Piece) → Heads closes ps → on f (Optional ∷ ss) (argument_pieces i es d ps) ≡ on f ss ps
    arguments_run no_exprs g r f ss d ps h = pass_optional f ss ps h
    arguments_run (with_expr e es) g r f ss d ps h =
        optional_first e f ss d _ ∙ assigned e (expr_runs e g.1) g.0 r.0 f (Commas ∷ ss) d _ (more_ends es d ps h) ∙ more_run es g.2 r.1 f ss d ps h

    suffixes_run : (xs : Suffixes) → AreSuffixes xs → ReadsSuffixes types xs → (f : List ℕ) (ss : List Symbol) (d : ℕ) (ps : List Piece) → Heads follows ps → on f (Suffixes_to_come ∷ ss) (suffixes_pieces i xs d ps) ≡ on f ss ps
    suffixes_run no_suffixes g r f ss d ps h = pass_suffixes types i f ss ps h
    suffixes_run (with_suffix x xs) g r f ss d ps h = suffix_run x g.0 r.0 f ss d _ ∙ suffixes_run xs g.1 r.1 f ss d ps h

    suffix_run : (x : Suffix) → IsSuffix x → ReadsSuffix types x → (f : List ℕ) (ss : List Symbol) (d : ℕ) (ps : List Piece) → on f (Suffixes_to_come ∷ ss) (suffix_pieces i x d ps) ≡ on f (Suffixes_to_come ∷ ss) ps
    suffix_run (index e) g r f ss d ps = let q = expr_runs e g in q.any r f (Must (word.Mark mark.CloseBracket) ∷ Suffixes_to_come ∷ ss) (suc d) _ refl
    suffix_run (call es) g r f ss d ps = arguments_run es g r f (Must (word.Mark mark.CloseParenthesis) ∷ Suffixes_to_come ∷ ss) d _ refl
    suffix_run (member n) g r f ss d ps = refl
    suffix_run (arrow n) g r f ss d ps = refl
    suffix_run increased g r f ss d ps = refl
    suffix_run decreased g r f ss d ps = refl

    count_run : (e : Perhaps) → IsCount e → ReadsPerhaps types e → (f : List ℕ) (ss : List Symbol) (d : ℕ) (ps : List Piece) → on f (Count ∷ ss) (perhaps_pieces i e d (mark_piece i mark.CloseBracket d ∷ ps)) ≡ on f ss ps
    count_run absent g r f ss d ps = refl
    count_run (present e) g r f ss d ps = count_first e f ss d _ ∙ conditioned e (expr_runs e g.1) g.0 r f (Must (word.Mark mark.CloseBracket) ∷ ss) d _ refl

    given_run : (e : Perhaps) → IsCount e → ReadsPerhaps types e → (f : List ℕ) (ss : List Symbol) (d : ℕ) (ps : List Piece) → Heads ends ps → on f (ConstantValue ∷ ss) (given_pieces i e d ps) ≡ on f ss ps
    given_run absent g r f ss d ps h = no_value f ss ps h
    given_run (present e) g r f ss d ps h = conditioned e (expr_runs e g.1) g.0 r f ss d ps h

    pub base_run : (b : Base) → IsBase b → ReadsBase types b → (f : List ℕ) (ss : List Symbol) (d : ℕ) (ps : List Piece) → Heads behind_base ps → on f (Base_to_come ∷ ss) (base_pieces i b d ps) ≡ on f ss ps
    base_run (kind k ws) g r f ss d ps h = kind_run ws (Some k) f ss d ps (kind_fits ws g) h
    base_run (void k c) g r f ss d ps h = before_run c.before (Some k) f ss d _ ∙ consts_run c.behind f ss d ps h
    base_run (typedef_name k n c) g r f ss d ps h = before_run c.before (Some k) f ss d _ ∙ name_known n f ss _ d r ∙ consts_run c.behind f ss d ps h
    base_run (tag k tag_sort.Struct n c) g r f ss d ps h = before_run c.before (Some k) f ss d _ ∙ tag_consts tag_sort.Struct c.behind f ss d ps h
    base_run (tag k tag_sort.Enum n c) g r f ss d ps h = before_run c.before (Some k) f ss d _ ∙ tag_consts tag_sort.Enum c.behind f ss d ps h
    base_run (structure k n no_fields c) g r f ss d ps h = absurd (g.0 refl)
    base_run (structure k n (with_field x xs) c) g r f ss d ps h =
        before_run c.before (Some k) f ss d _ ∙ tag_name_run n tag_sort.Struct f ss d _ ∙ field_run x g.1.0 r.0 f (Fields_to_come ∷ Consts ∷ ss) (suc d) _ ∙ fields_run xs g.1.1 r.1 f (Consts ∷ ss) d _ ∙ consts_run c.behind f ss d ps h
    base_run (enumeration k n no_constants c) g r f ss d ps h = absurd (g.0 refl)
    base_run (enumeration k n (with_constant (constant m e) cs) c) g r f ss d ps h =
        before_run c.before (Some k) f ss d _ ∙ tag_name_run n tag_sort.Enum f ss d _ ∙ given_run e g.1.0 r.0 f (Constants_to_come ∷ Consts ∷ ss) d _ (constants_end cs d _) ∙ constants_run cs g.1.1 r.1 f (Consts ∷ ss) d _ ∙ consts_run c.behind f ss d ps h

    field_run : (x : Field) → IsField x → ReadsField types x → (f : List ℕ) (ss : List Symbol) (d : ℕ) (ps : List Piece) → on f (Base_to_come ∷ Declarator_to_come naming.Must ∷ MoreDeclarators ∷ ss) (field_pieces i x d ps) ≡ on f ss ps
    field_run (field b no_declarators) g r f ss d ps = absurd (g.1 refl)
    field_run (field b (with_declarator x xs)) g r f ss d ps =
        base_run b g.0 r.0 f (Declarator_to_come naming.Must ∷ MoreDeclarators ∷ ss) d _ (declared_behind x (suc d) _ (inl (must_tokens x g.2.0)))
        ∙ declarator_run naming.Must x g.2.0 r.1.0 f (MoreDeclarators ∷ ss) (suc d) _ (declarators_leave xs d _ refl) ∙ declarators_run xs g.2.1 r.1.1 f ss d ps

    fields_run : (xs : Fields) → AreFields xs → ReadsFields types xs → (f : List ℕ) (ss : List Symbol) (d : ℕ) (ps : List Piece) → on f (Fields_to_come ∷ ss) (fields_pieces i xs (suc d) (mark_piece i mark.CloseBrace d ∷ ps)) ≡ on f ss ps
    fields_run no_fields g r f ss d ps = refl
    fields_run (with_field (field b ds) xs) g r f ss d ps = fields_first b g.0.0 r.0.0 f ss (suc d) _ ∙ field_run (field b ds) g.0 r.0 f (Fields_to_come ∷ ss) (suc d) _ ∙ fields_run xs g.1 r.1 f ss d ps

    declarators_run : (xs : Declarators) → AreDeclarators xs → ReadsDeclarators types xs → (f : List ℕ) (ss : List Symbol) (d : ℕ) (ps : List Piece) → on f (MoreDeclarators ∷ ss) (more_declarators_pieces i xs d (mark_piece i mark.Semicolon d ∷ ps)) ≡ on f ss ps
    declarators_run no_declarators g r f ss d ps = refl
    declarators_run (with_declarator x xs) g r f ss d ps = declarator_run naming.Must x g.0 r.0 f (MoreDeclarators ∷ ss) (suc d) _ (declarators_leave xs d _ refl) ∙ declarators_run xs g.1 r.1 f ss d ps

    constants_run : (cs : Constants) → AreConstants cs → ReadsConstants types cs → (f : List ℕ) (ss : List Symbol) (d : ℕ) (ps : List Piece) → on f (Constants_to_come ∷ ss) (more_constants_pieces i cs d (mark_piece i mark.CloseBrace d ∷ ps)) ≡ on f ss ps
    constants_run no_constants g r f ss d ps = refl
    constants_run (with_constant (constant n e) cs) g r f ss d ps = given_run e g.0 r.0 f (Constants_to_come ∷ ss) d _ (constants_end cs d ps) ∙ constants_run cs g.1 r.1 f ss d ps

    pub declarator_run : (n : Naming) (x : Declarator) → IsNamed n x → ReadsDeclarator types x → Declares n x
    declarator_run n (declarator k stars (named_core m) bs) g r = named_run n k stars m bs g (brackets_run bs (named_brackets n (declarator k stars (named_core m) bs) g) r.1)
    declarator_run n (declarator k stars (inner j x) bs) g r =
        inner_run n k j stars x bs g (λ h. declarator_run n x h r.0) (brackets_run bs (named_brackets n (declarator k stars (inner j x) bs) g) r.1)
    declarator_run n (declarator k stars lacking_core bs) g r = lacking_run n k stars bs g (bare_run n bs (named_bare n k stars bs g) r.1)

    brackets_run : (bs : Brackets) → AreBrackets bs → ReadsBrackets types bs → Bracketed bs
    brackets_run no_brackets g r a f ss d ps h = pass_brackets f ss ps h
    brackets_run (with_bracket (count e) bs) g r a f ss d ps h = count_run e g.0 r.0 f (Brackets_to_come ∷ ss) d _ ∙ brackets_run bs g.1 r.1 None f ss d ps h
    brackets_run (with_bracket empty_list bs) g r a f ss d ps h = brackets_run bs g.1 r.1 None f ss d ps h
    brackets_run (with_bracket void_list bs) g r a f ss d ps h = brackets_run bs g.1 r.1 None f ss d ps h
    brackets_run (with_bracket (param_list xs) bs) g r a f ss d ps h = params_run xs g.0.0 g.0.1 g.0.2 r.0 f (Brackets_to_come ∷ ss) d _ ∙ brackets_run bs g.1 r.1 None f ss d ps h

    counts_run : (bs : Brackets) → AreCounts bs → AreBrackets bs → ReadsBrackets types bs → (a : Option ℕ) (f : List ℕ) (ss : List Symbol) (d : ℕ) (ps : List Piece) → Heads leaves ps → on f (Counts ∷ ss) (brackets_pieces i bs a d ps) ≡ on f ss ps
    counts_run no_brackets c g r a f ss d ps h = pass_counts f ss ps h
    counts_run (with_bracket (count e) bs) c g r a f ss d ps h = count_run e g.0 r.0 f (Counts ∷ ss) d _ ∙ counts_run bs c g.1 r.1 None f ss d ps h
    counts_run (with_bracket empty_list bs) c g r a f ss d ps h = absurd c
    counts_run (with_bracket void_list bs) c g r a f ss d ps h = absurd c
    counts_run (with_bracket (param_list xs) bs) c g r a f ss d ps h = absurd c

    -- the brackets where a core lacks
    bare_run : (n : Naming) (bs : Brackets) → Bare n bs → ReadsBrackets types bs → (a : Option ℕ) (f : List ℕ) (ss : List Symbol) (d : ℕ) (ps : List Piece) → Heads leaves ps → on f (Declarator_to_come n ∷ ss) (brackets_pieces i bs a d ps) ≡ on f ss ps
    bare_run naming.Must bs g r a f ss d ps h = absurd g
    bare_run naming.Typedef bs g r a f ss d ps h = absurd g
    bare_run naming.May no_brackets g r a f ss d ps h = pass_declarator naming.May f ss ps refl h
    bare_run naming.May (with_bracket (count e) bs) g r a f ss d ps h = count_run e g.1.0 r.0 f (Brackets_to_come ∷ ss) d _ ∙ brackets_run bs g.1.1 r.1 None f ss d ps h
    bare_run naming.May (with_bracket empty_list bs) g r a f ss d ps h = brackets_run bs g.1.1 r.1 None f ss d ps h
    bare_run naming.May (with_bracket void_list bs) g r a f ss d ps h = brackets_run bs g.1.1 r.1 None f ss d ps h
    bare_run naming.May (with_bracket (param_list no_params) bs) g r a f ss d ps h = absurd (g.1.0.0 refl)
    bare_run naming.May (with_bracket (param_list (with_param (param b x) xs)) bs) g r a f ss d ps h =
        nameless_first b x xs g.0 g.1.0.2.0.0 f ss d _ ∙ params_run (with_param (param b x) xs) g.1.0.0 g.1.0.1 g.1.0.2 r.0 f (Brackets_to_come ∷ ss) d _ ∙ brackets_run bs g.1.1 r.1 None f ss d ps h
    bare_run naming.Abstract no_brackets g r a f ss d ps h = pass_declarator naming.Abstract f ss ps refl h
    bare_run naming.Abstract (with_bracket (count e) bs) g r a f ss d ps h = count_run e g.1.0 r.0 f (Counts ∷ ss) d _ ∙ counts_run bs g.0 g.1.1 r.1 None f ss d ps h
    bare_run naming.Abstract (with_bracket empty_list bs) g r a f ss d ps h = absurd g.0
    bare_run naming.Abstract (with_bracket void_list bs) g r a f ss d ps h = absurd g.0
    bare_run naming.Abstract (with_bracket (param_list xs) bs) g r a f ss d ps h = absurd g.0

    params_run : (xs : Params) → (xs ≢ no_params) → IsNotVoid xs → AreParams xs → ReadsParams types xs → (f : List ℕ) (ss : List Symbol) (d : ℕ) (ps : List Piece)
        → on f (Parameters ∷ ss) (params_pieces i xs d (mark_piece i mark.CloseParenthesis d ∷ ps)) ≡ on f ss ps
    params_run no_params n v g r f ss d ps = absurd (n refl)
    params_run (with_param (param (void k c) x) xs) n v g r f ss d ps =
        void_run k c.before c.behind d x xs f ss ps v (declared_behind x (suc d) _ (param_tokens x xs d ps))
        (declarator_run naming.May x g.0.1 r.0.1 f (MoreParameters ∷ ss) (suc d) _ (params_leave xs d ps) ∙ more_params_run xs g.1 r.1 f ss d ps)
    params_run (with_param (param b x) xs) n v g r f ss d ps =
        parameters_first b g.0.0 r.0.0 tt f ss d _ ∙ base_run b g.0.0 r.0.0 f (Declarator_to_come naming.May ∷ MoreParameters ∷ ss) d _ (declared_behind x (suc d) _ (param_tokens x xs d ps))
        ∙ declarator_run naming.May x g.0.1 r.0.1 f (MoreParameters ∷ ss) (suc d) _ (params_leave xs d ps) ∙ more_params_run xs g.1 r.1 f ss d ps

    more_params_run : (xs : Params) → AreParams xs → ReadsParams types xs → (f : List ℕ) (ss : List Symbol) (d : ℕ) (ps : List Piece)
        → on f (MoreParameters ∷ ss) (more_params_pieces i xs d (mark_piece i mark.CloseParenthesis d ∷ ps)) ≡ on f ss ps
    more_params_run no_params g r f ss d ps = refl
    more_params_run (with_param (param b x) xs) g r f ss d ps =
        base_run b g.0.0 r.0.0 f (Declarator_to_come naming.May ∷ MoreParameters ∷ ss) d _ (declared_behind x (suc d) _ (param_tokens x xs d ps))
        ∙ declarator_run naming.May x g.0.1 r.0.1 f (MoreParameters ∷ ss) (suc d) _ (params_leave xs d ps) ∙ more_params_run xs g.1 r.1 f ss d ps

    type_name_run : (t : TypeName) → IsTypeName t → ReadsTypeName types t → (f : List ℕ) (ss : List Symbol) (d : ℕ) (ps : List Piece)
        → on f (Base_to_come ∷ Declarator_to_come naming.Abstract ∷ Must (word.Mark mark.CloseParenthesis) ∷ ss) (type_name_pieces i t d (mark_piece i mark.CloseParenthesis d ∷ ps)) ≡ on f ss ps
    type_name_run (type_name b x) g r f ss d ps =
        base_run b g.0 r.0 f (Declarator_to_come naming.Abstract ∷ Must (word.Mark mark.CloseParenthesis) ∷ ss) d _ (declared_behind x d _ (inr refl))
        ∙ declarator_run naming.Abstract x (g.1, g.2) r.1 f (Must (word.Mark mark.CloseParenthesis) ∷ ss) d _ refl
