-- What can be brought to an end stays so, whatever the walk takes.
use Rattle.std.proofs.Common.{◌≡◌, ℕ, Bool, true, false, ◌&&◌, if◌then◌else◌, List, [], ◌∷◌, Option, Some, None, refl, subst}
use Rattle.porch_tree.specs.declared.word.Keyword.{Keyword}
use Rattle.porch_tree.specs.declared.word.Keyword.TheVariants as key
use Rattle.porch_tree.specs.declared.word.Mark.{Mark}
use Rattle.porch_tree.specs.declared.word.Mark.TheVariants as mark
use Rattle.porch_tree.specs.declared.word.Word.{Word}
use Rattle.porch_tree.specs.declared.word.Word.TheVariants as word
use Rattle.porch_tree.specs.declared.tree.TagSort.{TagSort}
use Rattle.porch_tree.specs.declared.tree.TagSort.TheVariants as tag_sort
use Rattle.porch_tree.specs.Pieces.{Spelled}
use Rattle.porch_walk.specs.declared.symbol.Mode.{Mode}
use Rattle.porch_walk.specs.declared.symbol.Mode.TheVariants as mode
use Rattle.porch_walk.specs.declared.symbol.Naming.{Naming}
use Rattle.porch_walk.specs.declared.symbol.Naming.TheVariants as naming
use Rattle.porch_walk.specs.declared.symbol.Kinds.{Kinds}
use Rattle.porch_walk.specs.declared.symbol.Symbol.{Symbol}
use Rattle.porch_walk.specs.declared.symbol.Symbol.TheVariants.{Must, Operand, Open, Texts, Suffixes, Behind, Commas, Optional, Base, Kind, Consts, Tag, TagBody, Fields, MoreDeclarators, ConstantValue, Constants, Declarator, Pointer, Nameless, Brackets, Counts, Count, Parameters, Void, MoreParameters, Entries, Entry, MoreEntries, Initial, MoreInitials, NextInitial, FileEntries, FirstEntry, EndTypedef, Body, Statements, Statement, Else, Cases}
use Rattle.porch_walk.specs.Walk.{Stage, step, run_from, run, is, is_mark, is_key, Heard, heard, names_type, or_else, no_kinds, kinds_behind, kinds_of, rest_of, takes_type, behind_type, may_name, may_lack, brackets_of, opened, contents, goes, kind as kind_stage, base_key, base_of, base, unary_mark, unary_key, unary, operand, nested, open_type, open_on, suffix_mark, suffix, is_infix, is_assigning, operators, named, lacking, core, declarator, more_parameters, more_entries, entry, initial, declaration, statement_key, statement_word, statement, item, behind}
use Rattle.porch_walk.proofs.Passes.{Heads, closes, leaves, behind_base}
use Rattle.porch_walk.proofs.Completes.{completion, Good, IsLast, no_else, brace_no_else, last_good}

abbrev pub GoodIf : Option Stage → Type 0
GoodIf None = Unit {0}
GoodIf (Some n) = Good n.inside n.pending

both : (b : Bool) (x y : Option Stage) → GoodIf x → GoodIf y → GoodIf (if b then x else y)
both true x y g h = g
both false x y g h = h

either : (x y : Option Stage) → GoodIf x → GoodIf y → GoodIf (or_else x y)
either None y g h = h
either (Some x) y g h = g

module _ (types : List (List ℕ)) (f : List ℕ) (i : Bool) where
  kind_kept : (ss : List Symbol) (o : Option Kinds) → Heads behind_base (completion i ss) → Good i ss → GoodIf (kind_stage types f i ss o)
  kind_kept ss None h g = tt
  kind_kept ss (Some s) h g = (h, g)

  base_key_kept : (ss : List Symbol) (k : Keyword) → Heads behind_base (completion i ss) → Good i ss → GoodIf (base_key types f i ss k)
  base_key_kept ss key.Const h g = (h, g)
  base_key_kept ss key.Void h g = (h, g)
  base_key_kept ss key.Struct h g = (h, g)
  base_key_kept ss key.Enum h g = (h, g)
  base_key_kept ss k h g = kind_kept ss (kinds_behind no_kinds k) h g

  base_of_kept : (ss : List Symbol) (w : Word) (b : Bool) → Heads behind_base (completion i ss) → Good i ss → GoodIf (base_of types f i ss w b)
  base_of_kept ss (word.Key k) b h g = base_key_kept ss k h g
  base_of_kept ss word.Name b h g = both b _ _ (h, g) tt
  base_of_kept ss w b h g = tt

  base_kept : (ss : List Symbol) (t : Heard) → Heads behind_base (completion i ss) → Good i ss → GoodIf (base types f i ss t)
  base_kept ss t h g = base_of_kept ss t.word (names_type types t.bytes) h g

  unary_mark_kept : (ss : List Symbol) (m : Mark) → Heads closes (completion i ss) → Good i ss → GoodIf (unary_mark types f i ss m)
  unary_mark_kept ss mark.PlusPlus h g = (h, g)
  unary_mark_kept ss mark.MinusMinus h g = (h, g)
  unary_mark_kept ss mark.And h g = (h, g)
  unary_mark_kept ss mark.Star h g = (h, g)
  unary_mark_kept ss mark.Plus h g = (h, g)
  unary_mark_kept ss mark.Minus h g = (h, g)
  unary_mark_kept ss mark.Tilde h g = (h, g)
  unary_mark_kept ss mark.Not h g = (h, g)
  unary_mark_kept ss m h g = tt

  unary_key_kept : (ss : List Symbol) (k : Keyword) → Heads closes (completion i ss) → Good i ss → GoodIf (unary_key types f i ss k)
  unary_key_kept ss key.Sizeof h g = (h, g)
  unary_key_kept ss k h g = tt

  unary_kept : (ss : List Symbol) (w : Word) → Heads closes (completion i ss) → Good i ss → GoodIf (unary types f i ss w)
  unary_kept ss word.Name h g = (h, g)
  unary_kept ss word.Whole h g = (h, g)
  unary_kept ss word.Character h g = (h, g)
  unary_kept ss word.Text h g = (h, (h, g))
  unary_kept ss (word.Key k) h g = unary_key_kept ss k h g
  unary_kept ss (word.Mark m) h g = unary_mark_kept ss m h g

  rest_closes : (m : Mode) (ss : List Symbol) → Heads closes (completion i ss) → Heads closes (completion i (rest_of m ss))
  rest_closes mode.Assign ss h = h
  rest_closes mode.Cond ss h = h
  rest_closes mode.Cast ss h = h
  rest_closes mode.Unary ss h = h
  rest_closes mode.Size ss h = h

  rest_good : (m : Mode) (ss : List Symbol) → Heads closes (completion i ss) → Good i ss → Good i (rest_of m ss)
  rest_good mode.Assign ss h g = (h, g)
  rest_good mode.Cond ss h g = (h, g)
  rest_good mode.Cast ss h g = g
  rest_good mode.Unary ss h g = g
  rest_good mode.Size ss h g = g

  type_good : (m : Mode) (ss : List Symbol) → Heads closes (completion i ss) → Good i ss → Good i (behind_type m ss)
  type_good mode.Assign ss h g = (h, (h, g))
  type_good mode.Cond ss h g = (h, (h, g))
  type_good mode.Cast ss h g = (h, g)
  type_good mode.Unary ss h g = (h, g)
  type_good mode.Size ss h g = g

  operand_kept : (m : Mode) (ss : List Symbol) (w : Word) → Heads closes (completion i ss) → Good i ss → GoodIf (operand types f i m ss w)
  operand_kept m ss w h g = both (is_mark mark.OpenParenthesis w) _ _ (h, g) (unary_kept (rest_of m ss) w (rest_closes m ss h) (rest_good m ss h g))

  nested_kept : (m : Mode) (ss : List Symbol) (w : Word) → Heads closes (completion i ss) → Good i ss → GoodIf (nested types f i m ss w)
  nested_kept m ss w h g = operand_kept mode.Assign (Commas ∷ Must (word.Mark mark.CloseParenthesis) ∷ Suffixes ∷ rest_of m ss) w refl (refl, (refl, (rest_closes m ss h, rest_good m ss h g)))

  open_kept : (b : Bool) (m : Mode) (ss : List Symbol) (t : Heard) → Heads closes (completion i ss) → Good i ss → GoodIf (open_on types f i b m ss t)
  open_kept true m ss t h g = either (open_type types f i m ss t) (nested types f i m ss t.word) (base_kept (Declarator naming.Abstract ∷ Must (word.Mark mark.CloseParenthesis) ∷ behind_type m ss) t refl (refl, (refl, type_good m ss h g))) (nested_kept m ss t.word h g)
  open_kept false m ss t h g = nested_kept m ss t.word h g

  suffix_mark_kept : (ss : List Symbol) (m : Mark) → Heads closes (completion i ss) → Good i ss → GoodIf (suffix_mark types f i ss m)
  suffix_mark_kept ss mark.OpenBracket h g = (refl, (refl, (refl, (h, g))))
  suffix_mark_kept ss mark.OpenParenthesis h g = (refl, (refl, (h, g)))
  suffix_mark_kept ss mark.Dot h g = (refl, (h, g))
  suffix_mark_kept ss mark.Arrow h g = (refl, (h, g))
  suffix_mark_kept ss mark.PlusPlus h g = (h, g)
  suffix_mark_kept ss mark.MinusMinus h g = (h, g)
  suffix_mark_kept ss m h g = tt

  suffix_kept : (ss : List Symbol) (w : Word) → Heads closes (completion i ss) → Good i ss → GoodIf (suffix types f i ss w)
  suffix_kept ss (word.Mark m) h g = suffix_mark_kept ss m h g
  suffix_kept ss w h g = tt

  operators_kept : (u : Bool) (ss : List Symbol) (w : Word) → Heads closes (completion i ss) → Good i ss → GoodIf (operators types f i u ss w)
  operators_kept u ss w h g =
      both (is_infix w) _ _ (h, (h, g)) (both (is_mark mark.Question w) _ _ (refl, (refl, (refl, (h, g)))) (both (u && is_assigning w) _ _ (h, g) tt))

  named_kept : (n : Naming) (ss : List Symbol) (bs : List ℕ) → Good i ss → GoodIf (named types f i n ss bs)
  named_kept naming.Must ss bs g = g
  named_kept naming.May ss bs g = g
  named_kept naming.Typedef ss bs g = g
  named_kept naming.Abstract ss bs g = g

  opened_kept : (n : Naming) (ss : List Symbol) → Heads leaves (completion i ss) → Good i ss → GoodIf (goes types f i (opened n ss))
  opened_kept naming.May ss h g = (h, g)
  opened_kept naming.Must ss h g = (refl, (refl, (h, g)))
  opened_kept naming.Typedef ss h g = (refl, (refl, (h, g)))
  opened_kept naming.Abstract ss h g = (refl, (refl, (h, g)))

  counted_kept : (n : Naming) (ss : List Symbol) → Heads leaves (completion i ss) → Good i ss → GoodIf (goes types f i (Count ∷ brackets_of n ∷ ss))
  counted_kept naming.Abstract ss h g = (h, g)
  counted_kept naming.May ss h g = (h, g)
  counted_kept naming.Must ss h g = (h, g)
  counted_kept naming.Typedef ss h g = (h, g)

  lacking_kept : (b : Bool) (n : Naming) (ss : List Symbol) (w : Word) (other : Option Stage) → Heads leaves (completion i ss) → Good i ss → GoodIf other → GoodIf (lacking types f i b n ss w other)
  lacking_kept true n ss w other h g o = both (is_mark mark.OpenBracket w) _ _ (counted_kept n ss h g) o
  lacking_kept false n ss w other h g o = tt

  core_kept : (b : Bool) (n : Naming) (ss : List Symbol) (t : Heard) (other : Option Stage) → Heads leaves (completion i ss) → Good i ss → GoodIf other → GoodIf (core types f i b n ss t other)
  core_kept true n ss t other h g o =
      both (is t.word word.Name) _ _ (named_kept n (Brackets ∷ ss) t.bytes (h, g)) (both (is_mark mark.OpenParenthesis t.word) _ _ (opened_kept n ss h g) (lacking_kept (may_lack n) n ss t.word other h g o))
  core_kept false n ss t other h g o = lacking_kept (may_lack n) n ss t.word other h g o

  declarator_kept : (n : Naming) (ss : List Symbol) (t : Heard) (other : Option Stage) → Heads leaves (completion i ss) → Good i ss → GoodIf other → GoodIf (declarator types f i n ss t other)
  declarator_kept n ss t other h g o = both (is_mark mark.Star t.word) _ _ (h, g) (core_kept (may_name n) n ss t other h g o)

  more_parameters_kept : (ss : List Symbol) (w : Word) → Good i ss → GoodIf (more_parameters types f i ss w)
  more_parameters_kept ss w g = both (is_mark mark.Comma w) _ _ (refl, (refl, g)) (both (is_mark mark.CloseParenthesis w) _ _ g tt)

  more_entries_kept : (ss : List Symbol) (w : Word) → Good i ss → GoodIf (more_entries types f i ss w)
  more_entries_kept ss w g = both (is_mark mark.Comma w) _ _ (refl, g) (both (is_mark mark.Semicolon w) _ _ g tt)

  entry_kept : (ss : List Symbol) (w : Word) → Good i ss → GoodIf (entry types f i ss w)
  entry_kept ss w g = both (is_mark mark.Equal w) _ _ (refl, g) (more_entries_kept ss w g)

  initial_kept : (ss : List Symbol) (w : Word) → Heads closes (completion i ss) → Good i ss → GoodIf (initial types f i ss w)
  initial_kept ss w h g = both (is_mark mark.OpenBrace w) _ _ (refl, g) (operand_kept mode.Assign ss w h g)

  contents_kept : (s : TagSort) (ss : List Symbol) → Heads behind_base (completion i ss) → Good i ss → GoodIf (goes types f i (contents s ss))
  contents_kept tag_sort.Struct ss h g = (refl, (refl, (h, g)))
  contents_kept tag_sort.Enum ss h g = (refl, (refl, (h, g)))

  statement_key_kept : (ss : List Symbol) (k : Keyword) → Heads no_else (completion i ss) → Good i ss → GoodIf (statement_key types f i ss k)
  statement_key_kept ss key.If h g = (refl, (refl, (refl, (refl, (h, (h, g))))))
  statement_key_kept ss key.While h g = (refl, (refl, (refl, (refl, (h, g)))))
  statement_key_kept ss key.Do h g = (refl, (refl, (refl, (refl, (refl, (refl, (refl, g)))))))
  statement_key_kept ss key.For h g = (refl, (refl, (refl, (refl, (refl, (refl, (refl, (h, g))))))))
  statement_key_kept ss key.Switch h g = (refl, (refl, (refl, (refl, (refl, (refl, (refl, g)))))))
  statement_key_kept ss key.Break h g = (refl, g)
  statement_key_kept ss key.Continue h g = (refl, g)
  statement_key_kept ss key.Return h g = (refl, (refl, g))
  statement_key_kept ss k h g = tt

  marks_kept : (ss : List Symbol) (w : Word) → Good i ss
      → GoodIf (if is_mark mark.OpenBrace w then goes types f i (Body ∷ Must (word.Mark mark.CloseBrace) ∷ ss) else if is_mark mark.Semicolon w then goes types f i ss else None)
  marks_kept ss w g = both (is_mark mark.OpenBrace w) _ _ (refl, (refl, g)) (both (is_mark mark.Semicolon w) _ _ g tt)

  statement_word_kept : (ss : List Symbol) (w : Word) → Heads no_else (completion i ss) → Good i ss → GoodIf (statement_word types f i ss w)
  statement_word_kept ss (word.Key k) h g = statement_key_kept ss k h g
  statement_word_kept ss (word.Mark m) h g = marks_kept ss (word.Mark m) g
  statement_word_kept ss word.Name h g = tt
  statement_word_kept ss w h g = tt

  statement_kept : (ss : List Symbol) (w : Word) → Heads no_else (completion i ss) → Good i ss → GoodIf (statement types f i ss w)
  statement_kept ss w h g = either (statement_word types f i ss w) (operand types f i mode.Assign (Commas ∷ Must (word.Mark mark.Semicolon) ∷ ss) w) (statement_word_kept ss w h g) (operand_kept mode.Assign (Commas ∷ Must (word.Mark mark.Semicolon) ∷ ss) w refl (refl, (refl, g)))

  block_kept : (ss : List Symbol) → IsLast ss → Good true (Body ∷ ss)
  block_kept [] h = (refl, tt)
  block_kept (s ∷ ss) h = absurd h

item_kept : (types : List (List ℕ)) (f : List ℕ) (i : Bool) (t : Heard) → GoodIf (item types f i i t)
item_kept types f true t = both (is_mark mark.CloseBrace t.word) _ _ tt tt
item_kept types f false t =
    both (is_key key.Typedef t.word) _ _ (refl, (refl, tt)) (both (is_key key.Static t.word) _ _ (refl, tt) (base_kept types f false (FileEntries ∷ []) t refl tt))

pub kept : (ss : List Symbol) (types : List (List ℕ)) (f : List ℕ) (i : Bool) (t : Heard) → Good i ss → GoodIf (behind types f i ss t)
kept [] types f true t g = item_kept types f true t
kept [] types f false t g = item_kept types f false t
kept (Must w ∷ ss) types f i t g = both (is t.word w) _ _ g.1 tt
kept (Operand m ∷ ss) types f i t g = operand_kept types f i m ss t.word g.0 g.1
kept (Open m ∷ ss) types f i t g = open_kept types f i (takes_type m) m ss t g.0 g.1
kept (Texts ∷ ss) types f i t g = both (is t.word word.Text) _ _ g (kept ss types f i t g.1)
kept (Suffixes ∷ ss) types f i t g = either (suffix types f i ss t.word) (behind types f i ss t) (suffix_kept types f i ss t.word g.0 g.1) (kept ss types f i t g.1)
kept (Behind u ∷ ss) types f i t g = either (operators types f i u ss t.word) (behind types f i ss t) (operators_kept types f i u ss t.word g.0 g.1) (kept ss types f i t g.1)
kept (Commas ∷ ss) types f i t g = both (is_mark mark.Comma t.word) _ _ (g.0, g) (kept ss types f i t g.1)
kept (Optional ∷ ss) types f i t g = either (operand types f i mode.Assign (Commas ∷ ss) t.word) (behind types f i ss t) (operand_kept types f i mode.Assign (Commas ∷ ss) t.word g.0 g) (kept ss types f i t g.1)
kept (Base ∷ ss) types f i t g = base_kept types f i ss t g.0 g.1
kept (Kind s ∷ ss) types f i t g = either (kind_stage types f i ss (kinds_of s t.word)) (behind types f i ss t) (kind_kept types f i ss (kinds_of s t.word) g.0 g.1) (kept ss types f i t g.1)
kept (Consts ∷ ss) types f i t g = both (is_key key.Const t.word) _ _ g (kept ss types f i t g.1)
kept (Tag s ∷ ss) types f i t g = both (is t.word word.Name) _ _ g (both (is_mark mark.OpenBrace t.word) _ _ (contents_kept types f i s ss g.0 g.1) tt)
kept (TagBody s ∷ ss) types f i t g = both (is_mark mark.OpenBrace t.word) _ _ (contents_kept types f i s ss g.0 g.1) (both (is_key key.Const t.word) _ _ g (kept ss types f i t g.1))
kept (Fields ∷ ss) types f i t g = both (is_mark mark.CloseBrace t.word) _ _ g (base_kept types f i (Declarator naming.Must ∷ MoreDeclarators ∷ Fields ∷ ss) t refl (refl, g))
kept (MoreDeclarators ∷ ss) types f i t g = both (is_mark mark.Comma t.word) _ _ (refl, g) (both (is_mark mark.Semicolon t.word) _ _ g tt)
kept (ConstantValue ∷ ss) types f i t g = both (is_mark mark.Equal t.word) _ _ g (kept ss types f i t g.1)
kept (Constants ∷ ss) types f i t g = both (is_mark mark.Comma t.word) _ _ (refl, (refl, g)) (both (is_mark mark.CloseBrace t.word) _ _ g tt)
kept (Declarator n ∷ ss) types f i t g = declarator_kept types f i n ss t (behind types f i ss t) g.0 g.1 (kept ss types f i t g.1)
kept (Pointer n ∷ ss) types f i t g = both (is_key key.Const t.word) _ _ g (declarator_kept types f i n ss t (behind types f i ss t) g.0 g.1 (kept ss types f i t g.1))
kept (Nameless ∷ ss) types f i t g =
    both (is_mark mark.CloseParenthesis t.word) _ _ g (both (is_key key.Void t.word) _ _ g
    (either (base_of types f i (Declarator naming.May ∷ MoreParameters ∷ Brackets ∷ ss) t.word false) (declarator types f i naming.May (Must (word.Mark mark.CloseParenthesis) ∷ Brackets ∷ ss) t None) (base_of_kept types f i (Declarator naming.May ∷ MoreParameters ∷ Brackets ∷ ss) t.word false refl (refl, g)) (declarator_kept types f i naming.May (Must (word.Mark mark.CloseParenthesis) ∷ Brackets ∷ ss) t None refl (refl, g) tt)))
kept (Brackets ∷ ss) types f i t g = both (is_mark mark.OpenBracket t.word) _ _ g (both (is_mark mark.OpenParenthesis t.word) _ _ g (kept ss types f i t g.1))
kept (Counts ∷ ss) types f i t g = both (is_mark mark.OpenBracket t.word) _ _ g (kept ss types f i t g.1)
kept (Count ∷ ss) types f i t g = both (is_mark mark.CloseBracket t.word) _ _ g (operand_kept types f i mode.Cond (Must (word.Mark mark.CloseBracket) ∷ ss) t.word refl (refl, g))
kept (Parameters ∷ ss) types f i t g = both (is_mark mark.CloseParenthesis t.word) _ _ g (both (is_key key.Void t.word) _ _ g (base_kept types f i (Declarator naming.May ∷ MoreParameters ∷ ss) t refl (refl, g)))
kept (Void ∷ ss) types f i t g =
    both (is_mark mark.CloseParenthesis t.word) _ _ g (both (is_key key.Const t.word) _ _ (refl, (refl, g))
    (declarator_kept types f i naming.May (MoreParameters ∷ ss) t (more_parameters types f i ss t.word) refl g (more_parameters_kept types f i ss t.word g)))
kept (MoreParameters ∷ ss) types f i t g = more_parameters_kept types f i ss t.word g
kept (Entries ∷ ss) types f i t g = both (is_mark mark.Semicolon t.word) _ _ g (declarator_kept types f i naming.Must (Entry ∷ ss) t None refl g tt)
kept (Entry ∷ ss) types f i t g = entry_kept types f i ss t.word g
kept (MoreEntries ∷ ss) types f i t g = more_entries_kept types f i ss t.word g
kept (Initial ∷ ss) types f i t g = initial_kept types f i ss t.word g.0 g.1
kept (MoreInitials ∷ ss) types f i t g = both (is_mark mark.Comma t.word) _ _ g (both (is_mark mark.CloseBrace t.word) _ _ g tt)
kept (NextInitial ∷ ss) types f i t g = both (is_mark mark.CloseBrace t.word) _ _ g (initial_kept types f i (MoreInitials ∷ ss) t.word refl g)
kept (FileEntries ∷ ss) types f i t g = both (is_mark mark.Semicolon t.word) _ _ (last_good i ss g) (declarator_kept types f i naming.Must (FirstEntry ∷ ss) t None refl g tt)
kept (FirstEntry ∷ ss) types f i t g = both (is_mark mark.OpenBrace t.word) _ _ (block_kept types f i ss g) (entry_kept types f i ss t.word (last_good i ss g))
kept (EndTypedef ∷ ss) types f i t g = both (is_mark mark.Semicolon t.word) _ _ g tt
kept (Body ∷ ss) types f i t g =
    either (declaration types f i (Body ∷ ss) t) (or_else (statement types f i (Statements ∷ ss) t.word) (behind types f i ss t)) (both (is_key key.Static t.word) _ _ (refl, g) (base_kept types f i (Entries ∷ Body ∷ ss) t refl g))
    (either (statement types f i (Statements ∷ ss) t.word) (behind types f i ss t) (statement_kept types f i (Statements ∷ ss) t.word (brace_no_else (completion i ss) g.0) g) (kept ss types f i t g.1))
kept (Statements ∷ ss) types f i t g = either (statement types f i (Statements ∷ ss) t.word) (behind types f i ss t) (statement_kept types f i (Statements ∷ ss) t.word (brace_no_else (completion i ss) g.0) g) (kept ss types f i t g.1)
kept (Statement ∷ ss) types f i t g = statement_kept types f i ss t.word g.0 g.1
kept (Else ∷ ss) types f i t g = both (is_key key.Else t.word) _ _ g (kept ss types f i t g.1)
kept (Cases ∷ ss) types f i t g =
    both (is_key key.Case t.word) _ _ (refl, (refl, g)) (both (is_key key.Default t.word) _ _ (refl, g)
    (either (statement types f i (Cases ∷ ss) t.word) (behind types f i ss t) (statement_kept types f i (Cases ∷ ss) t.word (brace_no_else (completion i ss) g.0) g) (kept ss types f i t g.1)))

-- the walk keeps that
good_from : (s last : Stage) (t : Spelled) (ts : List Spelled) (o : Option Stage) → Good s.inside s.pending → step s t.word t.bytes ≡ o → ((n : Stage) → Good n.inside n.pending → run n ts ≡ Some last → Good last.inside last.pending)
    → run_from o (λ n. run n ts) ≡ Some last → Good last.inside last.pending
good_from s last t ts None g h k e = cc
good_from s last t ts (Some n) g h k e = k n (subst GoodIf h (kept s.pending s.types s.fresh s.inside (heard t.word t.bytes) g)) e

pub run_good : (ts : List Spelled) (s last : Stage) → Good s.inside s.pending → run s ts ≡ Some last → Good last.inside last.pending
run_good [] s last g e = subst GoodIf e g
run_good (t ∷ ts) s last g e = good_from s last t ts (step s t.word t.bytes) g refl (λ n. run_good ts n last) e
