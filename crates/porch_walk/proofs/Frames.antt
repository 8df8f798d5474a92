-- A word changes only the front of what is pending, in the same way whatever stands behind it, or leaves
-- all of the front out.
use Rattle.std.proofs.Common.{◌≡◌, ℕ, Bool, true, false, ◌&&◌, if◌then◌else◌, List, [], ◌∷◌, ◌++◌, Option, Some, None, refl, sym, ap, ◌∙◌}
use Rattle.porch_tree.specs.declared.word.Keyword.{Keyword}
use Rattle.porch_tree.specs.declared.word.Keyword.TheVariants as key
use Rattle.porch_tree.specs.declared.word.Mark.{Mark}
use Rattle.porch_tree.specs.declared.word.Mark.TheVariants as mark
use Rattle.porch_tree.specs.declared.word.Word.{Word}
use Rattle.porch_tree.specs.declared.word.Word.TheVariants as word
use Rattle.porch_tree.specs.declared.tree.TagSort.{TagSort}
use Rattle.porch_tree.specs.declared.tree.TagSort.TheVariants as tag_sort
use Rattle.porch_walk.specs.declared.symbol.Mode.{Mode}
use Rattle.porch_walk.specs.declared.symbol.Mode.TheVariants as mode
use Rattle.porch_walk.specs.declared.symbol.Naming.{Naming}
use Rattle.porch_walk.specs.declared.symbol.Naming.TheVariants as naming
use Rattle.porch_walk.specs.declared.symbol.Kinds.{Kinds}
use Rattle.porch_walk.specs.declared.symbol.Symbol.{Symbol}
use Rattle.porch_walk.specs.declared.symbol.Symbol.TheVariants.{Must, Operand, Open, Texts, Suffixes, Behind, Commas, Optional, Base, Kind, Consts, Tag, TagBody, Fields, MoreDeclarators, ConstantValue, Constants, Declarator, Pointer, Nameless, Brackets, Counts, Count, Parameters, Void, MoreParameters, Entries, Entry, MoreEntries, Initial, MoreInitials, NextInitial, FileEntries, FirstEntry, EndTypedef, Body, Statements, Statement, Else, Cases}
use Rattle.porch_walk.specs.Walk.{Stage, is, is_mark, is_key, Heard, names_type, or_else, no_kinds, kinds_behind, kinds_of, takes_type, may_name, may_lack, brackets_of, opened, contents, condition, goes, kind as kind_stage, base_key, base_of, base, unary_mark, unary_key, unary, operand, nested, open_type, open_on, suffix_mark, suffix, is_infix, is_assigning, operators, named, lacking, core, declarator, more_parameters, more_entries, entry, initial, declaration, statement_key, statement_word, statement, behind}
use Rattle.porch_walk.proofs.Passes.{at}
use Rattle.porch_walk.proofs.Expressions.{never}

-- no part of these stands outside of every block
abbrev pub inner : List Symbol → Bool
inner [] = true
inner (FileEntries ∷ ss) = false
inner (FirstEntry ∷ ss) = false
inner (s ∷ ss) = inner ss

-- What a step gives, as a function of what stands behind the front: nothing, a new front, or, where it may
-- leave the front out, what the step gives without it.
pub data Framed (types : List (List ℕ)) (f : List ℕ) (i : Bool) (t : Heard) (may : Bool) (given : List Symbol → Option Stage) : Type 0 where
  nothing : ((ss : List Symbol) → given ss ≡ None) → Framed types f i t may given
  front : (ns : List (List ℕ)) (g : List ℕ) (ys : List Symbol) → inner ys ≡ true → ((ss : List Symbol) → given ss ≡ Some (at ns i g (ys ++ ss))) → Framed types f i t may given
  left_out : may ≡ true → ((ss : List Symbol) → given ss ≡ behind types f i ss t) → Framed types f i t may given

module _ (types : List (List ℕ)) (f : List ℕ) (i : Bool) (t : Heard) where
  same_given : (may : Bool) (A B : List Symbol → Option Stage) → ((ss : List Symbol) → A ss ≡ B ss) → Framed types f i t may B → Framed types f i t may A
  same_given may A B e (nothing h) = nothing (λ ss. e ss ∙ h ss)
  same_given may A B e (front ns g ys k h) = front ns g ys k (λ ss. e ss ∙ h ss)
  same_given may A B e (left_out c h) = left_out c (λ ss. e ss ∙ h ss)

  either : (may : Bool) (A B : List Symbol → Option Stage) → Framed types f i t false A → Framed types f i t may B → Framed types f i t may (λ ss. or_else (A ss) (B ss))
  either may A B (nothing e) q = same_given may (λ ss. or_else (A ss) (B ss)) B (λ ss. ap (λ o. or_else o (B ss)) (e ss)) q
  either may A B (front ns g ys k e) q = front ns g ys k (λ ss. ap (λ o. or_else o (B ss)) (e ss))
  either may A B (left_out c h) q = absurd (never (sym c))

  module _ (may : Bool) where
    both : (b : Bool) (A B : List Symbol → Option Stage) → Framed types f i t may A → Framed types f i t may B → Framed types f i t may (λ ss. if b then A ss else B ss)
    both true A B p q = p
    both false A B p q = q

    to : (ys : List Symbol) → inner ys ≡ true → Framed types f i t may (λ ss. goes types f i (ys ++ ss))
    to ys h = front types f ys h (λ ss. refl)

    no : Framed types f i t may (λ ss. None)
    no = nothing (λ ss. refl)

    kind_framed : (xs : List Symbol) (o : Option Kinds) → inner xs ≡ true → Framed types f i t may (λ ss. kind_stage types f i (xs ++ ss) o)
    kind_framed xs None h = no
    kind_framed xs (Some s) h = to (Kind s ∷ xs) h

    base_key_framed : (xs : List Symbol) (k : Keyword) → inner xs ≡ true → Framed types f i t may (λ ss. base_key types f i (xs ++ ss) k)
    base_key_framed xs key.Const h = to (Base ∷ xs) h
    base_key_framed xs key.Void h = to (Consts ∷ xs) h
    base_key_framed xs key.Struct h = to (Tag tag_sort.Struct ∷ xs) h
    base_key_framed xs key.Enum h = to (Tag tag_sort.Enum ∷ xs) h
    base_key_framed xs k h = kind_framed xs (kinds_behind no_kinds k) h

    base_of_framed : (xs : List Symbol) (w : Word) (b : Bool) → inner xs ≡ true → Framed types f i t may (λ ss. base_of types f i (xs ++ ss) w b)
    base_of_framed xs (word.Key k) b h = base_key_framed xs k h
    base_of_framed xs word.Name b h = both b _ _ (to (Consts ∷ xs) h) no
    base_of_framed xs w b h = no

    base_framed : (xs : List Symbol) (v : Heard) → inner xs ≡ true → Framed types f i t may (λ ss. base types f i (xs ++ ss) v)
    base_framed xs v h = base_of_framed xs v.word (names_type types v.bytes) h

    unary_mark_framed : (xs : List Symbol) (m : Mark) → inner xs ≡ true → Framed types f i t may (λ ss. unary_mark types f i (xs ++ ss) m)
    unary_mark_framed xs mark.PlusPlus h = to (Operand mode.Unary ∷ xs) h
    unary_mark_framed xs mark.MinusMinus h = to (Operand mode.Unary ∷ xs) h
    unary_mark_framed xs mark.And h = to (Operand mode.Cast ∷ xs) h
    unary_mark_framed xs mark.Star h = to (Operand mode.Cast ∷ xs) h
    unary_mark_framed xs mark.Plus h = to (Operand mode.Cast ∷ xs) h
    unary_mark_framed xs mark.Minus h = to (Operand mode.Cast ∷ xs) h
    unary_mark_framed xs mark.Tilde h = to (Operand mode.Cast ∷ xs) h
    unary_mark_framed xs mark.Not h = to (Operand mode.Cast ∷ xs) h
    unary_mark_framed xs m h = no

    unary_key_framed : (xs : List Symbol) (k : Keyword) → inner xs ≡ true → Framed types f i t may (λ ss. unary_key types f i (xs ++ ss) k)
    unary_key_framed xs key.Sizeof h = to (Operand mode.Size ∷ xs) h
    unary_key_framed xs k h = no

    unary_framed : (xs : List Symbol) (w : Word) → inner xs ≡ true → Framed types f i t may (λ ss. unary types f i (xs ++ ss) w)
    unary_framed xs word.Name h = to (Suffixes ∷ xs) h
    unary_framed xs word.Whole h = to (Suffixes ∷ xs) h
    unary_framed xs word.Character h = to (Suffixes ∷ xs) h
    unary_framed xs word.Text h = to (Texts ∷ Suffixes ∷ xs) h
    unary_framed xs (word.Key k) h = unary_key_framed xs k h
    unary_framed xs (word.Mark m) h = unary_mark_framed xs m h

    operand_framed : (m : Mode) (xs : List Symbol) (w : Word) → inner xs ≡ true → Framed types f i t may (λ ss. operand types f i m (xs ++ ss) w)
    operand_framed mode.Assign xs w h = both (is_mark mark.OpenParenthesis w) _ _ (to (Open mode.Assign ∷ xs) h) (unary_framed (Behind true ∷ xs) w h)
    operand_framed mode.Cond xs w h = both (is_mark mark.OpenParenthesis w) _ _ (to (Open mode.Cond ∷ xs) h) (unary_framed (Behind false ∷ xs) w h)
    operand_framed mode.Cast xs w h = both (is_mark mark.OpenParenthesis w) _ _ (to (Open mode.Cast ∷ xs) h) (unary_framed xs w h)
    operand_framed mode.Unary xs w h = both (is_mark mark.OpenParenthesis w) _ _ (to (Open mode.Unary ∷ xs) h) (unary_framed xs w h)
    operand_framed mode.Size xs w h = both (is_mark mark.OpenParenthesis w) _ _ (to (Open mode.Size ∷ xs) h) (unary_framed xs w h)

    nested_framed : (m : Mode) (xs : List Symbol) (w : Word) → inner xs ≡ true → Framed types f i t may (λ ss. nested types f i m (xs ++ ss) w)
    nested_framed mode.Assign xs w h = operand_framed mode.Assign (Commas ∷ Must (word.Mark mark.CloseParenthesis) ∷ Suffixes ∷ Behind true ∷ xs) w h
    nested_framed mode.Cond xs w h = operand_framed mode.Assign (Commas ∷ Must (word.Mark mark.CloseParenthesis) ∷ Suffixes ∷ Behind false ∷ xs) w h
    nested_framed mode.Cast xs w h = operand_framed mode.Assign (Commas ∷ Must (word.Mark mark.CloseParenthesis) ∷ Suffixes ∷ xs) w h
    nested_framed mode.Unary xs w h = operand_framed mode.Assign (Commas ∷ Must (word.Mark mark.CloseParenthesis) ∷ Suffixes ∷ xs) w h
    nested_framed mode.Size xs w h = operand_framed mode.Assign (Commas ∷ Must (word.Mark mark.CloseParenthesis) ∷ Suffixes ∷ xs) w h

    open_type_framed : (m : Mode) (xs : List Symbol) (v : Heard) → inner xs ≡ true → Framed types f i t may (λ ss. open_type types f i m (xs ++ ss) v)
    open_type_framed mode.Assign xs v h = base_framed (Declarator naming.Abstract ∷ Must (word.Mark mark.CloseParenthesis) ∷ Operand mode.Cast ∷ Behind false ∷ xs) v h
    open_type_framed mode.Cond xs v h = base_framed (Declarator naming.Abstract ∷ Must (word.Mark mark.CloseParenthesis) ∷ Operand mode.Cast ∷ Behind false ∷ xs) v h
    open_type_framed mode.Size xs v h = base_framed (Declarator naming.Abstract ∷ Must (word.Mark mark.CloseParenthesis) ∷ xs) v h
    open_type_framed mode.Cast xs v h = base_framed (Declarator naming.Abstract ∷ Must (word.Mark mark.CloseParenthesis) ∷ Operand mode.Cast ∷ xs) v h
    open_type_framed mode.Unary xs v h = base_framed (Declarator naming.Abstract ∷ Must (word.Mark mark.CloseParenthesis) ∷ Operand mode.Cast ∷ xs) v h

    suffix_mark_framed : (xs : List Symbol) (m : Mark) → inner xs ≡ true → Framed types f i t may (λ ss. suffix_mark types f i (xs ++ ss) m)
    suffix_mark_framed xs mark.OpenBracket h = to (Operand mode.Assign ∷ Commas ∷ Must (word.Mark mark.CloseBracket) ∷ Suffixes ∷ xs) h
    suffix_mark_framed xs mark.OpenParenthesis h = to (Optional ∷ Must (word.Mark mark.CloseParenthesis) ∷ Suffixes ∷ xs) h
    suffix_mark_framed xs mark.Dot h = to (Must word.Name ∷ Suffixes ∷ xs) h
    suffix_mark_framed xs mark.Arrow h = to (Must word.Name ∷ Suffixes ∷ xs) h
    suffix_mark_framed xs mark.PlusPlus h = to (Suffixes ∷ xs) h
    suffix_mark_framed xs mark.MinusMinus h = to (Suffixes ∷ xs) h
    suffix_mark_framed xs m h = no

    suffix_framed : (xs : List Symbol) (w : Word) → inner xs ≡ true → Framed types f i t may (λ ss. suffix types f i (xs ++ ss) w)
    suffix_framed xs (word.Mark m) h = suffix_mark_framed xs m h
    suffix_framed xs w h = no

    operators_framed : (u : Bool) (xs : List Symbol) (w : Word) → inner xs ≡ true → Framed types f i t may (λ ss. operators types f i u (xs ++ ss) w)
    operators_framed u xs w h =
        both (is_infix w) _ _ (to (Operand mode.Cast ∷ Behind false ∷ xs) h)
        (both (is_mark mark.Question w) _ _ (to (Operand mode.Assign ∷ Commas ∷ Must (word.Mark mark.Colon) ∷ Operand mode.Cond ∷ xs) h)
        (both (u && is_assigning w) _ _ (to (Operand mode.Assign ∷ xs) h) no))

    named_framed : (n : Naming) (xs : List Symbol) (bs : List ℕ) → inner xs ≡ true → Framed types f i t may (λ ss. named types f i n (xs ++ ss) bs)
    named_framed naming.Must xs bs h = to xs h
    named_framed naming.May xs bs h = to xs h
    named_framed naming.Typedef xs bs h = front types bs xs h (λ ss. refl)
    named_framed naming.Abstract xs bs h = to xs h

    opened_framed : (n : Naming) (xs : List Symbol) → inner xs ≡ true → Framed types f i t may (λ ss. goes types f i (opened n (xs ++ ss)))
    opened_framed naming.May xs h = to (Nameless ∷ xs) h
    opened_framed naming.Must xs h = to (Declarator naming.Must ∷ Must (word.Mark mark.CloseParenthesis) ∷ Brackets ∷ xs) h
    opened_framed naming.Typedef xs h = to (Declarator naming.Typedef ∷ Must (word.Mark mark.CloseParenthesis) ∷ Brackets ∷ xs) h
    opened_framed naming.Abstract xs h = to (Declarator naming.Abstract ∷ Must (word.Mark mark.CloseParenthesis) ∷ Brackets ∷ xs) h

    counted_framed : (n : Naming) (xs : List Symbol) → inner xs ≡ true → Framed types f i t may (λ ss. goes types f i (Count ∷ brackets_of n ∷ (xs ++ ss)))
    counted_framed naming.Abstract xs h = to (Count ∷ Counts ∷ xs) h
    counted_framed naming.May xs h = to (Count ∷ Brackets ∷ xs) h
    counted_framed naming.Must xs h = to (Count ∷ Brackets ∷ xs) h
    counted_framed naming.Typedef xs h = to (Count ∷ Brackets ∷ xs) h

    contents_framed : (s : TagSort) (xs : List Symbol) → inner xs ≡ true → Framed types f i t may (λ ss. goes types f i (contents s (xs ++ ss)))
    contents_framed tag_sort.Struct xs h = to (Base ∷ Declarator naming.Must ∷ MoreDeclarators ∷ Fields ∷ Consts ∷ xs) h
    contents_framed tag_sort.Enum xs h = to (Must word.Name ∷ ConstantValue ∷ Constants ∷ Consts ∷ xs) h

    lacking_framed : (b : Bool) (n : Naming) (xs : List Symbol) (w : Word) (other : List Symbol → Option Stage) → inner xs ≡ true → Framed types f i t may other → Framed types f i t may (λ ss. lacking types f i b n (xs ++ ss) w (other ss))
    lacking_framed true n xs w other h o = both (is_mark mark.OpenBracket w) _ other (counted_framed n xs h) o
    lacking_framed false n xs w other h o = no

    core_framed : (b : Bool) (n : Naming) (xs : List Symbol) (v : Heard) (other : List Symbol → Option Stage) → inner xs ≡ true → Framed types f i t may other → Framed types f i t may (λ ss. core types f i b n (xs ++ ss) v (other ss))
    core_framed true n xs v other h o =
        both (is v.word word.Name) _ _ (named_framed n (Brackets ∷ xs) v.bytes h)
        (both (is_mark mark.OpenParenthesis v.word) _ _ (opened_framed n xs h) (lacking_framed (may_lack n) n xs v.word other h o))
    core_framed false n xs v other h o = lacking_framed (may_lack n) n xs v.word other h o

    declarator_framed : (n : Naming) (xs : List Symbol) (v : Heard) (other : List Symbol → Option Stage) → inner xs ≡ true → Framed types f i t may other → Framed types f i t may (λ ss. declarator types f i n (xs ++ ss) v (other ss))
    declarator_framed n xs v other h o = both (is_mark mark.Star v.word) _ _ (to (Pointer n ∷ xs) h) (core_framed (may_name n) n xs v other h o)

    more_parameters_framed : (xs : List Symbol) (w : Word) → inner xs ≡ true → Framed types f i t may (λ ss. more_parameters types f i (xs ++ ss) w)
    more_parameters_framed xs w h =
        both (is_mark mark.Comma w) _ _ (to (Base ∷ Declarator naming.May ∷ MoreParameters ∷ xs) h) (both (is_mark mark.CloseParenthesis w) _ _ (to xs h) no)

    more_entries_framed : (xs : List Symbol) (w : Word) → inner xs ≡ true → Framed types f i t may (λ ss. more_entries types f i (xs ++ ss) w)
    more_entries_framed xs w h = both (is_mark mark.Comma w) _ _ (to (Declarator naming.Must ∷ Entry ∷ xs) h) (both (is_mark mark.Semicolon w) _ _ (to xs h) no)

    entry_framed : (xs : List Symbol) (w : Word) → inner xs ≡ true → Framed types f i t may (λ ss. entry types f i (xs ++ ss) w)
    entry_framed xs w h = both (is_mark mark.Equal w) _ _ (to (Initial ∷ MoreEntries ∷ xs) h) (more_entries_framed xs w h)

    initial_framed : (xs : List Symbol) (w : Word) → inner xs ≡ true → Framed types f i t may (λ ss. initial types f i (xs ++ ss) w)
    initial_framed xs w h = both (is_mark mark.OpenBrace w) _ _ (to (Initial ∷ MoreInitials ∷ xs) h) (operand_framed mode.Assign xs w h)

    statement_key_framed : (xs : List Symbol) (k : Keyword) → inner xs ≡ true → Framed types f i t may (λ ss. statement_key types f i (xs ++ ss) k)
    statement_key_framed xs key.If h = to (condition (Statement ∷ Else ∷ xs)) h
    statement_key_framed xs key.While h = to (condition (Statement ∷ xs)) h
    statement_key_framed xs key.Do h = to (Statement ∷ Must (word.Key key.While) ∷ condition (Must (word.Mark mark.Semicolon) ∷ xs)) h
    statement_key_framed xs key.For h =
        to (Must (word.Mark mark.OpenParenthesis) ∷ Optional ∷ Must (word.Mark mark.Semicolon) ∷ Optional ∷ Must (word.Mark mark.Semicolon) ∷ Optional
        ∷ Must (word.Mark mark.CloseParenthesis) ∷ Statement ∷ xs) h
    statement_key_framed xs key.Switch h = to (condition (Must (word.Mark mark.OpenBrace) ∷ Cases ∷ Must (word.Mark mark.CloseBrace) ∷ xs)) h
    statement_key_framed xs key.Break h = to (Must (word.Mark mark.Semicolon) ∷ xs) h
    statement_key_framed xs key.Continue h = to (Must (word.Mark mark.Semicolon) ∷ xs) h
    statement_key_framed xs key.Return h = to (Optional ∷ Must (word.Mark mark.Semicolon) ∷ xs) h
    statement_key_framed xs k h = no

    marks_framed : (xs : List Symbol) (w : Word) → inner xs ≡ true
        → Framed types f i t may (λ ss. if is_mark mark.OpenBrace w then goes types f i (Body ∷ Must (word.Mark mark.CloseBrace) ∷ (xs ++ ss)) else if is_mark mark.Semicolon w then goes types f i (xs ++ ss) else None)
    marks_framed xs w h = both (is_mark mark.OpenBrace w) _ _ (to (Body ∷ Must (word.Mark mark.CloseBrace) ∷ xs) h) (both (is_mark mark.Semicolon w) _ _ (to xs h) no)

    statement_word_framed : (xs : List Symbol) (w : Word) → inner xs ≡ true → Framed types f i t may (λ ss. statement_word types f i (xs ++ ss) w)
    statement_word_framed xs (word.Key k) h = statement_key_framed xs k h
    statement_word_framed xs (word.Mark m) h = marks_framed xs (word.Mark m) h
    statement_word_framed xs word.Name h = no
    statement_word_framed xs w h = no

    declaration_framed : (xs : List Symbol) (v : Heard) → inner xs ≡ true → Framed types f i t may (λ ss. declaration types f i (xs ++ ss) v)
    declaration_framed xs v h = both (is_key key.Static v.word) _ _ (to (Base ∷ Entries ∷ xs) h) (base_framed (Entries ∷ xs) v h)

  open_framed : (may b : Bool) (m : Mode) (xs : List Symbol) (v : Heard) → inner xs ≡ true → Framed types f i t may (λ ss. open_on types f i b m (xs ++ ss) v)
  open_framed may true m xs v h =
      either may (λ ss. open_type types f i m (xs ++ ss) v) (λ ss. nested types f i m (xs ++ ss) v.word) (open_type_framed false m xs v h) (nested_framed may m xs v.word h)
  open_framed may false m xs v h = nested_framed may m xs v.word h

  statement_framed : (may : Bool) (xs : List Symbol) (w : Word) → inner xs ≡ true → Framed types f i t may (λ ss. statement types f i (xs ++ ss) w)
  statement_framed may xs w h =
      either may (λ ss. statement_word types f i (xs ++ ss) w) (λ ss. operand types f i mode.Assign (Commas ∷ Must (word.Mark mark.Semicolon) ∷ (xs ++ ss)) w)
      (statement_word_framed false xs w h) (operand_framed may mode.Assign (Commas ∷ Must (word.Mark mark.Semicolon) ∷ xs) w h)

  pub framed : (xs : List Symbol) → inner xs ≡ true → Framed types f i t true (λ ss. behind types f i (xs ++ ss) t)
  framed [] h = left_out refl (λ ss. refl)
  framed (Must w ∷ xs) h = both true (is t.word w) _ _ (to true xs h) (no true)
  framed (Operand m ∷ xs) h = operand_framed true m xs t.word h
  framed (Open m ∷ xs) h = open_framed true (takes_type m) m xs t h
  framed (Texts ∷ xs) h = both true (is t.word word.Text) _ _ (to true (Texts ∷ xs) h) (framed xs h)
  framed (Suffixes ∷ xs) h = either true (λ ss. suffix types f i (xs ++ ss) t.word) (λ ss. behind types f i (xs ++ ss) t) (suffix_framed false xs t.word h) (framed xs h)
  framed (Behind u ∷ xs) h = either true (λ ss. operators types f i u (xs ++ ss) t.word) (λ ss. behind types f i (xs ++ ss) t) (operators_framed false u xs t.word h) (framed xs h)
  framed (Commas ∷ xs) h = both true (is_mark mark.Comma t.word) _ _ (to true (Operand mode.Assign ∷ Commas ∷ xs) h) (framed xs h)
  framed (Optional ∷ xs) h =
      either true (λ ss. operand types f i mode.Assign (Commas ∷ (xs ++ ss)) t.word) (λ ss. behind types f i (xs ++ ss) t) (operand_framed false mode.Assign (Commas ∷ xs) t.word h) (framed xs h)
  framed (Base ∷ xs) h = base_framed true xs t h
  framed (Kind s ∷ xs) h = either true (λ ss. kind_stage types f i (xs ++ ss) (kinds_of s t.word)) (λ ss. behind types f i (xs ++ ss) t) (kind_framed false xs (kinds_of s t.word) h) (framed xs h)
  framed (Consts ∷ xs) h = both true (is_key key.Const t.word) _ _ (to true (Consts ∷ xs) h) (framed xs h)
  framed (Tag s ∷ xs) h = both true (is t.word word.Name) _ _ (to true (TagBody s ∷ xs) h) (both true (is_mark mark.OpenBrace t.word) _ _ (contents_framed true s xs h) (no true))
  framed (TagBody s ∷ xs) h = both true (is_mark mark.OpenBrace t.word) _ _ (contents_framed true s xs h) (both true (is_key key.Const t.word) _ _ (to true (Consts ∷ xs) h) (framed xs h))
  framed (Fields ∷ xs) h = both true (is_mark mark.CloseBrace t.word) _ _ (to true xs h) (base_framed true (Declarator naming.Must ∷ MoreDeclarators ∷ Fields ∷ xs) t h)
  framed (MoreDeclarators ∷ xs) h = both true (is_mark mark.Comma t.word) _ _ (to true (Declarator naming.Must ∷ MoreDeclarators ∷ xs) h) (both true (is_mark mark.Semicolon t.word) _ _ (to true xs h) (no true))
  framed (ConstantValue ∷ xs) h = both true (is_mark mark.Equal t.word) _ _ (to true (Operand mode.Cond ∷ xs) h) (framed xs h)
  framed (Constants ∷ xs) h = both true (is_mark mark.Comma t.word) _ _ (to true (Must word.Name ∷ ConstantValue ∷ Constants ∷ xs) h) (both true (is_mark mark.CloseBrace t.word) _ _ (to true xs h) (no true))
  framed (Declarator n ∷ xs) h = declarator_framed true n xs t (λ ss. behind types f i (xs ++ ss) t) h (framed xs h)
  framed (Pointer n ∷ xs) h = both true (is_key key.Const t.word) _ _ (to true (Pointer n ∷ xs) h) (declarator_framed true n xs t (λ ss. behind types f i (xs ++ ss) t) h (framed xs h))
  framed (Nameless ∷ xs) h =
      both true (is_mark mark.CloseParenthesis t.word) _ _ (to true (Brackets ∷ xs) h) (both true (is_key key.Void t.word) _ _ (to true (Void ∷ Brackets ∷ xs) h)
      (either true (λ ss. base_of types f i (Declarator naming.May ∷ MoreParameters ∷ Brackets ∷ (xs ++ ss)) t.word false) (λ ss. declarator types f i naming.May (Must (word.Mark mark.CloseParenthesis) ∷ Brackets ∷ (xs ++ ss)) t None)
      (base_of_framed false (Declarator naming.May ∷ MoreParameters ∷ Brackets ∷ xs) t.word false h) (declarator_framed true naming.May (Must (word.Mark mark.CloseParenthesis) ∷ Brackets ∷ xs) t (λ ss. None) h (no true))))
  framed (Brackets ∷ xs) h = both true (is_mark mark.OpenBracket t.word) _ _ (to true (Count ∷ Brackets ∷ xs) h) (both true (is_mark mark.OpenParenthesis t.word) _ _ (to true (Parameters ∷ Brackets ∷ xs) h) (framed xs h))
  framed (Counts ∷ xs) h = both true (is_mark mark.OpenBracket t.word) _ _ (to true (Count ∷ Counts ∷ xs) h) (framed xs h)
  framed (Count ∷ xs) h = both true (is_mark mark.CloseBracket t.word) _ _ (to true xs h) (operand_framed true mode.Cond (Must (word.Mark mark.CloseBracket) ∷ xs) t.word h)
  framed (Parameters ∷ xs) h = both true (is_mark mark.CloseParenthesis t.word) _ _ (to true xs h) (both true (is_key key.Void t.word) _ _ (to true (Void ∷ xs) h) (base_framed true (Declarator naming.May ∷ MoreParameters ∷ xs) t h))
  framed (Void ∷ xs) h =
      both true (is_mark mark.CloseParenthesis t.word) _ _ (to true xs h) (both true (is_key key.Const t.word) _ _ (to true (Consts ∷ Declarator naming.May ∷ MoreParameters ∷ xs) h)
      (declarator_framed true naming.May (MoreParameters ∷ xs) t (λ ss. more_parameters types f i (xs ++ ss) t.word) h (more_parameters_framed true xs t.word h)))
  framed (MoreParameters ∷ xs) h = more_parameters_framed true xs t.word h
  framed (Entries ∷ xs) h = both true (is_mark mark.Semicolon t.word) _ _ (to true xs h) (declarator_framed true naming.Must (Entry ∷ xs) t (λ ss. None) h (no true))
  framed (Entry ∷ xs) h = entry_framed true xs t.word h
  framed (MoreEntries ∷ xs) h = more_entries_framed true xs t.word h
  framed (Initial ∷ xs) h = initial_framed true xs t.word h
  framed (MoreInitials ∷ xs) h = both true (is_mark mark.Comma t.word) _ _ (to true (NextInitial ∷ xs) h) (both true (is_mark mark.CloseBrace t.word) _ _ (to true xs h) (no true))
  framed (NextInitial ∷ xs) h = both true (is_mark mark.CloseBrace t.word) _ _ (to true xs h) (initial_framed true (MoreInitials ∷ xs) t.word h)
  framed (FileEntries ∷ xs) h = absurd (never (sym h))
  framed (FirstEntry ∷ xs) h = absurd (never (sym h))
  framed (EndTypedef ∷ xs) h = both true (is_mark mark.Semicolon t.word) _ _ (front (f ∷ types) f xs h (λ ss. refl)) (no true)
  framed (Body ∷ xs) h =
      either true (λ ss. declaration types f i (Body ∷ (xs ++ ss)) t) (λ ss. or_else (statement types f i (Statements ∷ (xs ++ ss)) t.word) (behind types f i (xs ++ ss) t)) (declaration_framed false (Body ∷ xs) t h)
      (either true (λ ss. statement types f i (Statements ∷ (xs ++ ss)) t.word) (λ ss. behind types f i (xs ++ ss) t) (statement_framed false (Statements ∷ xs) t.word h) (framed xs h))
  framed (Statements ∷ xs) h =
      either true (λ ss. statement types f i (Statements ∷ (xs ++ ss)) t.word) (λ ss. behind types f i (xs ++ ss) t) (statement_framed false (Statements ∷ xs) t.word h) (framed xs h)
  framed (Statement ∷ xs) h = statement_framed true xs t.word h
  framed (Else ∷ xs) h = both true (is_key key.Else t.word) _ _ (to true (Statement ∷ xs) h) (framed xs h)
  framed (Cases ∷ xs) h =
      both true (is_key key.Case t.word) _ _ (to true (Operand mode.Cond ∷ Must (word.Mark mark.Colon) ∷ Cases ∷ xs) h) (both true (is_key key.Default t.word) _ _ (to true (Must (word.Mark mark.Colon) ∷ Cases ∷ xs) h)
      (either true (λ ss. statement types f i (Cases ∷ (xs ++ ss)) t.word) (λ ss. behind types f i (xs ++ ss) t) (statement_framed false (Cases ∷ xs) t.word h) (framed xs h)))
