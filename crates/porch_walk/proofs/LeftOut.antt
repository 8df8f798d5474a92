-- What is left out in front of a word, and that it shows nothing of uses.
use Rattle.std.proofs.Common.{◌≡◌, ℕ, Bool, true, false, ◌&&◌, ◌||◌, if◌then◌else◌, List, [], ◌∷◌, length, Option, Some, None, refl, sym, ap, ◌∙◌}
use Rattle.porch_tree.specs.declared.word.Keyword.TheVariants as key
use Rattle.porch_tree.specs.declared.word.Mark.{Mark}
use Rattle.porch_tree.specs.declared.word.Mark.TheVariants as mark
use Rattle.porch_tree.specs.declared.word.Word.{Word}
use Rattle.porch_tree.specs.declared.word.Word.TheVariants as word
use Rattle.porch_tree.specs.declared.tree.TagSort.{TagSort}
use Rattle.porch_tree.specs.Pieces.{Piece}
use Rattle.porch_walk.specs.declared.symbol.Mode.TheVariants as mode
use Rattle.porch_walk.specs.declared.symbol.Naming.{Naming}
use Rattle.porch_walk.specs.declared.symbol.Naming.TheVariants as naming
use Rattle.porch_walk.specs.declared.symbol.Kinds.{Kinds}
use Rattle.porch_walk.specs.declared.symbol.Symbol.{Symbol}
use Rattle.porch_walk.specs.declared.symbol.Symbol.TheVariants.{Texts, Suffixes, Behind, Commas, Optional, Kind, Consts, TagBody, ConstantValue, Declarator, Pointer, Brackets, Counts}
use Rattle.porch_walk.specs.declared.level.Level.{Level}
use Rattle.porch_walk.specs.declared.level.Step.TheVariants.{Keep}
use Rattle.porch_walk.specs.Walk.{Stage, or_else, is, is_mark, is_key, is_infix_mark, is_assigning_mark, is_infix, is_assigning, heard, kinds_of, kind as kind_stage, may_lack, behind}
use Rattle.porch_walk.specs.Plans.{Plan, took, raised, up, begins_operand, begins_operand_mark, is_kind, suffix, suffix_mark, operators}
use Rattle.porch_walk.specs.Levels.{read, read_or, under}
use Rattle.porch_walk.proofs.Expressions.{never}
use Rattle.porch_walk.proofs.Passes.{Heads, closes, closes_mark, ends, ends_mark, parts, parts_mark, follows, follows_mark, leaves, behind_base, not_text, differs, at, no_suffix, no_operator, same_operators, ends_are_parts}
use Rattle.porch_walk.proofs.Accepts.{no_const, no_operand, no_kind_of}
use Rattle.porch_walk.proofs.Owing.{Seen, taken_as, Rt, knows_piece, left_out}

pub off : {A : Type 0} {b : Bool} (x y : A) → b ≡ false → (if b then x else y) ≡ y
off x y h = ap (λ (c : Bool). if c then x else y) h

pub pass : {A : Type 0} (x y : Option A) → x ≡ None → or_else x y ≡ y
pass x y h = ap (λ o. or_else o y) h

-- what a part does with a word that it leaves out

no_suffix_mark : (m : Mark) → follows_mark m ≡ true → suffix_mark m ≡ None
no_suffix_mark mark.OpenBracket h = absurd (never (sym h))
no_suffix_mark mark.OpenParenthesis h = absurd (never (sym h))
no_suffix_mark mark.Dot h = absurd (never (sym h))
no_suffix_mark mark.Arrow h = absurd (never (sym h))
no_suffix_mark mark.PlusPlus h = absurd (never (sym h))
no_suffix_mark mark.MinusMinus h = absurd (never (sym h))
no_suffix_mark m h = refl

plain_suffix : (w : Word) → follows w ≡ true → suffix w ≡ None
plain_suffix (word.Mark m) h = no_suffix_mark m h
plain_suffix w h = refl

plain_operator_mark : (m : Mark) → ends_mark m ≡ true → operators (word.Mark m) false ≡ None
plain_operator_mark mark.CloseParenthesis h = refl
plain_operator_mark mark.CloseBracket h = refl
plain_operator_mark mark.CloseBrace h = refl
plain_operator_mark mark.Semicolon h = refl
plain_operator_mark mark.Colon h = refl
plain_operator_mark mark.Comma h = refl
plain_operator_mark m h = absurd (never (sym h))

plain_operator : (w : Word) → ends w ≡ true → operators w false ≡ None
plain_operator (word.Mark m) h = plain_operator_mark m h
plain_operator w h = absurd (never (sym h))

no_assigning_mark : (m : Mark) → parts_mark m ≡ true → is_assigning_mark m ≡ false
no_assigning_mark mark.Equal h = absurd (never (sym h))
no_assigning_mark mark.StarEqual h = absurd (never (sym h))
no_assigning_mark mark.SlashEqual h = absurd (never (sym h))
no_assigning_mark mark.PercentEqual h = absurd (never (sym h))
no_assigning_mark mark.PlusEqual h = absurd (never (sym h))
no_assigning_mark mark.MinusEqual h = absurd (never (sym h))
no_assigning_mark mark.ShiftLeftEqual h = absurd (never (sym h))
no_assigning_mark mark.ShiftRightEqual h = absurd (never (sym h))
no_assigning_mark mark.AndEqual h = absurd (never (sym h))
no_assigning_mark mark.CaretEqual h = absurd (never (sym h))
no_assigning_mark mark.OrEqual h = absurd (never (sym h))
no_assigning_mark m h = refl

no_assigning : (w : Word) → parts w ≡ true → is_assigning w ≡ false
no_assigning (word.Mark m) h = no_assigning_mark m h
no_assigning w h = absurd (never (sym h))

plain_row : (w : Word) → parts w ≡ true → operators w true ≡ operators w false
plain_row w h =
    ap (λ b. if is_infix w then took 0 (up 0 ∷ Keep ∷ []) else if is_mark mark.Question w then raised (took 1 (up 2 ∷ up 2 ∷ up 1 ∷ up 1 ∷ [])) else if b then raised (took 1 (up 1 ∷ [])) else None)
    (no_assigning w h)

no_operand_mark : (m : Mark) → closes_mark m ≡ true → begins_operand_mark m ≡ false
no_operand_mark mark.CloseParenthesis h = refl
no_operand_mark mark.CloseBracket h = refl
no_operand_mark mark.CloseBrace h = refl
no_operand_mark mark.Semicolon h = refl
no_operand_mark mark.Colon h = refl
no_operand_mark m h = absurd (never (sym h))

closes_no_operand : (w : Word) → closes w ≡ true → begins_operand w ≡ false
closes_no_operand (word.Mark m) h = no_operand_mark m h
closes_no_operand w h = absurd (never (sym h))

pub either_off : (a b : Bool) → a ≡ false → b ≡ false → (a || b) ≡ false
either_off a b e g = ap (λ (c : Bool). c || b) e ∙ g

module _ (types : List (List ℕ)) (i : Bool) where
  pub pass_texts : (f : List ℕ) (ss : List Symbol) (l : Level) (ls : List Level) (os : List Seen) (ps : List Piece) → Heads not_text ps → Rt types i f ss ls os ps → Rt types i f (Texts ∷ ss) (l ∷ ls) os ps
  pass_texts f ss l ls os [] h r = absurd h
  pass_texts f ss l ls os (p ∷ ps) h r = left_out types i f Texts ss l ls os p ps (off _ _ (differs not_text p.word word.Text h refl)) (off _ _ (differs not_text p.word word.Text h refl)) r

  pub pass_suffixes : (f : List ℕ) (ss : List Symbol) (l : Level) (ls : List Level) (os : List Seen) (ps : List Piece) → Heads follows ps → Rt types i f ss ls os ps → Rt types i f (Suffixes ∷ ss) (l ∷ ls) os ps
  pass_suffixes f ss l ls os [] h r = absurd h
  pass_suffixes f ss l ls os (p ∷ ps) h r = left_out types i f Suffixes ss l ls os p ps (pass _ _ (no_suffix types i f ss p.word h)) (plain_suffix p.word h) r

  pub as_row : (f : List ℕ) (ss : List Symbol) (l : Level) (ls : List Level) (os : List Seen) (ps : List Piece) → Heads parts ps → Rt types i f (Behind false ∷ ss) (l ∷ ls) os ps → Rt types i f (Behind true ∷ ss) (l ∷ ls) os ps
  as_row f ss l ls os [] h r = absurd h
  as_row f ss l ls os (p ∷ ps) h r =
      taken_as (at types i f (Behind true ∷ ss)) (at types i f (Behind false ∷ ss)) (l ∷ ls) (l ∷ ls) os p ps
      (ap (λ o. or_else o (behind types f i ss (heard p.word p.bytes))) (same_operators types i f ss p.word h))
      (ap (λ o. read_or l (length os) o ls (read (knows_piece types i p) (length os) p.word ss ls)) (plain_row p.word h)) r

  pub pass_row : (f : List ℕ) (ss : List Symbol) (l : Level) (ls : List Level) (os : List Seen) (ps : List Piece) → Heads ends ps → Rt types i f ss ls os ps → Rt types i f (Behind false ∷ ss) (l ∷ ls) os ps
  pass_row f ss l ls os [] h r = absurd h
  pass_row f ss l ls os (p ∷ ps) h r = left_out types i f (Behind false) ss l ls os p ps (pass _ _ (no_operator types i f ss p.word h)) (plain_operator p.word h) r

  pub pass_behind : (u : Bool) (f : List ℕ) (ss : List Symbol) (l : Level) (ls : List Level) (os : List Seen) (ps : List Piece) → Heads ends ps → Rt types i f ss ls os ps → Rt types i f (Behind u ∷ ss) (l ∷ ls) os ps
  pass_behind false f ss l ls os ps h r = pass_row f ss l ls os ps h r
  pass_behind true f ss l ls os ps h r = as_row f ss l ls os ps (ends_are_parts ps h) (pass_row f ss l ls os ps h r)

  pub pass_commas : (f : List ℕ) (ss : List Symbol) (l : Level) (ls : List Level) (os : List Seen) (ps : List Piece) → Heads closes ps → Rt types i f ss ls os ps → Rt types i f (Commas ∷ ss) (l ∷ ls) os ps
  pass_commas f ss l ls os [] h r = absurd h
  pass_commas f ss l ls os (p ∷ ps) h r = left_out types i f Commas ss l ls os p ps (off _ _ (differs closes p.word (word.Mark mark.Comma) h refl)) (off _ _ (differs closes p.word (word.Mark mark.Comma) h refl)) r

  pub pass_optional : (f : List ℕ) (ss : List Symbol) (l : Level) (ls : List Level) (os : List Seen) (ps : List Piece) → Heads closes ps → Rt types i f ss ls os ps → Rt types i f (Optional ∷ ss) (l ∷ ls) os ps
  pass_optional f ss l ls os [] h r = absurd h
  pass_optional f ss l ls os (p ∷ ps) h r = left_out types i f Optional ss l ls os p ps (pass _ _ (no_operand types i f (Commas ∷ ss) p.word h)) (off _ _ (closes_no_operand p.word h)) r

  pub pass_value : (f : List ℕ) (ss : List Symbol) (l : Level) (ls : List Level) (os : List Seen) (ps : List Piece) → Heads ends ps → Rt types i f ss ls os ps → Rt types i f (ConstantValue ∷ ss) (l ∷ ls) os ps
  pass_value f ss l ls os [] h r = absurd h
  pass_value f ss l ls os (p ∷ ps) h r = left_out types i f ConstantValue ss l ls os p ps (off _ _ (differs ends p.word (word.Mark mark.Equal) h refl)) (off _ _ (differs ends p.word (word.Mark mark.Equal) h refl)) r

  pub pass_consts : (f : List ℕ) (ss : List Symbol) (l : Level) (ls : List Level) (os : List Seen) (ps : List Piece) → Heads behind_base ps → Rt types i f ss ls os ps → Rt types i f (Consts ∷ ss) (l ∷ ls) os ps
  pass_consts f ss l ls os [] h r = absurd h
  pass_consts f ss l ls os (p ∷ ps) h r = left_out types i f Consts ss l ls os p ps (off _ _ (differs behind_base p.word (word.Key key.Const) h refl)) (off _ _ (differs behind_base p.word (word.Key key.Const) h refl)) r

  pub pass_kind : (s : Kinds) (f : List ℕ) (ss : List Symbol) (l : Level) (ls : List Level) (os : List Seen) (ps : List Piece) → Heads behind_base ps → Rt types i f ss ls os ps → Rt types i f (Kind s ∷ ss) (l ∷ ls) os ps
  pass_kind s f ss l ls os [] h r = absurd h
  pass_kind s f ss l ls os (p ∷ ps) h r =
      left_out types i f (Kind s) ss l ls os p ps (pass _ _ (ap (kind_stage types f i ss) (no_kind_of types i s p.word h))) (ap (λ o. if is_kind o then took 0 (up 0 ∷ []) else None) (no_kind_of types i s p.word h)) r

  pub pass_tag : (s : TagSort) (f : List ℕ) (ss : List Symbol) (l : Level) (ls : List Level) (os : List Seen) (ps : List Piece) → Heads behind_base ps → Rt types i f ss ls os ps → Rt types i f (TagBody s ∷ ss) (l ∷ ls) os ps
  pass_tag s f ss l ls os [] h r = absurd h
  pass_tag s f ss l ls os (p ∷ ps) h r =
      left_out types i f (TagBody s) ss l ls os p ps (off _ _ (differs behind_base p.word (word.Mark mark.OpenBrace) h refl) ∙ off _ _ (differs behind_base p.word (word.Key key.Const) h refl)) (off _ _ (differs behind_base p.word (word.Mark mark.OpenBrace) h refl) ∙ off _ _ (differs behind_base p.word (word.Key key.Const) h refl)) r

  pub pass_brackets : (f : List ℕ) (ss : List Symbol) (l : Level) (ls : List Level) (os : List Seen) (ps : List Piece) → Heads leaves ps → Rt types i f ss ls os ps → Rt types i f (Brackets ∷ ss) (l ∷ ls) os ps
  pass_brackets f ss l ls os [] h r = absurd h
  pass_brackets f ss l ls os (p ∷ ps) h r =
      left_out types i f Brackets ss l ls os p ps (off _ _ (differs leaves p.word (word.Mark mark.OpenBracket) h refl) ∙ off _ _ (differs leaves p.word (word.Mark mark.OpenParenthesis) h refl)) (off _ _ (either_off _ _ (differs leaves p.word (word.Mark mark.OpenBracket) h refl) (differs leaves p.word (word.Mark mark.OpenParenthesis) h refl))) r

  pub pass_counts : (f : List ℕ) (ss : List Symbol) (l : Level) (ls : List Level) (os : List Seen) (ps : List Piece) → Heads leaves ps → Rt types i f ss ls os ps → Rt types i f (Counts ∷ ss) (l ∷ ls) os ps
  pass_counts f ss l ls os [] h r = absurd h
  pass_counts f ss l ls os (p ∷ ps) h r = left_out types i f Counts ss l ls os p ps (off _ _ (differs leaves p.word (word.Mark mark.OpenBracket) h refl)) (off _ _ (differs leaves p.word (word.Mark mark.OpenBracket) h refl)) r

  pub pass_declarator : (n : Naming) (f : List ℕ) (ss : List Symbol) (l : Level) (ls : List Level) (os : List Seen) (ps : List Piece) → may_lack n ≡ true → Heads leaves ps → Rt types i f ss ls os ps → Rt types i f (Declarator n ∷ ss) (l ∷ ls) os ps
  pass_declarator n f ss l ls os [] k h r = absurd h
  pass_declarator naming.Must f ss l ls os (p ∷ ps) k h r = absurd (never (sym k))
  pass_declarator naming.Typedef f ss l ls os (p ∷ ps) k h r = absurd (never (sym k))
  pass_declarator naming.May f ss l ls os (p ∷ ps) k h r =
      left_out types i f (Declarator naming.May) ss l ls os p ps (off _ _ (differs leaves p.word (word.Mark mark.Star) h refl) ∙ off _ _ (differs leaves p.word word.Name h refl) ∙ off _ _ (differs leaves p.word (word.Mark mark.OpenParenthesis) h refl) ∙ off _ _ (differs leaves p.word (word.Mark mark.OpenBracket) h refl)) (off _ _ (differs leaves p.word (word.Mark mark.Star) h refl) ∙ off _ _ (differs leaves p.word word.Name h refl) ∙ off _ _ (differs leaves p.word (word.Mark mark.OpenParenthesis) h refl) ∙ off _ _ (differs leaves p.word (word.Mark mark.OpenBracket) h refl)) r
  pass_declarator naming.Abstract f ss l ls os (p ∷ ps) k h r =
      left_out types i f (Declarator naming.Abstract) ss l ls os p ps (off _ _ (differs leaves p.word (word.Mark mark.Star) h refl) ∙ off _ _ (differs leaves p.word (word.Mark mark.OpenBracket) h refl)) (off _ _ (differs leaves p.word (word.Mark mark.Star) h refl) ∙ off _ _ (differs leaves p.word (word.Mark mark.OpenBracket) h refl)) r

  -- a piece that isn't `const` behind a star
  pub after_star : (n : Naming) (f : List ℕ) (ss : List Symbol) (l : Level) (ls : List Level) (os : List Seen) (ps : List Piece) → Heads no_const ps → Rt types i f (Declarator n ∷ ss) (l ∷ ls) os ps → Rt types i f (Pointer n ∷ ss) (l ∷ ls) os ps
  after_star n f ss l ls os [] h r = absurd h
  after_star n f ss l ls os (p ∷ ps) h r =
      taken_as (at types i f (Pointer n ∷ ss)) (at types i f (Declarator n ∷ ss)) (l ∷ ls) (l ∷ ls) os p ps (off _ _ (differs no_const p.word (word.Key key.Const) h refl))
      (ap (λ o. read_or l (length os) o ls (read (knows_piece types i p) (length os) p.word ss ls)) (off _ _ (differs no_const p.word (word.Key key.Const) h refl))) r
