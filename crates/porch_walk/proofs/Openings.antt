-- What a part that awaits one of several things does with the first token of one of them: what that thing does
-- at its own level.
use Rattle.std.proofs.Common.{◌≡◌, ℕ, zero, suc, ◌+◌, ◌-◌, ◌⊎◌, inl, inr, Bool, true, false, ◌&&◌, if◌then◌else◌, List, [], ◌∷◌, ◌++◌, map, length, Option, Some, None, refl, sym, ap, ◌∙◌, arith}
use Rattle.porch_tree.specs.declared.word.Keyword.{Keyword}
use Rattle.porch_tree.specs.declared.word.Keyword.TheVariants as key
use Rattle.porch_tree.specs.declared.word.Mark.{Mark}
use Rattle.porch_tree.specs.declared.word.Mark.TheVariants as mark
use Rattle.porch_tree.specs.declared.word.Word.{Word}
use Rattle.porch_tree.specs.declared.word.Word.TheVariants as word
use Rattle.porch_tree.specs.declared.tree.TagSort.TheVariants as tag_sort
use Rattle.porch_tree.specs.Mirror.{Expr, Base, kind, void, typedef_name, tag, structure, enumeration, Declarator as Declared, declarator as declared, Core, lacking as lacking_core, named as named_core, inner, no_brackets, Params, no_params, with_param, param, TypeName, type_name}
use Rattle.porch_tree.specs.Pieces.{Piece, mark as mark_piece, piece, expr_pieces, base_pieces, const_pieces, more_params_pieces, declarator_pieces, type_name_pieces}
use Rattle.porch_tree.specs.Formed.{IsBase, IsNotVoid, BeginsParams, HasTokens, IsTypeName, IsDeclarator}
use Rattle.porch_tree.specs.Names.{first_name, IsNoType, ReadsBase, ReadsTypeName}
use Rattle.porch_walk.specs.declared.symbol.Mode.{Mode}
use Rattle.porch_walk.specs.declared.symbol.Mode.TheVariants as mode
use Rattle.porch_walk.specs.declared.symbol.Naming.TheVariants as naming
use Rattle.porch_walk.specs.declared.symbol.Kinds.{Kinds}
use Rattle.porch_walk.specs.declared.symbol.Symbol.{Symbol}
use Rattle.porch_walk.specs.declared.symbol.Symbol.TheVariants.{Must, Operand, Open, Suffixes, Commas, Optional, Base as Base_to_come, Fields, MoreDeclarators, Declarator, Nameless, Brackets, Count, Parameters, Void, MoreParameters}
use Rattle.porch_walk.specs.declared.level.Level.{Level}
use Rattle.porch_walk.specs.declared.level.Step.{Step}
use Rattle.porch_walk.specs.Walk.{Stage, or_else, is, is_mark, is_key, heard, name_bytes, names_type, no_kinds, kinds_behind, takes_type, behind_type as behind_type_symbols, rest_of, operand as operand_stage, nested as nested_stage, open_type as open_type_stage, open_on, base, base_of, declarator as declarator_stage, more_parameters as more_parameters_stage, behind}
use Rattle.porch_walk.specs.Plans.{Plan, took, raised, ahead, up, begins_operand, begins_operand_mark, begins_base as begins_base_plan, begins_base_key, rest, rest_kept, opening, behind_type, open_type, late, operand, nested, opened, declarator, nameless, behind_void, more_parameters, count}
use Rattle.porch_walk.specs.Levels.{level, placed, Read, reading_by, read_or, read}
use Rattle.porch_walk.proofs.KindWords.{fits, fits_from, kind_fits}
use Rattle.porch_walk.proofs.Expressions.{never}
use Rattle.porch_walk.proofs.Passes.{begins, begins_mark, begins_key, base_word, begins_base, starts, starts_mark, FirstOf, differs, decided, at, expr_first, no_base, bytes_at, not_known}
use Rattle.porch_walk.proofs.Words.{same}
use Rattle.porch_walk.proofs.Accepts.{StartOf, base_first, base_there, operand_there, plain_when, starts_close, declarator_first, kind_start, kind_no_void, start_word, Params_first}
use Rattle.porch_walk.proofs.Owing.{Seen, seen, deepen, IsRight, reading_at, seen_by, right_from, taken_as, taken_like, Rt, knows_piece}
use Rattle.porch_walk.proofs.LeftOut.{off, pass}

-- the levels behind an operand
abbrev pub front : Mode → Level → List Level → List Level
front mode.Assign b ls = b ∷ ls
front mode.Cond b ls = b ∷ ls
front m b ls = ls

pub rest_on : (m : Mode) (P : List Level → Type 0) (l : Level) (n d : ℕ) (ls : List Level) → P (front m (level (l.uses + d) n) ls) → P (map (placed l n) (rest m d) ++ ls)
rest_on mode.Assign P l n d ls h = h
rest_on mode.Cond P l n d ls h = h
rest_on mode.Cast P l n d ls h = h
rest_on mode.Unary P l n d ls h = h
rest_on mode.Size P l n d ls h = h

pub some : {A : Type 0} (x y : Option A) → (x ≡ None → ⊥) → or_else x y ≡ x
some None y h = absurd (h refl)
some (Some a) y h = refl

and_off : (a b : Bool) → (a ≡ true → b ≡ false) → (a && b) ≡ false
and_off true b h = h refl
and_off false b h = refl

pub met : {A : Type 0} {b : Bool} (x y : A) → b ≡ true → (if b then x else y) ≡ x
met x y h = ap (λ (c : Bool). if c then x else y) h

-- Two readings are one whose numbers are.

reads : (a b back : ℕ) (ls ms : List Level) → a ≡ b → ls ≡ ms
    → ◌≡◌ {A = Read} (record { reading = record { uses = a; back = back }; levels = ls }) (record { reading = record { uses = b; back = back }; levels = ms })
reads a b back ls ms e g =
    ap (λ (n : ℕ). record { reading = record { uses = n; back = back }; levels = ls }) e
    ∙ ap (λ (qs : List Level). record { reading = record { uses = b; back = back }; levels = qs }) g

put : (a b n : ℕ) (ls ms : List Level) → a ≡ b → ls ≡ ms → ◌≡◌ {A = List Level} (level a n ∷ ls) (level b n ∷ ms)
put a b n ls ms e g = ap (λ (u : ℕ). level u n ∷ ls) e ∙ ap (λ qs. level b n ∷ qs) g

nearer0 : (u a : ℕ) → u + a ≡ u + a + 0
nearer0 u a = omega arith

nearer1 : (u a : ℕ) → u + (a + 1) ≡ u + a + 1
nearer1 u a = omega arith

zero_one : (u : ℕ) → u + 1 ≡ u + 0 + 1
zero_one u = omega arith

none_more : (u : ℕ) → u ≡ u + 0
none_more u = omega arith

-- An operand so many uses deeper is one at a level that is so much deeper.

moved_by : (b c : Bool) (a : ℕ) (more : List Step) (l : Level) (n : ℕ) (ls : List Level) (x y : Read)
    → read_or l n (ahead (if b then took (a + 1) (up a ∷ []) else if c then took (a + 1) (up (a + 1) ∷ up (a + 1) ∷ up a ∷ []) else took (a + 1) (up (a + 1) ∷ up a ∷ [])) more) ls x
    ≡ read_or (level (l.uses + a) n) n (if b then took 1 (up 0 ∷ []) else if c then took 1 (up 1 ∷ up 1 ∷ up 0 ∷ []) else took 1 (up 1 ∷ up 0 ∷ [])) (map (placed l n) more ++ ls) y
moved_by true c a more l n ls x y = reads _ _ _ _ _ (nearer1 l.uses a) (put _ _ _ _ _ (nearer0 l.uses a) refl)
moved_by false true a more l n ls x y =
    let e = nearer1 l.uses a in
    reads _ _ _ _ _ e (put _ _ _ _ _ e (put _ _ _ _ _ e (put _ _ _ _ _ (nearer0 l.uses a) refl)))
moved_by false false a more l n ls x y =
    let e = nearer1 l.uses a in
    reads _ _ _ _ _ e (put _ _ _ _ _ e (put _ _ _ _ _ (nearer0 l.uses a) refl))

pub moved : (w : Word) (a : ℕ) (more : List Step) (l : Level) (n : ℕ) (ls : List Level) (x y : Read)
    → read_or l n (ahead (operand w mode.Assign a) more) ls x ≡ read_or (level (l.uses + a) n) n (operand w mode.Assign 0) (map (placed l n) more ++ ls) y
moved w a more l n ls x y = moved_by (is_mark mark.OpenParenthesis w) (is w word.Text) a more l n ls x y

bare_by : (b c : Bool) (more : List Step) (l : Level) (n : ℕ) (ls : List Level) (x y : Read)
    → read_or l n (ahead (if b then took 1 (up 0 ∷ []) else if c then took 1 (up 1 ∷ up 1 ∷ up 0 ∷ []) else took 1 (up 1 ∷ up 0 ∷ [])) more) ls x
    ≡ read_or l n (if b then took 1 (up 0 ∷ []) else if c then took 1 (up 1 ∷ up 1 ∷ up 0 ∷ []) else took 1 (up 1 ∷ up 0 ∷ [])) (map (placed l n) more ++ ls) y
bare_by true c more l n ls x y = refl
bare_by false true more l n ls x y = refl
bare_by false false more l n ls x y = refl

alone_by : (b c : Bool) (a : ℕ) (l : Level) (n : ℕ) (ls : List Level) (x y : Read)
    → read_or l n (if b then took (a + 1) (up a ∷ []) else if c then took (a + 1) (up (a + 1) ∷ up (a + 1) ∷ up a ∷ []) else took (a + 1) (up (a + 1) ∷ up a ∷ [])) ls x
    ≡ read_or (level (l.uses + a) n) n (if b then took 1 (up 0 ∷ []) else if c then took 1 (up 1 ∷ up 1 ∷ up 0 ∷ []) else took 1 (up 1 ∷ up 0 ∷ [])) ls y
alone_by true c a l n ls x y = reads _ _ _ _ _ (nearer1 l.uses a) (put _ _ _ _ _ (nearer0 l.uses a) refl)
alone_by false true a l n ls x y =
    let e = nearer1 l.uses a in
    reads _ _ _ _ _ e (put _ _ _ _ _ e (put _ _ _ _ _ e (put _ _ _ _ _ (nearer0 l.uses a) refl)))
alone_by false false a l n ls x y =
    let e = nearer1 l.uses a in
    reads _ _ _ _ _ e (put _ _ _ _ _ e (put _ _ _ _ _ (nearer0 l.uses a) refl))

pub moved_alone : (w : Word) (a : ℕ) (l : Level) (n : ℕ) (ls : List Level) (x y : Read)
    → read_or l n (operand w mode.Assign a) ls x ≡ read_or (level (l.uses + a) n) n (operand w mode.Assign 0) ls y
moved_alone w a l n ls x y = alone_by (is_mark mark.OpenParenthesis w) (is w word.Text) a l n ls x y

there_by : (b c : Bool) (p q r : Plan) → (if b then Some p else if c then Some q else Some r) ≡ None → ⊥
there_by true c p q r e = cc
there_by false true p q r e = cc
there_by false false p q r e = cc

-- an operand has a plan
pub operand_plan : (w : Word) (a : ℕ) → operand w mode.Assign a ≡ None → ⊥
operand_plan w a e = there_by (is_mark mark.OpenParenthesis w) (is w word.Text) _ _ _ e

placed_on : (l : Level) (n : ℕ) (steps more : List Step) (ls : List Level) → map (placed l n) (steps ++ more) ++ ls ≡ map (placed l n) steps ++ (map (placed l n) more ++ ls)
placed_on l n [] more ls = refl
placed_on l n (s ∷ ss) more ls = ap (λ q. placed l n s ∷ q) (placed_on l n ss more ls)

-- what a plan leaves to come, in front of more
pub ahead_on : (q : Option Plan) → (q ≡ None → ⊥) → (more : List Step) (l : Level) (n : ℕ) (ls : List Level) (x y : Read)
    → read_or l n (ahead q more) ls x ≡ read_or l n q (map (placed l n) more ++ ls) y
ahead_on None h more l n ls x y = absurd (h refl)
ahead_on (Some p) h more l n ls x y =
    ap (λ (qs : List Level). record { reading = reading_by l n p; levels = qs }) (placed_on l n p.steps more ls)

-- a parenthesis that shows late that it begins a unary
abbrev late_read : ℕ → Read → Read
late_read k r = record { reading = record { uses = r.reading.uses; back = k }; levels = r.levels }

late_by : (b c : Bool) (more : List Step) (l : Level) (n : ℕ) (ls : List Level) (x : Read)
    → read_or l n (raised (ahead (if b then took 3 (up 2 ∷ []) else if c then took 3 (up 3 ∷ up 3 ∷ up 2 ∷ []) else took 3 (up 3 ∷ up 2 ∷ [])) more)) ls x
    ≡ late_read (n - l.start) (read_or l n (ahead (if b then took 3 (up 2 ∷ []) else if c then took 3 (up 3 ∷ up 3 ∷ up 2 ∷ []) else took 3 (up 3 ∷ up 2 ∷ [])) more) ls x)
late_by true c more l n ls x = refl
late_by false true more l n ls x = refl
late_by false false more l n ls x = refl

shows_plainly : (b c : Bool) (l : Level) (n : ℕ) (ls : List Level) (x : Read)
    → (read_or l n (if b then took 1 (up 0 ∷ []) else if c then took 1 (up 1 ∷ up 1 ∷ up 0 ∷ []) else took 1 (up 1 ∷ up 0 ∷ [])) ls x).reading.back ≡ 0
shows_plainly true c l n ls x = refl
shows_plainly false true l n ls x = refl
shows_plainly false false l n ls x = refl

-- what words begin, as the walk's lemmas and the plans have it

no_base_key : (k : Keyword) → begins_key k ≡ true → begins_base_key k ≡ false
no_base_key key.Sizeof h = refl
no_base_key k h = absurd (never (sym h))

no_base_plan : (known : Bool) (w : Word) → begins w ≡ true → (w ≡ word.Name → known ≡ false) → begins_base_plan known w ≡ false
no_base_plan known (word.Key k) h f = no_base_key k h
no_base_plan known word.Name h f = f refl
no_base_plan known w h f = refl

base_key_same : (k : Keyword) → base_word k ≡ begins_base_key k
base_key_same key.Auto = refl
base_key_same k = refl

base_plan : (known : Bool) (w : Word) → begins_base w ≡ true → (w ≡ word.Name → known ≡ true) → begins_base_plan known w ≡ true
base_plan known (word.Key k) h f = sym (base_key_same k) ∙ h
base_plan known word.Name h f = f refl
base_plan known w h f = absurd (never (sym h))

begins_key_same : (k : Keyword) → begins_key k ≡ is_key key.Sizeof (word.Key k)
begins_key_same key.Auto = refl
begins_key_same k = refl

begins_mark_same : (m : Mark) → begins_mark m ≡ begins_operand_mark m
begins_mark_same mark.OpenBracket = refl
begins_mark_same m = refl

pub begins_same : (w : Word) → begins w ≡ true → begins_operand w ≡ true
begins_same word.Name h = refl
begins_same word.Whole h = refl
begins_same word.Character h = refl
begins_same word.Text h = refl
begins_same (word.Key k) h = sym (begins_key_same k) ∙ h
begins_same (word.Mark m) h = sym (begins_mark_same m) ∙ h

-- a declarator one use deeper, where it may lack a name, and where it may not
pub deeper : (w : Word) → starts w ≡ true → (more : List Step) (q : Option Plan) (l : Level) (n : ℕ) (ls : List Level) (x y : Read)
    → read_or l n (or_else (ahead (declarator w naming.May 1) more) q) ls x ≡ read_or (level (l.uses + 1) n) n (declarator w naming.May 0) (map (placed l n) more ++ ls) y
deeper word.Name h more q l n ls x y = let e = nearer0 l.uses 1 in reads _ _ _ _ _ e (put _ _ _ _ _ e refl)
deeper (word.Mark mark.Star) h more q l n ls x y = let e = nearer0 l.uses 1 in reads _ _ _ _ _ e (put _ _ _ _ _ e refl)
deeper (word.Mark mark.OpenParenthesis) h more q l n ls x y = let e = nearer0 l.uses 1 in reads _ _ _ _ _ e (put _ _ _ _ _ e refl)
deeper (word.Mark mark.OpenBracket) h more q l n ls x y = let e = nearer0 l.uses 1 in reads _ _ _ _ _ e (put _ _ _ _ _ e (put _ _ _ _ _ e refl))
deeper w h more q l n ls x y = absurd (never (sym h))

nameless_plan : (w : Word) → starts w ≡ true → nameless w ≡ or_else (ahead (declarator w naming.May 1) (up 0 ∷ up 0 ∷ [])) None
nameless_plan word.Name h = refl
nameless_plan (word.Mark mark.Star) h = refl
nameless_plan (word.Mark mark.OpenParenthesis) h = refl
nameless_plan (word.Mark mark.OpenBracket) h = refl
nameless_plan w h = absurd (never (sym h))

-- the first word of a declarator that has a name
abbrev pub names : Word → Bool
names word.Name = true
names (word.Mark mark.Star) = true
names (word.Mark mark.OpenParenthesis) = true
names w = false

pub deeper_name : (w : Word) → names w ≡ true → (more : List Step) (l : Level) (n : ℕ) (ls : List Level) (x y : Read)
    → read_or l n (ahead (declarator w naming.Must 1) more) ls x ≡ read_or (level (l.uses + 1) n) n (declarator w naming.Must 0) (map (placed l n) more ++ ls) y
deeper_name word.Name h more l n ls x y = let e = nearer0 l.uses 1 in reads _ _ _ _ _ e (put _ _ _ _ _ e refl)
deeper_name (word.Mark mark.Star) h more l n ls x y = let e = nearer0 l.uses 1 in reads _ _ _ _ _ e (put _ _ _ _ _ e refl)
deeper_name (word.Mark mark.OpenParenthesis) h more l n ls x y =
    let e = nearer0 l.uses 1 in
    reads _ _ _ _ _ e (put _ _ _ _ _ (nearer1 l.uses 1) (put _ _ _ _ _ e (put _ _ _ _ _ e refl)))
deeper_name w h more l n ls x y = absurd (never (sym h))

one_back : (n a : ℕ) (x : ℕ) (os : List Seen) → deepen (suc n - n) (seen (a + 0) x ∷ os) ≡ seen (a + 1) x ∷ os
one_back n a x os =
    let z : suc n - n ≡ 1 = omega arith in
    let e : suc (a + 0) ≡ a + 1 = omega arith in
    ap (λ k. deepen k (seen (a + 0) x ∷ os)) z ∙ ap (λ u. seen u x ∷ os) e

not_deepened : (k : ℕ) (os : List Seen) → k ≡ 0 → deepen k os ≡ os
not_deepened k os e = ap (λ n. deepen n os) e

module _ (types : List (List ℕ)) (i : Bool) where
  -- an expression in parentheses

  abbrev in_parenthesis : Mode → List Symbol → List Symbol
  in_parenthesis m ss = Operand mode.Assign ∷ Commas ∷ Must (word.Mark mark.CloseParenthesis) ∷ Suffixes ∷ rest_of m ss

  abbrev pub parenthesis_levels : Mode → Level → ℕ → List Level → List Level
  parenthesis_levels m o n ls = level (o.uses + 2) n ∷ level (o.uses + 2) n ∷ level (o.uses + 1) n ∷ level (o.uses + 1) n ∷ front m o ls

  open_step : (b : Bool) (m : Mode) (f : List ℕ) (ss : List Symbol) (p : Piece) → (b ≡ true → open_type_stage types f i m ss (heard p.word p.bytes) ≡ None)
      → open_on types f i b m ss (heard p.word p.bytes) ≡ nested_stage types f i m ss p.word
  open_step true m f ss p h = pass _ _ (h refl)
  open_step false m f ss p h = refl

  open_plan : (m : Mode) (known : Bool) (w : Word) → (takes_type m ≡ true → begins_base_plan known w ≡ false) → opened w known m ≡ late m (nested w m)
  open_plan m known w h = off _ _ (and_off (takes_type m) (begins_base_plan known w) h)

  -- how it begins behind its parenthesis: no type does
  record IsPlainFirst (m : Mode) (p : Piece) : Type 0 where
    stage : takes_type m ≡ true → (f : List ℕ) (ss : List Symbol) → base types f i ss (heard p.word p.bytes) ≡ None
    plan : takes_type m ≡ true → begins_base_plan (knows_piece types i p) p.word ≡ false

  plain_first : (m : Mode) (e : Expr) (p : Piece) → IsNoType types (takes_type m) e → FirstOf types i (first_name e) p → IsPlainFirst m p
  plain_first m e p n k = record {
    stage = λ t f ss. no_base types i f ss (first_name e) p k (plain_when types i (takes_type m) e n t);
    plan = λ t. no_base_plan (knows_piece types i p) p.word k.begins
        (λ q. ap (names_type types) (bytes_at types i p.word p.bytes q) ∙ not_known types i (first_name e) p.bytes (k.plain q) (plain_when types i (takes_type m) e n t));
  }

  open_here : (m : Mode) → ((q : Option Plan) → late m q ≡ q) → ((o : Level) (n : ℕ) (ls : List Level) → map (placed o n) (rest_kept m) ++ ls ≡ front m o ls)
      → (f : List ℕ) (ss : List Symbol) (o : Level) (ls : List Level) (os : List Seen) (p : Piece) (ps : List Piece) → IsPlainFirst m p
      → Rt types i f (in_parenthesis m ss) (parenthesis_levels m o (length os) ls) os (p ∷ ps) → Rt types i f (Open m ∷ ss) (o ∷ ls) os (p ∷ ps)
  open_here m q r f ss o ls os p ps k h =
      let n = length os in
      let y = read (knows_piece types i p) n p.word (Commas ∷ Must (word.Mark mark.CloseParenthesis) ∷ Suffixes ∷ rest_of m ss) (level (o.uses + 2) n ∷ level (o.uses + 1) n ∷ level (o.uses + 1) n ∷ front m o ls) in
      taken_as (at types i f (Open m ∷ ss)) (at types i f (in_parenthesis m ss)) (o ∷ ls) (parenthesis_levels m o (length os) ls) os p ps
      (open_step (takes_type m) m f ss p (λ t. k.stage t f _))
      (ap (λ v. read_or o (length os) v ls (read (knows_piece types i p) (length os) p.word ss ls)) (open_plan m (knows_piece types i p) p.word k.plan ∙ q (nested p.word m))
      ∙ moved p.word 2 (up 2 ∷ up 1 ∷ up 1 ∷ rest_kept m) o (length os) ls _ y
      ∙ ap (λ qs. read_or (level (o.uses + 2) n) n (operand p.word mode.Assign 0) (level (o.uses + 2) n ∷ level (o.uses + 1) n ∷ level (o.uses + 1) n ∷ qs) y) (r o (length os) ls)) h

  open_late : (f : List ℕ) (ss : List Symbol) (o : Level) (ls : List Level) (os : List Seen) (a x : ℕ) (p : Piece) (ps : List Piece) → o.start ≡ length os → IsPlainFirst mode.Size p
      → Rt types i f (in_parenthesis mode.Size ss) (parenthesis_levels mode.Size o (suc (length os)) ls) (seen (a + 1) x ∷ os) (p ∷ ps) → Rt types i f (Open mode.Size ∷ ss) (o ∷ ls) (seen (a + 0) x ∷ os) (p ∷ ps)
  open_late f ss o ls os a x p ps s k h =
      let n = suc (length os) in
      let w = p.word in
      let z = read (knows_piece types i p) n w ss ls in
      let y = read (knows_piece types i p) n w (Commas ∷ Must (word.Mark mark.CloseParenthesis) ∷ Suffixes ∷ ss) (level (o.uses + 2) n ∷ level (o.uses + 1) n ∷ level (o.uses + 1) n ∷ ls) in
      let to = read_or (level (o.uses + 2) n) n (operand w mode.Assign 0) (level (o.uses + 2) n ∷ level (o.uses + 1) n ∷ level (o.uses + 1) n ∷ ls) y in
      let e : reading_at (at types i f (Open mode.Size ∷ ss)) (o ∷ ls) (seen (a + 0) x ∷ os) p ≡ late_read (n - o.start) to =
      ap (λ v. read_or o n v ls z) (open_plan mode.Size (knows_piece types i p) w k.plan)
      ∙ late_by (is_mark mark.OpenParenthesis w) (is w word.Text) (up 2 ∷ up 1 ∷ up 1 ∷ []) o n ls z
      ∙ ap (late_read (n - o.start)) (moved w 2 (up 2 ∷ up 1 ∷ up 1 ∷ []) o n ls z y) in
      taken_like (at types i f (Open mode.Size ∷ ss)) (at types i f (in_parenthesis mode.Size ss)) (o ∷ ls) (parenthesis_levels mode.Size o n ls) (seen (a + 0) x ∷ os) (seen (a + 1) x ∷ os) p ps
      (open_step true mode.Size f ss p (λ t. k.stage t f _))
      (ap (λ (v : Read). v.levels) e)
      (ap (λ (v : Read). seen_by v.reading p.uses (seen (a + 0) x ∷ os)) e
      ∙ ap (λ m. seen (to.reading.uses) p.uses ∷ deepen (n - m) (seen (a + 0) x ∷ os)) s
      ∙ ap (λ qs. seen (to.reading.uses) p.uses ∷ qs) (one_back (length os) a x os ∙ sym (not_deepened (to.reading.back) (seen (a + 1) x ∷ os)
      (shows_plainly (is_mark mark.OpenParenthesis w) (is w word.Text) (level (o.uses + 2) n) n (level (o.uses + 2) n ∷ level (o.uses + 1) n ∷ level (o.uses + 1) n ∷ ls) y)))) h

  open_first : (m : Mode) (f : List ℕ) (ss : List Symbol) (o : Level) (ls : List Level) (os : List Seen) (a x : ℕ) (p : Piece) (ps : List Piece) → o.start ≡ length os → IsPlainFirst m p
      → Rt types i f (in_parenthesis m ss) (parenthesis_levels m o (suc (length os)) ls) (seen (a + 1) x ∷ os) (p ∷ ps) → Rt types i f (Open m ∷ ss) (o ∷ ls) (seen (a + (0 + opening m)) x ∷ os) (p ∷ ps)
  open_first mode.Assign f ss o ls os a x p ps s k h = open_here mode.Assign (λ q. refl) (λ o n ls. refl) f ss o ls (seen (a + 1) x ∷ os) p ps k h
  open_first mode.Cond f ss o ls os a x p ps s k h = open_here mode.Cond (λ q. refl) (λ o n ls. refl) f ss o ls (seen (a + 1) x ∷ os) p ps k h
  open_first mode.Cast f ss o ls os a x p ps s k h = open_here mode.Cast (λ q. refl) (λ o n ls. refl) f ss o ls (seen (a + 1) x ∷ os) p ps k h
  open_first mode.Unary f ss o ls os a x p ps s k h = open_here mode.Unary (λ q. refl) (λ o n ls. refl) f ss o ls (seen (a + 1) x ∷ os) p ps k h
  open_first mode.Size f ss o ls os a x p ps s k h = open_late f ss o ls os a x p ps s k h

  pub parenthesis : (m : Mode) (e : Expr) → IsNoType types (takes_type m) e → (f : List ℕ) (ss : List Symbol) (o : Level) (ls : List Level) (os : List Seen) (a x d : ℕ) (ps : List Piece) → o.start ≡ length os
      → Rt types i f (Operand mode.Assign ∷ Commas ∷ Must (word.Mark mark.CloseParenthesis) ∷ Suffixes ∷ rest_of m ss) (parenthesis_levels m o (suc (length os)) ls) (seen (a + 1) x ∷ os) (expr_pieces i e d ps)
      → Rt types i f (Open m ∷ ss) (o ∷ ls) (seen (a + (0 + opening m)) x ∷ os) (expr_pieces i e d ps)
  parenthesis m e n f ss o ls os a x d ps s =
      expr_first types i
      (λ q. Rt types i f (in_parenthesis m ss) (parenthesis_levels m o (suc (length os)) ls) (seen (a + 1) x ∷ os) q → Rt types i f (Open m ∷ ss) (o ∷ ls) (seen (a + (0 + opening m)) x ∷ os) q) e
      (λ p qs k h. open_first m f ss o ls os a x p qs s (plain_first m e p n k) h) d ps

  -- a type in parentheses

  abbrev pub type_levels : Mode → Level → ℕ → List Level → List Level
  type_levels m o n ls = level (o.uses + opening m) n ∷ level (o.uses + opening m) n ∷ level (o.uses + opening m) n ∷ (map (placed o n) (behind_type m) ++ ls)

  abbrev in_type : Mode → List Symbol → List Symbol
  in_type m ss = Base_to_come ∷ Declarator naming.Abstract ∷ Must (word.Mark mark.CloseParenthesis) ∷ behind_type_symbols m ss

  open_type_step : (b : Bool) (m : Mode) (f : List ℕ) (ss : List Symbol) (p : Piece) → b ≡ true → (open_type_stage types f i m ss (heard p.word p.bytes) ≡ None → ⊥)
      → open_on types f i b m ss (heard p.word p.bytes) ≡ open_type_stage types f i m ss (heard p.word p.bytes)
  open_type_step true m f ss p k h = some _ _ h
  open_type_step false m f ss p k h = absurd (never (sym k))

  both_met : (a b : Bool) → a ≡ true → b ≡ true → (a && b) ≡ true
  both_met a b e g = ap (λ (c : Bool). c && b) e ∙ g

  pub known_first : (p : Piece) → StartOf types i p → begins_base_plan (knows_piece types i p) p.word ≡ true
  known_first p k = base_plan (knows_piece types i p) p.word k.begins (λ q. ap (names_type types) (bytes_at types i p.word p.bytes q) ∙ k.known q)

  pub type_first : (m : Mode) (t : TypeName) → takes_type m ≡ true → IsTypeName t → ReadsTypeName types t → (f : List ℕ) (ss : List Symbol) (o : Level) (ls : List Level) (os : List Seen) (d : ℕ) (ps : List Piece)
      → Rt types i f (Base_to_come ∷ Declarator naming.Abstract ∷ Must (word.Mark mark.CloseParenthesis) ∷ behind_type_symbols m ss) (type_levels m o (length os) ls) os (type_name_pieces i t d ps)
      → Rt types i f (Open m ∷ ss) (o ∷ ls) os (type_name_pieces i t d ps)
  type_first m (type_name b x) k g r f ss o ls os d ps =
      base_first types i (λ q. Rt types i f (in_type m ss) (type_levels m o (length os) ls) os q → Rt types i f (Open m ∷ ss) (o ∷ ls) os q)
      (λ p qs z h. taken_as (at types i f (Open m ∷ ss)) (at types i f (in_type m ss)) (o ∷ ls) (type_levels m o (length os) ls) os p qs
      (open_type_step (takes_type m) m f ss p k (base_there types i f _ p z))
      (ap (λ v. read_or o (length os) v ls (read (knows_piece types i p) (length os) p.word ss ls)) (met _ _ (both_met _ _ k (known_first p z)))
      ∙ (let e = none_more (o.uses + opening m) in reads _ _ _ _ _ e (put _ _ _ _ _ e refl))) h) b g.0 r.0 d _

  -- an expression that may lack, or where a closing word may stand

  pub optional_first : (e : Expr) (f : List ℕ) (ss : List Symbol) (l : Level) (ls : List Level) (os : List Seen) (d : ℕ) (ps : List Piece)
      → Rt types i f (Operand mode.Assign ∷ Commas ∷ ss) (level (l.uses + 0) (length os) ∷ level (l.uses + 0) (length os) ∷ ls) os (expr_pieces i e d ps) → Rt types i f (Optional ∷ ss) (l ∷ ls) os (expr_pieces i e d ps)
  optional_first e f ss l ls os d ps =
      expr_first types i (λ q. Rt types i f (Operand mode.Assign ∷ Commas ∷ ss) (level (l.uses + 0) (length os) ∷ level (l.uses + 0) (length os) ∷ ls) os q → Rt types i f (Optional ∷ ss) (l ∷ ls) os q) e
      (λ p qs k h. taken_as (at types i f (Optional ∷ ss)) (at types i f (Operand mode.Assign ∷ Commas ∷ ss)) (l ∷ ls) (level (l.uses + 0) (length os) ∷ level (l.uses + 0) (length os) ∷ ls) os p qs
      (some _ _ (operand_there types i f (Commas ∷ ss) p.word k.begins))
      (ap (λ v. read_or l (length os) v ls (read (knows_piece types i p) (length os) p.word ss ls)) (met _ _ (begins_same p.word k.begins))
      ∙ moved p.word 0 (up 0 ∷ []) l (length os) ls _ _) h) d ps

  pub count_first : (e : Expr) (f : List ℕ) (ss : List Symbol) (l : Level) (ls : List Level) (os : List Seen) (d : ℕ) (ps : List Piece)
      → Rt types i f (Operand mode.Cond ∷ Must (word.Mark mark.CloseBracket) ∷ ss) (l ∷ level (l.uses + 0) (length os) ∷ ls) os (expr_pieces i e d ps) → Rt types i f (Count ∷ ss) (l ∷ ls) os (expr_pieces i e d ps)
  count_first e f ss l ls os d ps =
      expr_first types i (λ q. Rt types i f (Operand mode.Cond ∷ Must (word.Mark mark.CloseBracket) ∷ ss) (l ∷ level (l.uses + 0) (length os) ∷ ls) os q → Rt types i f (Count ∷ ss) (l ∷ ls) os q) e
      (λ p qs k h. let c = differs begins p.word (word.Mark mark.CloseBracket) k.begins refl in
      taken_as (at types i f (Count ∷ ss)) (at types i f (Operand mode.Cond ∷ Must (word.Mark mark.CloseBracket) ∷ ss)) (l ∷ ls) (l ∷ level (l.uses + 0) (length os) ∷ ls) os p qs
      (off _ _ c)
      (ap (λ v. read_or l (length os) v ls (read (knows_piece types i p) (length os) p.word ss ls)) (off _ _ c)
      ∙ bare_by (is_mark mark.OpenParenthesis p.word) (is p.word word.Text) (up 0 ∷ []) l (length os) ls _ _) h) d ps

  -- where fields, and where parameters begin

  pub fields_first : (b : Base) → IsBase b → ReadsBase types b → (f : List ℕ) (ss : List Symbol) (l : Level) (ls : List Level) (os : List Seen) (d : ℕ) (ps : List Piece)
      → Rt types i f (Base_to_come ∷ Declarator naming.Must ∷ MoreDeclarators ∷ Fields ∷ ss) (level (l.uses + 1) (length os) ∷ level (l.uses + 2) (length os) ∷ level (l.uses + 1) (length os) ∷ level (l.uses + 0) (length os) ∷ ls) os (base_pieces i b d ps)
      → Rt types i f (Fields ∷ ss) (l ∷ ls) os (base_pieces i b d ps)
  fields_first b g r f ss l ls os d ps =
      base_first types i
      (λ q. Rt types i f (Base_to_come ∷ Declarator naming.Must ∷ MoreDeclarators ∷ Fields ∷ ss) (level (l.uses + 1) (length os) ∷ level (l.uses + 2) (length os) ∷ level (l.uses + 1) (length os) ∷ level (l.uses + 0) (length os) ∷ ls) os q → Rt types i f (Fields ∷ ss) (l ∷ ls) os q)
      (λ p qs k h. let c = differs begins_base p.word (word.Mark mark.CloseBrace) k.begins refl in
      taken_as (at types i f (Fields ∷ ss)) (at types i f (Base_to_come ∷ Declarator naming.Must ∷ MoreDeclarators ∷ Fields ∷ ss)) (l ∷ ls)
      (level (l.uses + 1) (length os) ∷ level (l.uses + 2) (length os) ∷ level (l.uses + 1) (length os) ∷ level (l.uses + 0) (length os) ∷ ls) os p qs
      (off _ _ c)
      (ap (λ v. read_or l (length os) v ls (read (knows_piece types i p) (length os) p.word ss ls)) (off _ _ c)
      ∙ (let e = none_more (l.uses + 1) in reads _ _ _ _ _ e (put _ _ _ _ _ e refl))) h) b g r d ps

  abbrev params_levels : Level → ℕ → List Level → List Level
  params_levels l n ls = l ∷ level (l.uses + 1) n ∷ level (l.uses + 0) n ∷ ls

  abbrev in_params : List Symbol → List Symbol
  in_params ss = Base_to_come ∷ Declarator naming.May ∷ MoreParameters ∷ ss

  no_void : (p : Piece) → begins_base p.word ≡ true → (p.word ≡ word.Key key.Void → ⊥) → (f : List ℕ) (ss : List Symbol) (l : Level) (ls : List Level) (os : List Seen) (ps : List Piece)
      → Rt types i f (in_params ss) (params_levels l (length os) ls) os (p ∷ ps) → Rt types i f (Parameters ∷ ss) (l ∷ ls) os (p ∷ ps)
  no_void p h n f ss l ls os ps =
      let c = differs begins_base p.word (word.Mark mark.CloseParenthesis) h refl in
      let v = decided (is p.word (word.Key key.Void)) (λ e. n (same p.word (word.Key key.Void) e)) in
      taken_as (at types i f (Parameters ∷ ss)) (at types i f (in_params ss)) (l ∷ ls) (params_levels l (length os) ls) os p ps (off _ _ c ∙ off _ _ v)
      (ap (λ q. read_or l (length os) q ls (read (knows_piece types i p) (length os) p.word ss ls)) (off _ _ c ∙ off _ _ v))

  parameters_const : (n : ℕ) (a : Option ℕ) (f : List ℕ) (ss : List Symbol) (l : Level) (ls : List Level) (os : List Seen) (d : ℕ) (ps : List Piece) → (n ≡ zero → ⊥)
      → Rt types i f (in_params ss) (params_levels l (length os) ls) os (const_pieces i n a d ps) → Rt types i f (Parameters ∷ ss) (l ∷ ls) os (const_pieces i n a d ps)
  parameters_const zero a f ss l ls os d ps h r = absurd (h refl)
  parameters_const (suc n) a f ss l ls os d ps h r = r

  parameters_word : (n : ℕ) (a : Option ℕ) (p : Piece) (f : List ℕ) (ss : List Symbol) (l : Level) (ls : List Level) (os : List Seen) (d : ℕ) (ps : List Piece) → begins_base p.word ≡ true → (p.word ≡ word.Key key.Void → ⊥)
      → Rt types i f (in_params ss) (params_levels l (length os) ls) os (const_pieces i n a d (p ∷ ps)) → Rt types i f (Parameters ∷ ss) (l ∷ ls) os (const_pieces i n a d (p ∷ ps))
  parameters_word zero a p f ss l ls os d ps h k r = no_void p h k f ss l ls os ps r
  parameters_word (suc n) a p f ss l ls os d ps h k r = r

  pub parameters_first : (b : Base) → IsBase b → Params_first types i b → (f : List ℕ) (ss : List Symbol) (l : Level) (ls : List Level) (os : List Seen) (d : ℕ) (ps : List Piece)
      → Rt types i f (Base_to_come ∷ Declarator naming.May ∷ MoreParameters ∷ ss) (l ∷ level (l.uses + 1) (length os) ∷ level (l.uses + 0) (length os) ∷ ls) os (base_pieces i b d ps)
      → Rt types i f (Parameters ∷ ss) (l ∷ ls) os (base_pieces i b d ps)
  parameters_first (kind k []) g v f ss l ls os d ps r = absurd (never (sym (kind_fits [] g)))
  parameters_first (kind k (w ∷ ws)) g v f ss l ls os d ps r =
      no_void (piece i (Some k) (word.Key w) d) (kind_start types i w (λ s. fits s ws) (kind_fits (w ∷ ws) g)) (kind_no_void types i w (λ s. fits s ws) (kind_fits (w ∷ ws) g)) f ss l ls os _ r
  parameters_first (void k c) g v f ss l ls os d ps r = parameters_const c.before (Some k) f ss l ls os d _ v r
  parameters_first (typedef_name k n c) g v f ss l ls os d ps r = parameters_word c.before (Some k) _ f ss l ls os d _ refl (λ e. cc) r
  parameters_first (tag k tag_sort.Struct n c) g v f ss l ls os d ps r = parameters_word c.before (Some k) _ f ss l ls os d _ refl (λ e. cc) r
  parameters_first (tag k tag_sort.Enum n c) g v f ss l ls os d ps r = parameters_word c.before (Some k) _ f ss l ls os d _ refl (λ e. cc) r
  parameters_first (structure k n fs c) g v f ss l ls os d ps r = parameters_word c.before (Some k) _ f ss l ls os d _ refl (λ e. cc) r
  parameters_first (enumeration k n cs c) g v f ss l ls os d ps r = parameters_word c.before (Some k) _ f ss l ls os d _ refl (λ e. cc) r

  -- parameters where a core may lack

  kind_nameless : (w : Keyword) → base_word w ≡ true → (f : List ℕ) (ss : List Symbol) (l : Level) (ls : List Level) (os : List Seen) (a : Option ℕ) (d : ℕ) (ps : List Piece)
      → Rt types i f (Parameters ∷ Brackets ∷ ss) (l ∷ level (l.uses + 0) (length os) ∷ ls) os (piece i a (word.Key w) d ∷ ps) → Rt types i f (Nameless ∷ ss) (l ∷ ls) os (piece i a (word.Key w) d ∷ ps)
  kind_nameless key.Const h f ss l ls os a d ps r = r
  kind_nameless key.Void h f ss l ls os a d ps r = r
  kind_nameless key.Struct h f ss l ls os a d ps r = r
  kind_nameless key.Enum h f ss l ls os a d ps r = r
  kind_nameless key.Char h f ss l ls os a d ps r = r
  kind_nameless key.Short h f ss l ls os a d ps r = r
  kind_nameless key.Int h f ss l ls os a d ps r = r
  kind_nameless key.Long h f ss l ls os a d ps r = r
  kind_nameless key.Signed h f ss l ls os a d ps r = r
  kind_nameless key.Unsigned h f ss l ls os a d ps r = r
  kind_nameless w h f ss l ls os a d ps r = absurd (never (sym h))

  consts_nameless : (n : ℕ) (a b : Option ℕ) (w : Keyword) (f : List ℕ) (ss : List Symbol) (l : Level) (ls : List Level) (os : List Seen) (d : ℕ) (ps : List Piece) → base_word w ≡ true
      → Rt types i f (Parameters ∷ Brackets ∷ ss) (l ∷ level (l.uses + 0) (length os) ∷ ls) os (const_pieces i n a d (piece i b (word.Key w) d ∷ ps)) → Rt types i f (Nameless ∷ ss) (l ∷ ls) os (const_pieces i n a d (piece i b (word.Key w) d ∷ ps))
  consts_nameless zero a b w f ss l ls os d ps h r = kind_nameless w h f ss l ls os b d ps r
  consts_nameless (suc n) a b w f ss l ls os d ps h r = r

  typedef_nameless : (n : ℕ) (a : Option ℕ) (f : List ℕ) (ss : List Symbol) (l : Level) (ls : List Level) (os : List Seen) (d : ℕ) (ps : List Piece) → (n ≡ zero → ⊥)
      → Rt types i f (Parameters ∷ Brackets ∷ ss) (l ∷ level (l.uses + 0) (length os) ∷ ls) os (const_pieces i n a d ps) → Rt types i f (Nameless ∷ ss) (l ∷ ls) os (const_pieces i n a d ps)
  typedef_nameless zero a f ss l ls os d ps h r = absurd (h refl)
  typedef_nameless (suc n) a f ss l ls os d ps h r = r

  pub nameless_first : (b : Base) (x : Declared) (xs : Params) → BeginsParams (with_param (param b x) xs) → IsBase b → (f : List ℕ) (ss : List Symbol) (l : Level) (ls : List Level) (os : List Seen) (d : ℕ) (ps : List Piece)
      → Rt types i f (Parameters ∷ Brackets ∷ ss) (l ∷ level (l.uses + 0) (length os) ∷ ls) os (base_pieces i b d ps) → Rt types i f (Nameless ∷ ss) (l ∷ ls) os (base_pieces i b d ps)
  nameless_first (kind k []) x xs q g f ss l ls os d ps r = absurd (never (sym (kind_fits [] g)))
  nameless_first (kind k (w ∷ ws)) x xs q g f ss l ls os d ps r = kind_nameless w (kind_start types i w (λ s. fits s ws) (kind_fits (w ∷ ws) g)) f ss l ls os (Some k) d _ r
  nameless_first (void k c) x xs q g f ss l ls os d ps r = consts_nameless c.before (Some k) _ key.Void f ss l ls os d _ refl r
  nameless_first (typedef_name k n c) x xs q g f ss l ls os d ps r = typedef_nameless c.before (Some k) f ss l ls os d _ q r
  nameless_first (tag k tag_sort.Struct n c) x xs q g f ss l ls os d ps r = consts_nameless c.before (Some k) _ key.Struct f ss l ls os d _ refl r
  nameless_first (tag k tag_sort.Enum n c) x xs q g f ss l ls os d ps r = consts_nameless c.before (Some k) _ key.Enum f ss l ls os d _ refl r
  nameless_first (structure k n fs c) x xs q g f ss l ls os d ps r = consts_nameless c.before (Some k) _ key.Struct f ss l ls os d _ refl r
  nameless_first (enumeration k n cs c) x xs q g f ss l ls os d ps r = consts_nameless c.before (Some k) _ key.Enum f ss l ls os d _ refl r

  -- a declarator in a parenthesis where a core may lack
  pub inner_first : (x : Declared) → HasTokens x → (f : List ℕ) (ss : List Symbol) (l : Level) (ls : List Level) (os : List Seen) (d : ℕ) (ps : List Piece)
      → Rt types i f (Declarator naming.May ∷ Must (word.Mark mark.CloseParenthesis) ∷ Brackets ∷ ss) (level (l.uses + 1) (length os) ∷ level (l.uses + 0) (length os) ∷ level (l.uses + 0) (length os) ∷ ls) os (declarator_pieces i x d ps)
      → Rt types i f (Nameless ∷ ss) (l ∷ ls) os (declarator_pieces i x d ps)
  inner_first x t f ss l ls os d ps =
      declarator_first types i
      (λ q. Rt types i f (Declarator naming.May ∷ Must (word.Mark mark.CloseParenthesis) ∷ Brackets ∷ ss) (level (l.uses + 1) (length os) ∷ level (l.uses + 0) (length os) ∷ level (l.uses + 0) (length os) ∷ ls) os q → Rt types i f (Nameless ∷ ss) (l ∷ ls) os q) x
      (λ p qs h r. taken_as (at types i f (Nameless ∷ ss)) (at types i f (Declarator naming.May ∷ Must (word.Mark mark.CloseParenthesis) ∷ Brackets ∷ ss)) (l ∷ ls)
      (level (l.uses + 1) (length os) ∷ level (l.uses + 0) (length os) ∷ level (l.uses + 0) (length os) ∷ ls) os p qs
      (start_word types i p.word h f ss p.bytes)
      (ap (λ v. read_or l (length os) v ls (read (knows_piece types i p) (length os) p.word ss ls)) (nameless_plan p.word h)
      ∙ deeper p.word h (up 0 ∷ up 0 ∷ []) None l (length os) ls _ _) r) d ps (inl t)

  -- behind the word `void` in parentheses
  pub void_first : (f : List ℕ) (ss : List Symbol) (l : Level) (ls : List Level) (os : List Seen) (x : Declared) (d : ℕ) (ps : List Piece)
      → (HasTokens x ⊎ (Rt types i f (Declarator naming.May ∷ MoreParameters ∷ ss) (level (l.uses + 1) (length os) ∷ level (l.uses + 0) (length os) ∷ ls) os ps → Rt types i f (Void ∷ ss) (l ∷ ls) os ps))
      → Rt types i f (Declarator naming.May ∷ MoreParameters ∷ ss) (level (l.uses + 1) (length os) ∷ level (l.uses + 0) (length os) ∷ ls) os (declarator_pieces i x d ps) → Rt types i f (Void ∷ ss) (l ∷ ls) os (declarator_pieces i x d ps)
  void_first f ss l ls os x d ps =
      declarator_first types i
      (λ q. Rt types i f (Declarator naming.May ∷ MoreParameters ∷ ss) (level (l.uses + 1) (length os) ∷ level (l.uses + 0) (length os) ∷ ls) os q → Rt types i f (Void ∷ ss) (l ∷ ls) os q) x
      (λ p qs k r. let c = decided (is p.word (word.Mark mark.CloseParenthesis)) (λ e. starts_close p.word k (same p.word _ e)) in
      let v = differs starts p.word (word.Key key.Const) k refl in
      taken_as (at types i f (Void ∷ ss)) (at types i f (Declarator naming.May ∷ MoreParameters ∷ ss)) (l ∷ ls) (level (l.uses + 1) (length os) ∷ level (l.uses + 0) (length os) ∷ ls) os p qs
      (off _ _ c ∙ off _ _ v)
      (ap (λ q. read_or l (length os) q ls (read (knows_piece types i p) (length os) p.word ss ls)) (off _ _ c ∙ off _ _ v)
      ∙ deeper p.word k (up 0 ∷ []) (more_parameters p.word) l (length os) ls _ _) r) d ps

  void_parted : (a : ℕ) (f : List ℕ) (ss : List Symbol) (l : Level) (ls : List Level) (os : List Seen) (d : ℕ) (ps : List Piece)
      → Rt types i f (Declarator naming.May ∷ MoreParameters ∷ ss) (level a (length os) ∷ level (l.uses + 0) (length os) ∷ ls) os (mark_piece i mark.Comma d ∷ ps) → Rt types i f (Void ∷ ss) (l ∷ ls) os (mark_piece i mark.Comma d ∷ ps)
  void_parted a f ss l ls os d ps r =
      taken_as (at types i f (Void ∷ ss)) (at types i f (Declarator naming.May ∷ MoreParameters ∷ ss)) (l ∷ ls) (level a (length os) ∷ level (l.uses + 0) (length os) ∷ ls) os (mark_piece i mark.Comma d) ps refl
      (let e = none_more (l.uses + 0) in reads _ _ _ _ _ e (put _ _ _ _ _ e (put _ _ _ _ _ (zero_one l.uses) (put _ _ _ _ _ e refl)))) r

  pub void_choice : (k d : ℕ) (x : Declared) (xs : Params) (f : List ℕ) (ss : List Symbol) (l : Level) (ls : List Level) (os : List Seen) (ps : List Piece) → IsNotVoid (with_param (param (void k (record { before = 0; behind = 0 })) x) xs)
      → HasTokens x ⊎ (Rt types i f (Declarator naming.May ∷ MoreParameters ∷ ss) (level (l.uses + 1) (length os) ∷ level (l.uses + 0) (length os) ∷ ls) os (more_params_pieces i xs d (mark_piece i mark.CloseParenthesis d ∷ ps))
      → Rt types i f (Void ∷ ss) (l ∷ ls) os (more_params_pieces i xs d (mark_piece i mark.CloseParenthesis d ∷ ps)))
  void_choice k d (declared j [] lacking_core no_brackets) no_params f ss l ls os ps h = absurd (h refl)
  void_choice k d (declared j [] lacking_core no_brackets) (with_param (param b y) ys) f ss l ls os ps h = inr (void_parted (l.uses + 1) f ss l ls os d (base_pieces i b d (declarator_pieces i y (suc d) (more_params_pieces i ys d (mark_piece i mark.CloseParenthesis d ∷ ps)))))
  void_choice k d x xs f ss l ls os ps h = inl tt
