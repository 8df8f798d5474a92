-- What the walk answers is true of the units that a text begins.
use Rattle.std.proofs.Common.{◌≡◌, ℕ, zero, suc, ◌+◌, ◌<◌, ◌≤◌, ◌⊎◌, inl, inr, Bool, true, false, ◌&&◌, ◌||◌, if◌then◌else◌, List, [], ◌∷◌, ◌++◌, map, length, take, drop, slice_get, Option, Some, None, refl, sym, ap, subst, ◌∙◌, arith, add-one}
use Rattle.std.proofs.Math.Seq.{take-length}
use Rattle.std.proofs.lemmas.List.{take-append-drop}
use Rattle.porch_tree.specs.declared.word.Keyword.{Keyword}
use Rattle.porch_tree.specs.declared.word.Keyword.TheVariants as key
use Rattle.porch_tree.specs.declared.word.Mark.{Mark}
use Rattle.porch_tree.specs.declared.word.Mark.TheVariants as mark
use Rattle.porch_tree.specs.declared.word.Word.{Word}
use Rattle.porch_tree.specs.declared.word.Word.TheVariants as word
use Rattle.porch_tree.specs.declared.tree.TagSort.{TagSort}
use Rattle.porch_tree.specs.Pieces.{Spelled, Piece}
use Rattle.porch_walk.specs.declared.symbol.Mode.TheVariants as mode
use Rattle.porch_walk.specs.declared.symbol.Naming.TheVariants as naming
use Rattle.porch_walk.specs.declared.symbol.Symbol.{Symbol}
use Rattle.porch_walk.specs.declared.symbol.Symbol.TheVariants.{Must, Operand, Open, Texts, Suffixes, Behind, Commas, Optional, Base, Kind, Consts, Tag, TagBody, Fields, MoreDeclarators, ConstantValue, Constants, Declarator, Pointer, Nameless, Brackets, Counts, Count, Parameters, Void, MoreParameters, Entries, Entry, MoreEntries, Initial, MoreInitials, NextInitial, FileEntries, FirstEntry, EndTypedef, Body, Statements, Statement, Else, Cases}
use Rattle.porch_walk.specs.Walk.{Stage, step, start, run_from, run, ends_here, is_over, name_bytes, heard, Wrong, wrong_at, wrong_from, wrong, behind, ToldOf, Told, is, is_mark, goes, contents}
use Rattle.porch_tree.specs.Mirror.{TranslationUnit}
use Rattle.porch_tree.specs.Pieces.{unit_pieces}
use Rattle.porch_tree.specs.Grammar.{HasBytes, Matches, AreMatched, is_outside_key, is_file_key, is_tag_key, is_brace, begins_brace, is_outside, AreWithin, IsDeepUnit, AreBeginning, Stops, at_token, at_end, inside_at, IsOutside, Fault, syntax_fault, outside}
use Rattle.porch_walk.proofs.Passes.{over, Heads, behind_base, behind_base_mark, at}
use Rattle.porch_walk.proofs.Words.{same}
use Rattle.porch_walk.proofs.Completes.{completion, Good, safe, safe_key, completes}
use Rattle.porch_walk.proofs.Kept.{run_good, kept, GoodIf}
use Rattle.porch_walk.proofs.Tokens.{IsPiece, ArePieces}
use Rattle.porch_walk.proofs.Sound.{met, met_on, run_read}
use Rattle.porch_walk.proofs.Units.{unit_run}
use Rattle.porch_walk.proofs.Expressions.{never}

-- tokens and their pieces

pub no_stage : (s : Stage) → ◌≡◌ {A = Option Stage} None (Some s) → ⊥
no_stage s h = cc

pub same_stage : (s n : Stage) → Some s ≡ Some n → s ≡ n
same_stage s n h = cc

pub heard_same : (w : Word) (a b : List ℕ) → HasBytes w a b → name_bytes w a ≡ name_bytes w b
heard_same word.Name a b h = h
heard_same w a b h = refl

pub step_same : (s : Stage) (v w : Word) (a b : List ℕ) → v ≡ w → HasBytes w a b → step s v a ≡ step s w b
step_same s v w a b e h =
    ap (λ (u : Word). step s u a) e ∙ ap (λ bs. behind s.types s.fresh s.inside s.pending (record { word = w; bytes = bs })) (heard_same w a b h)

from_same : (o p : Option Stage) (f g : Stage → Option Stage) → o ≡ p → ((n : Stage) → f n ≡ g n) → run_from o f ≡ run_from p g
from_same None p f g e h = ap (λ q. run_from q g) e
from_same (Some n) p f g e h = h n ∙ ap (λ q. run_from q g) e

matched_run : (ts : List Spelled) (ps : List Piece) (s : Stage) → AreMatched ts ps → run s ts ≡ over s ps
matched_run [] [] s h = refl
matched_run [] (p ∷ ps) s h = absurd h
matched_run (t ∷ ts) [] s h = absurd h
matched_run (t ∷ ts) (p ∷ ps) s h = from_same (step s t.word t.bytes) (step s p.word p.bytes) (λ n. run n ts) (λ n. over n ps) (step_same s t.word p.word t.bytes p.bytes h.0.word h.0.bytes) (λ n. matched_run ts ps n h.1)

-- the run over a unit's tokens goes to their end
pub record Accepted (ts : List Spelled) : Type 0 where
  pub last : Stage
  pub run : run start ts ≡ Some last
  pub ended : is_over last ≡ true

pub unit_accepted : (ts : List Spelled) (u : TranslationUnit) → IsDeepUnit ts u → Accepted ts
unit_accepted ts u h =
    let c = unit_run u [] [] h.formed h.names in
    record { last = c.last; run = matched_run ts (unit_pieces u) start h.spelled ∙ c.run; ended = c.ended }

met_matched : (t : Spelled) (s : Stage) (p : Piece) → IsPiece (record { word = t.word; at = t.at; bytes = t.bytes; inside = s.inside }) p → Matches t p
met_matched t s p h = record { word = h.0; place = h.1; bytes = h.2 }

matched_on : (o : Option Stage) (ts : List Spelled) (ps : List Piece) (last : Stage) → run_from o (λ n. run n ts) ≡ Some last
    → ((n : Stage) → run n ts ≡ Some last → ArePieces (met n ts) ps → AreMatched ts ps) → ArePieces (met_on o (λ n. met n ts)) ps → AreMatched ts ps
matched_on None ts ps last e f h = absurd (no_stage last e)
matched_on (Some n) ts ps last e f h = f n e h

matched : (ts : List Spelled) (ps : List Piece) (s last : Stage) → run s ts ≡ Some last → ArePieces (met s ts) ps → AreMatched ts ps
matched [] [] s last e h = tt
matched [] (p ∷ ps) s last e h = absurd h
matched (t ∷ ts) [] s last e h = absurd h
matched (t ∷ ts) (p ∷ ps) s last e h = (met_matched t s p h.0, matched_on (step s t.word t.bytes) ts ps last e (λ n. matched ts ps n last) h.1)

words_same : (ts : List Spelled) (ps : List Piece) → AreMatched ts ps → map (λ t. t.word) ts ≡ map (λ p. p.word) ps
words_same [] [] h = refl
words_same [] (p ∷ ps) h = absurd h
words_same (t ∷ ts) [] h = absurd h
words_same (t ∷ ts) (p ∷ ps) h = ap (λ w. w ∷ map (λ q. q.word) ts) h.0.word ∙ ap (λ ws. p.word ∷ ws) (words_same ts ps h.1)

-- no token of these is outside the language
abbrev pub clean_on : Option Stage → (Stage → Type 0) → Type 0
clean_on None F = Unit {0}
clean_on (Some n) F = F n

abbrev pub Clean : Stage → List Spelled → Type 0
Clean s [] = Unit {0}
Clean s (t ∷ ts) = (is_outside s.inside (t.word ∷ map (λ q. q.word) ts) ≡ false) × clean_on (step s t.word t.bytes) (λ n. Clean n ts)

within_on : (o : Option Stage) (ts : List Spelled) (ps : List Piece) (last : Stage) → run_from o (λ n. run n ts) ≡ Some last
    → ((n : Stage) → run n ts ≡ Some last → Clean n ts → ArePieces (met n ts) ps → AreWithin ps) → clean_on o (λ n. Clean n ts) → ArePieces (met_on o (λ n. met n ts)) ps → AreWithin ps
within_on None ts ps last e f c h = absurd (no_stage last e)
within_on (Some n) ts ps last e f c h = f n e c h

within : (ts : List Spelled) (ps : List Piece) (s last : Stage) → run s ts ≡ Some last → Clean s ts → ArePieces (met s ts) ps → AreWithin ps
within [] [] s last e c h = tt
within [] (p ∷ ps) s last e c h = absurd h
within (t ∷ ts) [] s last e c h = absurd h
within (t ∷ ts) (p ∷ ps) s last e c h = (
  ap (λ ws. is_outside p.inside (p.word ∷ ws)) (sym (words_same ts ps (matched_on (step s t.word t.bytes) ts ps last e (λ n. matched ts ps n last) h.1)))
      ∙ ap (λ w. is_outside p.inside (w ∷ map (λ q. q.word) ts)) (sym h.0.0) ∙ ap (λ b. is_outside b (t.word ∷ map (λ q. q.word) ts)) (sym h.0.3) ∙ c.0,
  within_on (step s t.word t.bytes) ts ps last e (λ n. within ts ps n last) c.1 h.1,
)

-- A run to a unit's end has read a unit, with the blocks that the walk was in.
pub record Read (ts : List Spelled) : Type 0 where
  pub part : TranslationUnit
  pub unit : IsDeepUnit ts part
  pub pieces : ArePieces (met start ts) (unit_pieces part)

pub unit_read : (ts : List Spelled) (last : Stage) → run start ts ≡ Some last → is_over last ≡ true → Clean start ts → Read ts
unit_read ts last e o c =
    let u = run_read ts start last o e in
    record {
      part = u.part;
      unit = record { spelled = matched ts (unit_pieces (u.part)) start last e (u.fits); formed = u.formed; names = u.reads; within = within ts (unit_pieces (u.part)) start last e c (u.fits) };
      pieces = u.fits;
    }

-- runs over tokens and more tokens
on_from : (o : Option Stage) (ts us : List Spelled) → ((n : Stage) → run n (ts ++ us) ≡ run_from (run n ts) (λ m. run m us))
    → run_from o (λ n. run n (ts ++ us)) ≡ run_from (run_from o (λ n. run n ts)) (λ m. run m us)
on_from None ts us f = refl
on_from (Some n) ts us f = f n

pub run_on : (ts us : List Spelled) (s : Stage) → run s (ts ++ us) ≡ run_from (run s ts) (λ m. run m us)
run_on [] us s = refl
run_on (t ∷ ts) us s = on_from (step s t.word t.bytes) ts us (run_on ts us)

-- the tokens of a completion
abbrev pub spelled_of : Piece → Spelled
spelled_of p = record { word = p.word; at = 0; bytes = p.bytes }

abbrev pub tokens_of : List Piece → List Spelled
tokens_of [] = []
tokens_of (p ∷ ps) = spelled_of p ∷ tokens_of ps

tokens_run : (ps : List Piece) (s : Stage) → run s (tokens_of ps) ≡ over s ps
tokens_run [] s = refl
tokens_run (p ∷ ps) s = from_same (step s p.word p.bytes) (step s p.word p.bytes) (λ n. run n (tokens_of ps)) (λ n. over n ps) refl (tokens_run ps)

abbrev pub ending : Stage → List Spelled
ending n = tokens_of (completion n.inside n.pending)

completed : (ts : List Spelled) (n : Stage) → run start ts ≡ Some n → Accepted (ts ++ ending n)
completed ts n e =
    let c = completes n.pending n.types n.fresh n.inside (run_good ts start n tt e) in
    record {
      last = c.last;
      run = run_on ts (ending n) start ∙ ap (λ o. run_from o (λ m. run m (ending n))) e ∙ tokens_run (completion n.inside n.pending) n ∙ c.run;
      ended = c.ended;
    }

-- a completion has no token outside the language
abbrev AllSafe : List Piece → Type 0
AllSafe [] = Unit {0}
AllSafe (p ∷ ps) = (safe p.word ≡ true) × AllSafe ps

all_safe : (ss : List Symbol) (i : Bool) → Good i ss → AllSafe (completion i ss)
all_safe [] true g = (refl, tt)
all_safe [] false g = tt
all_safe (Must w ∷ ss) i g = (g.0, all_safe ss i g.1)
all_safe (Operand m ∷ ss) i g = (refl, all_safe ss i g.1)
all_safe (Open mode.Assign ∷ ss) i g = (refl, (refl, all_safe ss i g.1))
all_safe (Open mode.Cond ∷ ss) i g = (refl, (refl, all_safe ss i g.1))
all_safe (Open mode.Cast ∷ ss) i g = (refl, (refl, all_safe ss i g.1))
all_safe (Open mode.Unary ∷ ss) i g = (refl, (refl, all_safe ss i g.1))
all_safe (Open mode.Size ∷ ss) i g = (refl, (refl, all_safe ss i g.1))
all_safe (Texts ∷ ss) i g = all_safe ss i g.1
all_safe (Suffixes ∷ ss) i g = all_safe ss i g.1
all_safe (Behind u ∷ ss) i g = all_safe ss i g.1
all_safe (Commas ∷ ss) i g = all_safe ss i g.1
all_safe (Optional ∷ ss) i g = all_safe ss i g.1
all_safe (Kind s ∷ ss) i g = all_safe ss i g.1
all_safe (Consts ∷ ss) i g = all_safe ss i g.1
all_safe (TagBody s ∷ ss) i g = all_safe ss i g.1
all_safe (ConstantValue ∷ ss) i g = all_safe ss i g.1
all_safe (Brackets ∷ ss) i g = all_safe ss i g.1
all_safe (Counts ∷ ss) i g = all_safe ss i g.1
all_safe (Body ∷ ss) i g = all_safe ss i g.1
all_safe (Statements ∷ ss) i g = all_safe ss i g.1
all_safe (Else ∷ ss) i g = all_safe ss i g.1
all_safe (Cases ∷ ss) i g = all_safe ss i g.1
all_safe (Base ∷ ss) i g = (refl, all_safe ss i g.1)
all_safe (Tag s ∷ ss) i g = (refl, all_safe ss i g.1)
all_safe (Nameless ∷ ss) i g = (refl, all_safe ss i g.1)
all_safe (Initial ∷ ss) i g = (refl, all_safe ss i g.1)
all_safe (Statement ∷ ss) i g = (refl, all_safe ss i g.1)
all_safe (Declarator naming.Must ∷ ss) i g = (refl, all_safe ss i g.1)
all_safe (Pointer naming.Must ∷ ss) i g = (refl, all_safe ss i g.1)
all_safe (Declarator naming.Typedef ∷ ss) i g = (refl, all_safe ss i g.1)
all_safe (Pointer naming.Typedef ∷ ss) i g = (refl, all_safe ss i g.1)
all_safe (Declarator naming.May ∷ ss) i g = all_safe ss i g.1
all_safe (Pointer naming.May ∷ ss) i g = all_safe ss i g.1
all_safe (Declarator naming.Abstract ∷ ss) i g = all_safe ss i g.1
all_safe (Pointer naming.Abstract ∷ ss) i g = all_safe ss i g.1
all_safe (Fields ∷ ss) i g = (refl, all_safe ss i g)
all_safe (MoreDeclarators ∷ ss) i g = (refl, all_safe ss i g)
all_safe (Constants ∷ ss) i g = (refl, all_safe ss i g)
all_safe (Count ∷ ss) i g = (refl, all_safe ss i g)
all_safe (Parameters ∷ ss) i g = (refl, all_safe ss i g)
all_safe (Void ∷ ss) i g = (refl, all_safe ss i g)
all_safe (MoreParameters ∷ ss) i g = (refl, all_safe ss i g)
all_safe (Entries ∷ ss) i g = (refl, all_safe ss i g)
all_safe (Entry ∷ ss) i g = (refl, all_safe ss i g)
all_safe (MoreEntries ∷ ss) i g = (refl, all_safe ss i g)
all_safe (MoreInitials ∷ ss) i g = (refl, all_safe ss i g)
all_safe (NextInitial ∷ ss) i g = (refl, all_safe ss i g)
all_safe (EndTypedef ∷ ss) i g = (refl, all_safe ss i g)
all_safe (FileEntries ∷ []) i g = (refl, all_safe [] i tt)
all_safe (FileEntries ∷ s ∷ ss) i g = absurd g
all_safe (FirstEntry ∷ []) i g = (refl, all_safe [] i tt)
all_safe (FirstEntry ∷ s ∷ ss) i g = absurd g

safe_outside_key : (b : Bool) (k : Keyword) (ws : List Word) → safe_key k ≡ true → is_outside b (word.Key k ∷ ws) ≡ false
safe_outside_key true key.While ws h = refl
safe_outside_key false key.While ws h = refl
safe_outside_key true key.Int ws h = refl
safe_outside_key false key.Int ws h = refl
safe_outside_key b k ws h = absurd (never (sym h))

safe_outside : (b : Bool) (w : Word) (ws : List Word) → safe w ≡ true → is_outside b (w ∷ ws) ≡ false
safe_outside b (word.Key k) ws h = safe_outside_key b k ws h
safe_outside b w ws h = refl

clean_next : (o : Option Stage) (ps : List Piece) → ((n : Stage) → Clean n (tokens_of ps)) → clean_on o (λ n. Clean n (tokens_of ps))
clean_next None ps f = tt
clean_next (Some n) ps f = f n

safe_clean : (ps : List Piece) (s : Stage) → AllSafe ps → Clean s (tokens_of ps)
safe_clean [] s h = tt
safe_clean (p ∷ ps) s h = (safe_outside s.inside p.word (map (λ q. q.word) (tokens_of ps)) h.0, clean_next (step s p.word p.bytes) ps (λ n. safe_clean ps n h.1))

-- behind a word of a tag stands what is to come of it
abbrev TagHead : List Symbol → Type 0
TagHead (Tag s ∷ ss) = Unit {0}
TagHead ss = ⊥

abbrev TagIf : Option Stage → Type 0
TagIf None = Unit {0}
TagIf (Some n) = TagHead n.pending

tag_must : (b : Bool) (o : Option Stage) → (b ≡ true → ⊥) → TagIf (if b then o else None)
tag_must true o h = absurd (h refl)
tag_must false o h = tt

unsafe_struct : (w : Word) → w ≡ word.Key key.Struct → safe w ≡ true → ⊥
unsafe_struct w e h = never (sym h ∙ ap safe e)

unsafe_enum : (w : Word) → w ≡ word.Key key.Enum → safe w ≡ true → ⊥
unsafe_enum w e h = never (sym h ∙ ap safe e)

struct_tag_must : (w : Word) (o : Option Stage) → safe w ≡ true → TagIf (if is (word.Key key.Struct) w then o else None)
struct_tag_must w o h = tag_must (is (word.Key key.Struct) w) o (λ e. unsafe_struct w (sym (same (word.Key key.Struct) w e)) h)

struct_tag : (ss : List Symbol) (types : List (List ℕ)) (f : List ℕ) (i : Bool) → Good i ss → TagIf (behind types f i ss (heard (word.Key key.Struct) []))
struct_tag [] types f true g = tt
struct_tag [] types f false g = tt
struct_tag (Must w ∷ ss) types f i g = struct_tag_must w _ g.0
struct_tag (Operand mode.Assign ∷ ss) types f i g = tt
struct_tag (Operand mode.Cond ∷ ss) types f i g = tt
struct_tag (Operand mode.Cast ∷ ss) types f i g = tt
struct_tag (Operand mode.Unary ∷ ss) types f i g = tt
struct_tag (Operand mode.Size ∷ ss) types f i g = tt
struct_tag (Open mode.Assign ∷ ss) types f i g = tt
struct_tag (Open mode.Cond ∷ ss) types f i g = tt
struct_tag (Open mode.Cast ∷ ss) types f i g = tt
struct_tag (Open mode.Unary ∷ ss) types f i g = tt
struct_tag (Open mode.Size ∷ ss) types f i g = tt
struct_tag (Texts ∷ ss) types f i g = struct_tag ss types f i g.1
struct_tag (Suffixes ∷ ss) types f i g = struct_tag ss types f i g.1
struct_tag (Behind true ∷ ss) types f i g = struct_tag ss types f i g.1
struct_tag (Behind false ∷ ss) types f i g = struct_tag ss types f i g.1
struct_tag (Commas ∷ ss) types f i g = struct_tag ss types f i g.1
struct_tag (Optional ∷ ss) types f i g = struct_tag ss types f i g.1
struct_tag (Base ∷ ss) types f i g = tt
struct_tag (Kind s ∷ ss) types f i g = struct_tag ss types f i g.1
struct_tag (Consts ∷ ss) types f i g = struct_tag ss types f i g.1
struct_tag (Tag s ∷ ss) types f i g = tt
struct_tag (TagBody s ∷ ss) types f i g = struct_tag ss types f i g.1
struct_tag (Fields ∷ ss) types f i g = tt
struct_tag (MoreDeclarators ∷ ss) types f i g = tt
struct_tag (ConstantValue ∷ ss) types f i g = struct_tag ss types f i g.1
struct_tag (Constants ∷ ss) types f i g = tt
struct_tag (Declarator naming.Must ∷ ss) types f i g = tt
struct_tag (Declarator naming.May ∷ ss) types f i g = struct_tag ss types f i g.1
struct_tag (Declarator naming.Typedef ∷ ss) types f i g = tt
struct_tag (Declarator naming.Abstract ∷ ss) types f i g = struct_tag ss types f i g.1
struct_tag (Pointer naming.Must ∷ ss) types f i g = tt
struct_tag (Pointer naming.May ∷ ss) types f i g = struct_tag ss types f i g.1
struct_tag (Pointer naming.Typedef ∷ ss) types f i g = tt
struct_tag (Pointer naming.Abstract ∷ ss) types f i g = struct_tag ss types f i g.1
struct_tag (Nameless ∷ ss) types f i g = tt
struct_tag (Brackets ∷ ss) types f i g = struct_tag ss types f i g.1
struct_tag (Counts ∷ ss) types f i g = struct_tag ss types f i g.1
struct_tag (Count ∷ ss) types f i g = tt
struct_tag (Parameters ∷ ss) types f i g = tt
struct_tag (Void ∷ ss) types f i g = tt
struct_tag (MoreParameters ∷ ss) types f i g = tt
struct_tag (Entries ∷ ss) types f i g = tt
struct_tag (Entry ∷ ss) types f i g = tt
struct_tag (MoreEntries ∷ ss) types f i g = tt
struct_tag (Initial ∷ ss) types f i g = tt
struct_tag (MoreInitials ∷ ss) types f i g = tt
struct_tag (NextInitial ∷ ss) types f i g = tt
struct_tag (FileEntries ∷ ss) types f i g = tt
struct_tag (FirstEntry ∷ ss) types f i g = tt
struct_tag (EndTypedef ∷ ss) types f i g = tt
struct_tag (Body ∷ ss) types f i g = tt
struct_tag (Statements ∷ ss) types f i g = struct_tag ss types f i g.1
struct_tag (Statement ∷ ss) types f i g = tt
struct_tag (Else ∷ ss) types f i g = struct_tag ss types f i g.1
struct_tag (Cases ∷ ss) types f i g = struct_tag ss types f i g.1

enum_tag_must : (w : Word) (o : Option Stage) → safe w ≡ true → TagIf (if is (word.Key key.Enum) w then o else None)
enum_tag_must w o h = tag_must (is (word.Key key.Enum) w) o (λ e. unsafe_enum w (sym (same (word.Key key.Enum) w e)) h)

enum_tag : (ss : List Symbol) (types : List (List ℕ)) (f : List ℕ) (i : Bool) → Good i ss → TagIf (behind types f i ss (heard (word.Key key.Enum) []))
enum_tag [] types f true g = tt
enum_tag [] types f false g = tt
enum_tag (Must w ∷ ss) types f i g = enum_tag_must w _ g.0
enum_tag (Operand mode.Assign ∷ ss) types f i g = tt
enum_tag (Operand mode.Cond ∷ ss) types f i g = tt
enum_tag (Operand mode.Cast ∷ ss) types f i g = tt
enum_tag (Operand mode.Unary ∷ ss) types f i g = tt
enum_tag (Operand mode.Size ∷ ss) types f i g = tt
enum_tag (Open mode.Assign ∷ ss) types f i g = tt
enum_tag (Open mode.Cond ∷ ss) types f i g = tt
enum_tag (Open mode.Cast ∷ ss) types f i g = tt
enum_tag (Open mode.Unary ∷ ss) types f i g = tt
enum_tag (Open mode.Size ∷ ss) types f i g = tt
enum_tag (Texts ∷ ss) types f i g = enum_tag ss types f i g.1
enum_tag (Suffixes ∷ ss) types f i g = enum_tag ss types f i g.1
enum_tag (Behind true ∷ ss) types f i g = enum_tag ss types f i g.1
enum_tag (Behind false ∷ ss) types f i g = enum_tag ss types f i g.1
enum_tag (Commas ∷ ss) types f i g = enum_tag ss types f i g.1
enum_tag (Optional ∷ ss) types f i g = enum_tag ss types f i g.1
enum_tag (Base ∷ ss) types f i g = tt
enum_tag (Kind s ∷ ss) types f i g = enum_tag ss types f i g.1
enum_tag (Consts ∷ ss) types f i g = enum_tag ss types f i g.1
enum_tag (Tag s ∷ ss) types f i g = tt
enum_tag (TagBody s ∷ ss) types f i g = enum_tag ss types f i g.1
enum_tag (Fields ∷ ss) types f i g = tt
enum_tag (MoreDeclarators ∷ ss) types f i g = tt
enum_tag (ConstantValue ∷ ss) types f i g = enum_tag ss types f i g.1
enum_tag (Constants ∷ ss) types f i g = tt
enum_tag (Declarator naming.Must ∷ ss) types f i g = tt
enum_tag (Declarator naming.May ∷ ss) types f i g = enum_tag ss types f i g.1
enum_tag (Declarator naming.Typedef ∷ ss) types f i g = tt
enum_tag (Declarator naming.Abstract ∷ ss) types f i g = enum_tag ss types f i g.1
enum_tag (Pointer naming.Must ∷ ss) types f i g = tt
enum_tag (Pointer naming.May ∷ ss) types f i g = enum_tag ss types f i g.1
enum_tag (Pointer naming.Typedef ∷ ss) types f i g = tt
enum_tag (Pointer naming.Abstract ∷ ss) types f i g = enum_tag ss types f i g.1
enum_tag (Nameless ∷ ss) types f i g = tt
enum_tag (Brackets ∷ ss) types f i g = enum_tag ss types f i g.1
enum_tag (Counts ∷ ss) types f i g = enum_tag ss types f i g.1
enum_tag (Count ∷ ss) types f i g = tt
enum_tag (Parameters ∷ ss) types f i g = tt
enum_tag (Void ∷ ss) types f i g = tt
enum_tag (MoreParameters ∷ ss) types f i g = tt
enum_tag (Entries ∷ ss) types f i g = tt
enum_tag (Entry ∷ ss) types f i g = tt
enum_tag (MoreEntries ∷ ss) types f i g = tt
enum_tag (Initial ∷ ss) types f i g = tt
enum_tag (MoreInitials ∷ ss) types f i g = tt
enum_tag (NextInitial ∷ ss) types f i g = tt
enum_tag (FileEntries ∷ ss) types f i g = tt
enum_tag (FirstEntry ∷ ss) types f i g = tt
enum_tag (EndTypedef ∷ ss) types f i g = tt
enum_tag (Body ∷ ss) types f i g = tt
enum_tag (Statements ∷ ss) types f i g = enum_tag ss types f i g.1
enum_tag (Statement ∷ ss) types f i g = tt
enum_tag (Else ∷ ss) types f i g = enum_tag ss types f i g.1
enum_tag (Cases ∷ ss) types f i g = enum_tag ss types f i g.1

tag_stage : (types : List (List ℕ)) (f : List ℕ) (i : Bool) (ss : List Symbol) (k : Keyword) → is_tag_key k ≡ true → Good i ss → TagIf (behind types f i ss (heard (word.Key k) []))
tag_stage types f i ss key.Struct h g = struct_tag ss types f i g
tag_stage types f i ss key.Enum h g = enum_tag ss types f i g
tag_stage types f i ss k h g = absurd (never (sym h))

-- these tokens aren't outside the language, with the tokens behind them
abbrev pub PreClean : Stage → List Spelled → List Spelled → Type 0
PreClean s [] rest = Unit {0}
PreClean s (t ∷ ts) rest = (is_outside s.inside (t.word ∷ map (λ q. q.word) (ts ++ rest)) ≡ false) × clean_on (step s t.word t.bytes) (λ n. PreClean n ts rest)

base_no_brace_mark : (m : Mark) → behind_base_mark m ≡ true → is_brace (word.Mark m) ≡ false
base_no_brace_mark mark.Comma h = refl
base_no_brace_mark mark.Semicolon h = refl
base_no_brace_mark mark.CloseParenthesis h = refl
base_no_brace_mark mark.Star h = refl
base_no_brace_mark mark.OpenParenthesis h = refl
base_no_brace_mark mark.OpenBracket h = refl
base_no_brace_mark m h = absurd (never (sym h))

base_no_brace : (w : Word) → behind_base w ≡ true → is_brace w ≡ false
base_no_brace (word.Mark m) h = base_no_brace_mark m h
base_no_brace w h = refl

heads_no_brace : (ps : List Piece) → Heads behind_base ps → begins_brace (word.Name ∷ map (λ t. t.word) (tokens_of ps)) ≡ false
heads_no_brace [] h = absurd h
heads_no_brace (p ∷ ps) h = base_no_brace p.word h

-- what stands behind the word of a tag doesn't begin with a brace once it is brought to an end
brace_clash : (x : Word) (ws : List Word) → x ≡ word.Mark mark.OpenBrace → begins_brace (x ∷ ws) ≡ false → ⊥
brace_clash x [] e h = never (sym (ap (λ v. begins_brace (v ∷ [])) e) ∙ h)
brace_clash x (w ∷ ws) e h = never (sym (ap (λ v. begins_brace (v ∷ w ∷ ws)) e) ∙ h)

tag_one : (b c : Bool) (x : Word) (types : List (List ℕ)) (f : List ℕ) (i : Bool) (s : TagSort) (ss : List Symbol) (n : Stage) (rest : List Spelled) → Heads behind_base (completion i ss) → is x word.Name ≡ b → is_mark mark.OpenBrace x ≡ c
    → begins_brace (x ∷ map (λ q. q.word) rest) ≡ false → (if b then goes types f i (TagBody s ∷ ss) else if c then goes types f i (contents s ss) else None) ≡ Some n → begins_brace (x ∷ map (λ q. q.word) (ending n)) ≡ false
tag_one true c x types f i s ss n rest g e d h r =
    ap (λ (v : Word). begins_brace (v ∷ map (λ q. q.word) (ending n))) (same x word.Name e)
    ∙ ap (λ (m : Stage). begins_brace (word.Name ∷ map (λ q. q.word) (ending m))) (sym (same_stage _ n r)) ∙ heads_no_brace (completion i ss) g
tag_one false true x types f i s ss n rest g e d h r = absurd (brace_clash x (map (λ q. q.word) rest) (same x (word.Mark mark.OpenBrace) d) h)
tag_one false false x types f i s ss n rest g e d h r = absurd (no_stage n r)

from_none : (o : Option Stage) → o ≡ run_from o (λ m. Some m)
from_none None = refl
from_none (Some s) = refl

tag_tail_of : (pre : List Spelled) (types : List (List ℕ)) (f : List ℕ) (i : Bool) (ss : List Symbol) (n : Stage) (rest : List Spelled) → TagHead ss → Good i ss → run (at types i f ss) pre ≡ Some n
    → begins_brace (map (λ q. q.word) (pre ++ rest)) ≡ false → begins_brace (map (λ q. q.word) (pre ++ ending n)) ≡ false
tag_tail_of [] types f i (Tag s ∷ ss) n rest t g e h =
    ap (λ (m : Stage). begins_brace (map (λ q. q.word) (ending m))) (sym (same_stage _ n e)) ∙ heads_no_brace (completion i ss) g.0
tag_tail_of (x ∷ []) types f i (Tag s ∷ ss) n rest t g e h =
    tag_one (is x.word word.Name) (is_mark mark.OpenBrace x.word) x.word types f i s ss n rest g.0 refl refl h (from_none (behind types f i (Tag s ∷ ss) (heard x.word x.bytes)) ∙ e)
tag_tail_of (x ∷ y ∷ pre) types f i (Tag s ∷ ss) n rest t g e h = h
tag_tail_of pre types f i ss n rest t g e h = absurd t

tag_tail : (pre : List Spelled) (s1 n : Stage) (rest : List Spelled) → TagHead s1.pending → Good s1.inside s1.pending → run s1 pre ≡ Some n
    → begins_brace (map (λ q. q.word) (pre ++ rest)) ≡ false → begins_brace (map (λ q. q.word) (pre ++ ending n)) ≡ false
tag_tail pre s1 n rest t g e h = tag_tail_of pre s1.types s1.fresh s1.inside s1.pending n rest t g e h

either_false : (a b : Bool) → a || b ≡ false → (a ≡ false) × (b ≡ false)
either_false true b h = absurd (never h)
either_false false b h = (refl, h)

tag_with : (c x y : Bool) → c && x ≡ false → (c ≡ true → x ≡ false → y ≡ false) → c && y ≡ false
tag_with true x y h f = f refl h
tag_with false x y h f = refl

tag_next : (o : Option Stage) (pre : List Spelled) (n : Stage) (rest : List Spelled) → TagIf o → GoodIf o → run_from o (λ m. run m pre) ≡ Some n
    → begins_brace (map (λ q. q.word) (pre ++ rest)) ≡ false → begins_brace (map (λ q. q.word) (pre ++ ending n)) ≡ false
tag_next None pre n rest t g e h = absurd (no_stage n e)
tag_next (Some s) pre n rest t g e h = tag_tail pre s n rest t g e h

outside_with : (b : Bool) (k : Keyword) (x y : Bool) → is_outside_key k || (b && (is_file_key k || (is_tag_key k && x))) ≡ false → (is_tag_key k ≡ true → x ≡ false → y ≡ false)
    → is_outside_key k || (b && (is_file_key k || (is_tag_key k && y))) ≡ false
outside_with false k x y h f = h
outside_with true k x y h f =
    let p = either_false (is_outside_key k) _ h in
    let q = either_false (is_file_key k) _ p.1 in
    rw (p.0, q.0) (tag_with (is_tag_key k) x y q.1 f)

one_clean : (w : Word) (s : Stage) (bs : List ℕ) (pre rest : List Spelled) (n : Stage) → Good s.inside s.pending → run_from (step s w bs) (λ m. run m pre) ≡ Some n
    → is_outside s.inside (w ∷ map (λ q. q.word) (pre ++ rest)) ≡ false → is_outside s.inside (w ∷ map (λ q. q.word) (pre ++ ending n)) ≡ false
one_clean (word.Key k) s bs pre rest n g e h =
    outside_with s.inside k (begins_brace (map (λ q. q.word) (pre ++ rest))) (begins_brace (map (λ q. q.word) (pre ++ ending n))) h
    (λ t b. tag_next (step s (word.Key k) bs) pre n rest (tag_stage s.types s.fresh s.inside s.pending k t g) (kept s.pending s.types s.fresh s.inside (heard (word.Key k) bs) g) e b)
one_clean w s bs pre rest n g e h = refl

clean_from : (o : Option Stage) (ts rest : List Spelled) (n : Stage) → run_from o (λ m. run m ts) ≡ Some n → GoodIf o
    → ((m : Stage) → Good m.inside m.pending → run m ts ≡ Some n → PreClean m ts rest → Clean m (ts ++ ending n)) → clean_on o (λ m. PreClean m ts rest) → clean_on o (λ m. Clean m (ts ++ ending n))
clean_from None ts rest n e g f c = tt
clean_from (Some m) ts rest n e g f c = f m g e c

-- so a beginning is clean when it is brought to an end
clean : (ts rest : List Spelled) (s n : Stage) → Good s.inside s.pending → run s ts ≡ Some n → PreClean s ts rest → Clean s (ts ++ ending n)
clean [] rest s n g e c = subst (λ m. Clean s (ending m)) (same_stage s n e) (safe_clean (completion s.inside s.pending) s (all_safe s.pending s.inside g))
clean (t ∷ ts) rest s n g e c =
    (one_clean t.word s t.bytes ts rest n g e c.0, clean_from (step s t.word t.bytes) ts rest n e (kept s.pending s.types s.fresh s.inside (heard t.word t.bytes) g) (λ m. clean ts rest m n) c.1)

pub read_beginning : (ts rest : List Spelled) (n : Stage) → run start ts ≡ Some n → PreClean start ts rest → Read (ts ++ ending n)
read_beginning ts rest n e c =
    let a = completed ts n e in
    unit_read (ts ++ ending n) (a.last) (a.run) (a.ended) (clean ts rest start n tt e c)

pub beginning : (ts rest : List Spelled) (n : Stage) → run start ts ≡ Some n → PreClean start ts rest → AreBeginning ts
beginning ts rest n e c = let r = read_beginning ts rest n e c in record { unit = r.part; begins = record { rest = ending n; unit = r.unit } }

-- and what the walk doesn't take begins none
not_beginning : (ts : List Spelled) → run start ts ≡ None → AreBeginning ts → ⊥
not_beginning ts e b =
    let a = unit_accepted (ts ++ b.begins.rest) (b.unit) (b.begins.unit) in
    no_stage (a.last) (ap (λ o. run_from o (λ m. run m (b.begins.rest))) (sym e) ∙ sym (run_on ts (b.begins.rest) start) ∙ a.run)

-- where the walk stops

pub record Halted (s : Stage) (ts : List Spelled) (k : ℕ) (f : Fault) : Type 0 where
  pub stage : Stage
  pub before : run s (take k ts) ≡ Some stage
  pub clean : PreClean s (take k ts) (drop k ts)
  pub how : ((f ≡ outside) × (k < length ts) × (is_outside stage.inside (map (λ q. q.word) (drop k ts)) ≡ true))
      ⊎ ((f ≡ syntax_fault) × (k < length ts) × (run s (take (suc k) ts) ≡ None) × (is_outside stage.inside (map (λ q. q.word) (drop k ts)) ≡ false))
      ⊎ ((f ≡ syntax_fault) × (k ≡ length ts) × (is_over stage ≡ false))

pub record WrongAt (i : ℕ) (w : Wrong) (s : Stage) (ts : List Spelled) : Type 0 where
  pub passed : ℕ
  pub place : w.token ≡ i + passed
  pub halted : Halted s ts passed w.fault

none_some : (w : Wrong) → ◌≡◌ {A = Option Wrong} None (Some w) → ⊥
none_some w h = cc

same_wrong : (v w : Wrong) → Some v ≡ Some w → v ≡ w
same_wrong v w h = cc

plus_zero : (i : ℕ) → i ≡ i + 0
plus_zero i = omega arith

moved : (i k : ℕ) → i + 1 + k ≡ i + suc k
moved i k = omega arith

first_of_more : (n : ℕ) → 0 < suc n
first_of_more n = search arith

one_more : (k n : ℕ) → k < n → suc k < suc n
one_more k n h = search arith

answered : (i : ℕ) (f : Fault) (w : Wrong) (s : Stage) (ts : List Spelled) → wrong_at i f ≡ Some w → Halted s ts 0 f → WrongAt i w s ts
answered i f w s ts e h = record {
  passed = 0;
  place = ap (λ v. v.token) (sym (same_wrong _ w e)) ∙ plus_zero i;
  halted = subst (Halted s ts 0) (ap (λ v. v.fault) (same_wrong _ w e)) h;
}

halted_end : (i : ℕ) (b : Bool) (w : Wrong) (s : Stage) → is_over s ≡ b → (if b then None else wrong_at i syntax_fault) ≡ Some w → WrongAt i w s []
halted_end i true w s o e = absurd (none_some w e)
halted_end i false w s o e = answered i syntax_fault w s [] e (record { stage = s; before = refl; clean = tt; how = inr (inr (refl, refl, o)) })

halted_step : (i : ℕ) (w : Wrong) (s : Stage) (t : Spelled) (ts : List Spelled) (o : Option Stage) → step s t.word t.bytes ≡ o → is_outside s.inside (t.word ∷ map (λ q. q.word) ts) ≡ false
    → ((n : Stage) → wrong (i + 1) n ts ≡ Some w → WrongAt (i + 1) w n ts) → wrong_from i o (λ n. wrong (i + 1) n ts) ≡ Some w → WrongAt i w s (t ∷ ts)
halted_step i w s t ts None h c f e =
    answered i syntax_fault w s (t ∷ ts) e
    (record { stage = s; before = refl; clean = tt; how = inr (inl (refl, first_of_more (length ts), ap (λ q. run_from q (λ m. run m [])) h, c)) })
halted_step i w s t ts (Some n) h c f e =
    let r = f n e in
    let k = r.halted in
    record {
      passed = suc (r.passed);
      place = r.place ∙ moved i (r.passed);
      halted = record {
        stage = k.stage;
        before = ap (λ q. run_from q (λ m. run m (take (r.passed) ts))) h ∙ k.before;
        clean = (ap (λ qs. is_outside s.inside (t.word ∷ map (λ q. q.word) qs)) (take-append-drop (r.passed) ts) ∙ c, subst (λ q. clean_on q (λ m. PreClean m (take (r.passed) ts) (drop (r.passed) ts))) (sym h) k.clean);
        how = elim (k.how) [
          | inl a ↦ inl (a.0, one_more (r.passed) (length ts) a.1, a.2)
          | inr (inl a) ↦ inr (inl (a.0, one_more (r.passed) (length ts) a.1, ap (λ q. run_from q (λ m. run m (take (suc (r.passed)) ts))) h ∙ a.2, a.3))
          | inr (inr a) ↦ inr (inr (a.0, ap suc a.1, a.2))
        ];
      };
    }

halted_one : (i : ℕ) (b : Bool) (w : Wrong) (s : Stage) (t : Spelled) (ts : List Spelled) → is_outside s.inside (t.word ∷ map (λ q. q.word) ts) ≡ b
    → ((n : Stage) → wrong (i + 1) n ts ≡ Some w → WrongAt (i + 1) w n ts) → (if b then wrong_at i outside else wrong_from i (step s t.word t.bytes) (λ n. wrong (i + 1) n ts)) ≡ Some w → WrongAt i w s (t ∷ ts)
halted_one i true w s t ts c f e =
    answered i outside w s (t ∷ ts) e (record { stage = s; before = refl; clean = tt; how = inl (refl, first_of_more (length ts), c) })
halted_one i false w s t ts c f e = halted_step i w s t ts (step s t.word t.bytes) refl c f e

pub halted : (ts : List Spelled) (i : ℕ) (w : Wrong) (s : Stage) → wrong i s ts ≡ Some w → WrongAt i w s ts
halted [] i w s e = halted_end i (is_over s) w s refl e
halted (t ∷ ts) i w s e = halted_one i (is_outside s.inside (t.word ∷ map (λ q. q.word) ts)) w s t ts refl (halted ts (i + 1) w) e

-- where it finds nothing wrong

pub record Right (s : Stage) (ts : List Spelled) : Type 0 where
  pub last : Stage
  pub run : run s ts ≡ Some last
  pub ended : is_over last ≡ true
  pub clean : Clean s ts

some_none : (w : Wrong) → ◌≡◌ {A = Option Wrong} (Some w) None → ⊥
some_none w h = cc

right_end : (i : ℕ) (b : Bool) (s : Stage) → is_over s ≡ b → (if b then None else wrong_at i syntax_fault) ≡ None → Right s []
right_end i true s o e = record { last = s; run = refl; ended = o; clean = tt }
right_end i false s o e = absurd (some_none _ e)

right_step : (i : ℕ) (s : Stage) (t : Spelled) (ts : List Spelled) (o : Option Stage) → step s t.word t.bytes ≡ o → is_outside s.inside (t.word ∷ map (λ q. q.word) ts) ≡ false
    → ((n : Stage) → wrong (i + 1) n ts ≡ None → Right n ts) → wrong_from i o (λ n. wrong (i + 1) n ts) ≡ None → Right s (t ∷ ts)
right_step i s t ts None h c f e = absurd (some_none _ e)
right_step i s t ts (Some n) h c f e =
    let r = f n e in
    record {
      last = r.last;
      run = ap (λ q. run_from q (λ m. run m ts)) h ∙ r.run;
      ended = r.ended;
      clean = (c, subst (λ q. clean_on q (λ m. Clean m ts)) (sym h) r.clean);
    }

right_one : (i : ℕ) (b : Bool) (s : Stage) (t : Spelled) (ts : List Spelled) → is_outside s.inside (t.word ∷ map (λ q. q.word) ts) ≡ b → ((n : Stage) → wrong (i + 1) n ts ≡ None → Right n ts)
    → (if b then wrong_at i outside else wrong_from i (step s t.word t.bytes) (λ n. wrong (i + 1) n ts)) ≡ None → Right s (t ∷ ts)
right_one i true s t ts c f e = absurd (some_none _ e)
right_one i false s t ts c f e = right_step i s t ts (step s t.word t.bytes) refl c f e

pub right : (ts : List Spelled) (i : ℕ) (s : Stage) → wrong i s ts ≡ None → Right s ts
right [] i s e = right_end i (is_over s) s refl e
right (t ∷ ts) i s e = right_one i (is_outside s.inside (t.word ∷ map (λ q. q.word) ts)) s t ts refl (right ts (i + 1)) e

-- the block that a piece lies in is the walk's

flag_on : (o : Option Stage) (ts us : List Spelled) (k : ℕ) (n : Stage) (ps : List Piece) → run_from o (λ m. run m (take k ts)) ≡ Some n
    → ((m : Stage) → run m (take k ts) ≡ Some n → ArePieces (met m (take k ts ++ us)) ps → inside_at (slice_get ps k) ≡ n.inside) → ArePieces (met_on o (λ m. met m (take k ts ++ us))) ps → inside_at (slice_get ps k) ≡ n.inside
flag_on None ts us k n ps e f h = absurd (no_stage n e)
flag_on (Some m) ts us k n ps e f h = f m e h

flag_here : (us : List Spelled) (s : Stage) (ps : List Piece) → (us ≡ [] → s.inside ≡ false) → ArePieces (met s us) ps → inside_at (slice_get ps 0) ≡ s.inside
flag_here [] s [] f h = sym (f refl)
flag_here [] s (p ∷ ps) f h = absurd h
flag_here (x ∷ us) s [] f h = absurd h
flag_here (x ∷ us) s (p ∷ ps) f h = sym h.0.3

pub too_many : (k : ℕ) → suc k ≤ 0 → ⊥
too_many k h = omega (arith, h)

one_less : (k n : ℕ) → suc k ≤ suc n → k ≤ n
one_less k n h = search arith

flag_at : (k : ℕ) (ts us : List Spelled) (s n : Stage) (ps : List Piece) → k ≤ length ts → run s (take k ts) ≡ Some n → (us ≡ [] → n.inside ≡ false) → ArePieces (met s (take k ts ++ us)) ps → inside_at (slice_get ps k) ≡ n.inside
flag_at zero ts us s n ps l e f h = subst (λ m. inside_at (slice_get ps 0) ≡ m.inside) (same_stage s n e) (flag_here us s ps (λ q. ap (λ m. m.inside) (same_stage s n e) ∙ f q) h)
flag_at (suc k) [] us s n ps l e f h = absurd (too_many k l)
flag_at (suc k) (t ∷ ts) us s n [] l e f h = absurd h
flag_at (suc k) (t ∷ ts) us s n (p ∷ ps) l e f h = flag_on (step s t.word t.bytes) ts us k n ps e (λ m d. flag_at k ts us m n ps (one_less k (length ts) l) d f) h.1

pub over_outside : (ss : List Symbol) (b : Bool) → ends_here ss b ≡ true → b ≡ false
over_outside [] false h = refl
over_outside [] true h = absurd (never (sym h))
over_outside (s ∷ ss) true h = absurd (never (sym h))
over_outside (s ∷ ss) false h = refl

pub append_none : (ts : List Spelled) → ts ++ [] ≡ ts
append_none [] = refl
append_none (t ∷ ts) = ap (λ us. t ∷ us) (append_none ts)

-- a beginning that needs nothing more ends outside of blocks
nothing_more : (ts : List Spelled) (n : Stage) → run start ts ≡ Some n → ending n ≡ [] → n.inside ≡ false
nothing_more ts n e h =
    let a = completed ts n e in
    let l : a.last ≡ n = same_stage (a.last) n (sym (a.run) ∙ ap (λ us. run start (ts ++ us)) h ∙ ap (run start) (append_none ts) ∙ e) in
    over_outside n.pending n.inside (ap is_over (sym l) ∙ a.ended)

pub whole : (ts : List Spelled) (k : ℕ) → k ≡ length ts → take k ts ≡ ts
whole ts k h = ap (λ n. take n ts) h ∙ take-length ts

pub below : (k n : ℕ) → k < n → k ≤ n
below k n h = search arith

told_outside : (ts : List Spelled) (k : ℕ) (n : Stage) → k < length ts → run start (take k ts) ≡ Some n → PreClean start (take k ts) (drop k ts) → is_outside n.inside (map (λ q. q.word) (drop k ts)) ≡ true → IsOutside ts k
told_outside ts k n l e c o =
    let r = read_beginning (take k ts) (drop k ts) n e c in
    let q : inside_at (slice_get (unit_pieces (r.part)) k) ≡ n.inside =
    flag_at k ts (ending n) start n (unit_pieces (r.part)) (below k (length ts) l) e (nothing_more (take k ts) n e) (r.pieces) in
    record {
      unit = r.part;
      begins = record { rest = ending n; unit = r.unit };
      outside = ap (λ b. is_outside b (map (λ t. t.word) (drop k ts))) q ∙ o;
    }

not_over : (n : Stage) → is_over n ≡ false → is_over n ≡ true → ⊥
not_over n f t = never (sym t ∙ f)

told_end : (ts : List Spelled) (k : ℕ) (n : Stage) → k ≡ length ts → run start (take k ts) ≡ Some n → PreClean start (take k ts) (drop k ts) → is_over n ≡ false → Stops ts k
told_end ts k n l e c o =
    at_end l (subst AreBeginning (whole ts k l) (beginning (take k ts) (drop k ts) n e c))
    (λ u h. let a = unit_accepted ts u h in not_over n o (ap is_over (same_stage n (a.last) (sym e ∙ ap (run start) (whole ts k l) ∙ a.run)) ∙ a.ended))

told_stop : (ts : List Spelled) (k : ℕ) (n : Stage) → k < length ts → run start (take k ts) ≡ Some n → PreClean start (take k ts) (drop k ts) → run start (take (suc k) ts) ≡ None → Stops ts k
told_stop ts k n l e c o =
    at_token l (beginning (take k ts) (drop k ts) n e c) (λ b. not_beginning (take (suc k) ts) o (subst (λ j. AreBeginning (take j ts)) (add-one k) b))

told_by : (ts : List Spelled) (k : ℕ) (f : Fault) → Halted start ts k f → ToldOf ts k f
told_by ts k f h = elim (h.how) [
  | inl a ↦ subst (ToldOf ts k) (sym a.0) (told_outside ts k (h.stage) a.1 (h.before) (h.clean) a.2)
  | inr (inl a) ↦ subst (ToldOf ts k) (sym a.0) (told_stop ts k (h.stage) a.1 (h.before) (h.clean) a.2)
  | inr (inr a) ↦ subst (ToldOf ts k) (sym a.0) (told_end ts k (h.stage) a.1 (h.before) (h.clean) a.2)
]

pub from_zero : (k : ℕ) → 0 + k ≡ k
from_zero k = omega arith

told_from : (ts : List Spelled) (o : Option Wrong) → wrong 0 start ts ≡ o → Told ts o
told_from ts None e =
    let r = right ts 0 start e in
    let u = unit_read ts (r.last) (r.run) (r.ended) (r.clean) in
    (u.part, u.unit)
told_from ts (Some w) e =
    let r = halted ts 0 w start e in
    subst (λ k. ToldOf ts k w.fault) (sym (r.place ∙ from_zero (r.passed))) (told_by ts (r.passed) w.fault (r.halted))

pub told : (ts : List Spelled) → Told ts (wrong 0 start ts)
told ts = told_from ts (wrong 0 start ts) refl
