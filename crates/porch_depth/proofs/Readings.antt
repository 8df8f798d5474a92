-- One more token that was read.
use Rattle.std.proofs.Common.{◌≡◌, ℕ, ◌+◌, Bool, true, false, List, [], ◌∷◌, ◌++◌, reverse, drop, Option, sym, subst, ap, ◌∙◌, append_assoc}
use Rattle.std.proofs.lemmas.List.{append-nil}
use Rattle.porch_tree.specs.declared.word.Word.{Word}
use Rattle.porch_tree.specs.Pieces.{Spelled}
use Rattle.porch_lex.specs.declared.token.Token.{Token}
use Rattle.porch_lex.specs.Words.{spelled_token, spelled}
use Rattle.porch_walk.specs.declared.symbol.Symbol.{Symbol}
use Rattle.porch_walk.specs.Walk.{Stage, start}
use Rattle.porch_walk.specs.Walks.{Took, knows, step_by}
use Rattle.porch_walk.specs.declared.level.Level.{Level}
use Rattle.porch_walk.specs.declared.level.Reading.{Reading}
use Rattle.porch_depth.specs.declared.along.Reader.{Reader}
use Rattle.porch_walk.specs.Levels.{Read, read, readings, readings_from}
use Rattle.porch_depth.specs.inside.Takes.{is_read}
use Rattle.porch_depth.specs.inside.Reads.{read_at, IsReadOn, ReadOn, HasRead}

read_is : (s : Stage) (t : Spelled) (i : ℕ) (known : Bool) (w : Word) (parts : List Symbol) (ls kept : List Level) (r : Reading)
    → known ≡ knows s t → w ≡ t.word → parts ≡ s.pending → read known i w parts ls ≡ is_read r kept → read_at s ls i t ≡ is_read r kept
read_is s t i known w parts ls kept r e f g h =
    ap (λ k. read k i t.word s.pending ls) (sym e) ∙ ap (λ v. read known i v s.pending ls) (sym f) ∙ ap (λ ps. read known i w ps ls) (sym g) ∙ h

pub read_on : (s : Stage) (t : Spelled) (i : ℕ) (known b : Bool) (w : Word) (parts : List Symbol) (old new : Reader) (r : Reading)
    → known ≡ knows s t → w ≡ t.word → parts ≡ s.pending → read known i w parts (reverse old.levels.items) ≡ is_read r (reverse new.levels.items)
    → b ≡ true → Took b (step_by s t) new.walk → new.readings.items ≡ old.readings.items ++ r ∷ [] → IsReadOn s t i old new
read_on s t i known b w parts old new r e f g h k o p =
    let q = read_is s t i known w parts (reverse old.levels.items) (reverse new.levels.items) r e f g h in
    let o : Took true (step_by s t) new.walk = subst (λ c. Took c (step_by s t) new.walk) k o in
    record {
      next = o.next;
      same = o.same;
      at = o.at;
      shown = p ∙ ap (λ (v : Read). old.readings.items ++ v.reading ∷ []) (sym q);
      levels = ap (λ (v : Read). v.levels) (sym q);
    }

-- behind a token that can come
pub has_read_on : (text : List ℕ) (ts : List Token) (i n : ℕ) (t : Token) (old new : Reader) (b : Bool) (h : HasRead text ts i old)
    → drop i ts ≡ t ∷ drop (i + 1) ts → n ≡ i → b ≡ true → ReadOn b h.stage (spelled_token text t) n old new → HasRead text ts (i + 1) new
has_read_on text ts i n t old new b h d e k o =
    let o : ReadOn true h.stage (spelled_token text t) i old new = subst (λ m. ReadOn true h.stage (spelled_token text t) m old new) e (subst (λ c. ReadOn c h.stage (spelled_token text t) n old new) k o) in
    record {
      stage = o.next;
      at = o.at;
      same =
          ap (λ rs. rs ++ readings o.next (reverse new.levels.items) (i + 1) (spelled text (drop (i + 1) ts))) o.shown
          ∙ append_assoc old.readings.items _ _
          ∙ ap (λ ls. old.readings.items ++ (read_at h.stage (reverse old.levels.items) i (spelled_token text t)).reading ∷ readings o.next ls (i + 1) (spelled text (drop (i + 1) ts))) o.levels
          ∙ ap (λ (s : Option Stage). old.readings.items ++ readings_from s (λ next. (read_at h.stage (reverse old.levels.items) i (spelled_token text t)).reading
          ∷ readings next (read_at h.stage (reverse old.levels.items) i (spelled_token text t)).levels (i + 1) (spelled text (drop (i + 1) ts)))) (sym o.same)
          ∙ ap (λ us. old.readings.items ++ readings h.stage (reverse old.levels.items) i (spelled text us)) (sym d) ∙ h.same;
    }

-- at a token that can't come
pub has_read_all : (text : List ℕ) (ts : List Token) (i n : ℕ) (t : Token) (old new : Reader) (b : Bool) (h : HasRead text ts i old)
    → drop i ts ≡ t ∷ drop (i + 1) ts → b ≡ false → ReadOn b h.stage (spelled_token text t) n old new → new.readings.items ≡ readings start [] 0 (spelled text ts)
has_read_all text ts i n t old new b h d k o =
    let o : ReadOn false h.stage (spelled_token text t) n old new = subst (λ c. ReadOn c h.stage (spelled_token text t) n old new) k o in
    o.1 ∙ sym (append-nil old.readings.items)
    ∙ ap (λ (s : Option Stage). old.readings.items ++ readings_from s (λ next. (read_at h.stage (reverse old.levels.items) i (spelled_token text t)).reading
    ∷ readings next (read_at h.stage (reverse old.levels.items) i (spelled_token text t)).levels (i + 1) (spelled text (drop (i + 1) ts)))) (sym o.0)
    ∙ ap (λ us. old.readings.items ++ readings h.stage (reverse old.levels.items) i (spelled text us)) (sym d) ∙ h.same
