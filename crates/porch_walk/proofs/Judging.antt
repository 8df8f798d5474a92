-- One token, and the bytes that spell it.
use Rattle.std.proofs.Common.{◌≡◌, ◌≤◌, ◌+◌, ℕ, Bool, false, zero, suc, List, [], ◌∷◌, map, take, drop, length, Option, Some, None, refl, sym, subst, ap, ◌∙◌, arith}
use Rattle.std.proofs.lemmas.Option.{none-some}
use Rattle.porch_lex.specs.declared.token.Token.{Token}
use Rattle.porch_lex.specs.Words.{kind_word, bytes_between, spelled_token, spelled}
use Rattle.porch_tree.specs.declared.word.Word.{Word}
use Rattle.porch_tree.specs.Pieces.{Spelled}
use Rattle.porch_tree.specs.Grammar.{is_outside}
use Rattle.porch_walk.specs.declared.stage.Stage.{Stage as Kept}
use Rattle.porch_walk.specs.Reach.{IsReachOf}
use Rattle.porch_walk.specs.Walk.{Stage, Wrong, step, start, wrong, wrong_at}
use Rattle.porch_walk.specs.declared.wrong.WalkFault.{WalkFault}
use Rattle.porch_walk.specs.Wrongs.{fault_of}
use Rattle.porch_walk.specs.inside.Stages.{StandsBehind, JudgedOn, Judged, Walked, words_of}
use Rattle.porch_walk.specs.Walks.{Stands}
use Rattle.porch_walk.proofs.Reach.{reach}

pub words_are : (text : List ℕ) (ts : List Token) → map (λ q. q.word) (spelled text ts) ≡ words_of ts
words_are text [] = refl
words_are text (t ∷ ts) = ap (λ ws. kind_word t.kind ∷ ws) (words_are text ts)

pub drop_all : (n : ℕ) (xs : List ℕ) → length xs ≤ n → drop n xs ≡ []
drop_all zero [] h = refl
drop_all (suc n) [] h = refl
drop_all zero (x ∷ xs) h = absurd (omega (arith, h))
drop_all (suc n) (x ∷ xs) h = drop_all n xs (omega (arith, h))

pub take_all : (n : ℕ) (xs : List ℕ) → length xs ≤ n → take n xs ≡ xs
take_all zero [] h = refl
take_all (suc n) [] h = refl
take_all zero (x ∷ xs) h = absurd (omega (arith, h))
take_all (suc n) (x ∷ xs) h = ap (λ ys. x ∷ ys) (take_all n xs (omega (arith, h)))

-- behind a token that can come
pub judged_on : (text : List ℕ) (t : Token) (ts : List Token) (i : ℕ) (s : Stage) (k next : Kept) (w : Word) (bs : List ℕ) (o : Bool)
    → Stands k s → o ≡ is_outside k.inside (w ∷ words_of ts) → o ≡ false → w ≡ kind_word t.kind
    → bs ≡ bytes_between text t.from t.to → StandsBehind (step s w bs) next
    → JudgedOn i s (spelled_token text t) (spelled text ts) next
judged_on text t ts i s k next w bs o st h f e g b = record {
  next = b.next;
  same = rw (within, rw (e, g) at b.same) refl;
  stands = b.stands;
}
  where
    within : is_outside s.inside (kind_word t.kind ∷ map (λ q. q.word) (spelled text ts)) ≡ false
    within = rw (words_are text ts, ← e) (ap (λ b. is_outside b (w ∷ words_of ts)) (sym st.inside) ∙ sym h ∙ f)

-- where nothing has been read
pub walked_first : (text : List ℕ) (ts : List Token) (k : Kept) → k.types.keys ≡ [] → k.fresh.now ≡ [] → k.inside ≡ false
    → k.pending.items ≡ [] → Walked text ts 0 k
walked_first text ts k a b c d = record {
  stage = start;
  same = refl;
  stands = record { types = λ n. rw a refl; fresh = b; inside = c; pending = rw d refl };
}

-- behind one more token
pub walked_on : (text : List ℕ) (ts : List Token) (i : ℕ) (t : Token) (rest : List Token) (k next : Kept) (o : Option WalkFault) (w : Walked text ts i k)
    → drop i ts ≡ t ∷ drop (i + 1) ts → rest ≡ drop (i + 1) ts → o ≡ None
    → Judged i w.stage (spelled_token text t) (spelled text rest) o next → Walked text ts (i + 1) next
walked_on text ts i t rest k next (Some f) w d r e j = absurd (none-some f (sym e))
walked_on text ts i t rest k next None w d r e j = record {
  stage = j.next;
  same = rw (← r) (sym j.same) ∙ ap (λ us. wrong i w.stage (spelled text us)) (sym (d ∙ ap (λ us. t ∷ us) (sym r))) ∙ w.same;
  stands = j.stands;
}

-- at a token with which something is wrong
pub walked_to : (text : List ℕ) (ts : List Token) (i : ℕ) (t : Token) (rest : List Token) (k next : Kept) (o : Option WalkFault) (f : WalkFault) (w : Walked text ts i k)
    → drop i ts ≡ t ∷ drop (i + 1) ts → rest ≡ drop (i + 1) ts → o ≡ Some f
    → Judged i w.stage (spelled_token text t) (spelled text rest) o next
    → wrong_at i (fault_of f) ≡ wrong 0 start (spelled text ts)
walked_to text ts i t rest k next o f w d r e j =
    let at_token : wrong i w.stage (spelled_token text t ∷ spelled text rest) ≡ wrong_at i (fault_of f) = rw e at j in
    sym at_token ∙ ap (λ us. wrong i w.stage (spelled text us)) (sym (d ∙ ap (λ us. t ∷ us) (sym r))) ∙ w.same

-- what is said of what the walk finds is said of what is the same
pub first_of : (ts : List Spelled) (w : Option Wrong) → w ≡ wrong 0 start ts → IsReachOf ts w
first_of ts w e = subst (λ x. IsReachOf ts x) (sym e) (reach ts)
