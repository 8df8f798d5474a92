-- Where a walk stands that its caller leads, by where its stage stands.
use Rattle.std.proofs.Common.{◌≡◌, ℕ, Bool, true, false, List, [], ◌∷◌, fold, reverse, Option, refl, ap, ◌∙◌}
use mathlib.Core.List.{reverse_aux}
use Rattle.std.specs.List.{list_any}
use Rattle.std.specs.Str.{bytes_eq}
use Rattle.porch_tree.specs.declared.word.Word.{Word}
use Rattle.porch_walk.specs.declared.symbol.Symbol.{Symbol}
use Rattle.porch_walk.specs.declared.token_walk.TokenWalk.{TokenWalk}
use Rattle.porch_walk.specs.Walk.{Stage, start, names_type, name_bytes}
use Rattle.porch_walk.specs.Walks.{IsAt, Took}
use Rattle.porch_walk.specs.inside.Stages.{Stepped}
use Rattle.porch_walk.specs.inside.Steps.{upward}

-- a walk with nothing read
pub at_start : (w : TokenWalk) → w.stage.types.keys ≡ [] → w.stage.fresh.now ≡ [] → w.stage.inside ≡ false
    → w.stage.pending.items ≡ [] → IsAt w start
at_start w a b c d = record { stands = record { types = λ n. rw a refl; fresh = b; inside = c; pending = rw d refl } }

pub turned : (ss : List Symbol) → reverse ss ≡ upward ss
turned ss = onto ss []
  where
    onto : (xs ys : List Symbol) → reverse_aux xs ys ≡ fold (λ (above : List Symbol) s. s ∷ above) ys xs
    onto [] ys = refl
    onto (x ∷ xs) ys = onto xs (x ∷ ys)

pub pending_at : (w : TokenWalk) (s : Stage) (ss : List Symbol) → ss ≡ w.stage.pending.items → IsAt w s → reverse ss ≡ s.pending
pending_at w s ss e h = turned ss ∙ ap upward e ∙ h.stands.pending

pub known_at : (w : TokenWalk) (s : Stage) (own : List ℕ) (b : Bool) (v : Word) (bs : List ℕ) → IsAt w s
    → b ≡ list_any (λ x. bytes_eq own x.now) w.stage.types.keys → own ≡ name_bytes v bs → b ≡ names_type s.types (name_bytes v bs)
known_at w s own b v bs h e f = e ∙ h.stands.types own ∙ ap (names_type s.types) f

pub took_at : (old new : TokenWalk) (b : Bool) (o : Option Stage) → Stepped b o new.stage → Took b o new
took_at old new true o h = record { next = h.next; same = h.same; at = record { stands = h.stands } }
took_at old new false o h = h
