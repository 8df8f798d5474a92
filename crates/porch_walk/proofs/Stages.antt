-- What the code keeps of where a walk stands, behind one more token.
use Rattle.std.proofs.Common.{◌≡◌, ℕ, Bool, true, false, ◌||◌, if◌then◌else◌, List, [], ◌∷◌, ◌++◌, None, refl, sym, ap, ◌∙◌, fold, length, ◌≤◌, arith, Bor}
use Rattle.std.specs.List.{list_any}
use Rattle.std.specs.Str.{bytes_eq}
use lib.Pointwise.{bytes_decides}
use Rattle.indexmap.specs.IndexSet.{insert_key}
use Rattle.porch_tree.specs.declared.word.Word.{Word}
use Rattle.porch_walk.specs.declared.symbol.Symbol.{Symbol}
use Rattle.porch_walk.specs.declared.stage.Stage.{Stage as Kept}
use Rattle.porch_walk.specs.declared.step.Turn.{Turn}
use Rattle.porch_walk.specs.Walk.{Stage, names_type, name_bytes, step, ends_here}
use Rattle.porch_walk.specs.inside.Steps.{upward, Moved, TurnedAt}
use Rattle.porch_walk.specs.Walks.{AreTypes, Stands}

any_more : (f : Bor (List ℕ) → Bool) (ks : List (Bor (List ℕ))) (k : Bor (List ℕ))
    → list_any f (ks ++ k ∷ []) ≡ (f k || list_any f ks)
any_more f [] k = refl
any_more f (x ∷ ks) k = by (f x) (f k) (any_more f ks k)
  where
    by : (a b : Bool) → list_any f (ks ++ k ∷ []) ≡ (b || list_any f ks)
        → (a || list_any f (ks ++ k ∷ [])) ≡ (b || (a || list_any f ks))
    by true true h = refl
    by true false h = refl
    by false b h = h

-- one typedef name more
pub types_more : (ks : List (Bor (List ℕ))) (k : Bor (List ℕ)) (types : List (List ℕ)) → AreTypes ks types
    → AreTypes (insert_key (λ a b. bytes_eq a.now b.now) ks k) (k.now ∷ types)
types_more ks k types h n = by (list_any (λ x. bytes_eq k.now x.now) ks) (bytes_eq n k.now) refl refl
  where
    by : (a b : Bool) → list_any (λ x. bytes_eq k.now x.now) ks ≡ a → bytes_eq n k.now ≡ b
        → list_any (λ x. bytes_eq n x.now) (if a then ks else ks ++ k ∷ []) ≡ (b || names_type types n)
    by true true p q = rw (← (bytes_decides n k.now).0 q) at p
    by true false p q = h n
    by false b p q = any_more (λ x. bytes_eq n x.now) ks k ∙ rw (q, h n) refl

-- what the walk did where the code stands is what it does where the walk stands
pub moved : (t : Turn) (k : Kept) (s : Stage) (w : Word) (bs own : List ℕ) (known : Bool) (ss : List Symbol)
    → Stands k s → own ≡ name_bytes w bs → known ≡ list_any (λ x. bytes_eq own x.now) k.types.keys
    → Moved k.inside known t w (upward k.pending.items) ss
    → TurnedAt t s.types s.fresh s.inside (name_bytes w bs) (step s w bs) None ss
moved t k s w bs own known ss st e h m =
    rw (st.inside, st.pending) at
    (m s.types s.fresh (name_bytes w bs) (sym (h ∙ st.types own ∙ ap (names_type s.types) e)))

-- where something is pending no unit ends
pub pending_on : (ss : List Symbol) (b : Bool) → 1 ≤ length ss → ends_here (upward ss) b ≡ false
pending_on [] b h = absurd (omega (arith, h))
pending_on (x ∷ ss) b h = on x [] ss
  where
    on : (y : Symbol) (ys zs : List Symbol) → ends_here (fold (λ above s. s ∷ above) (y ∷ ys) zs) b ≡ false
    on y ys [] = refl
    on y ys (z ∷ zs) = on z (y ∷ ys) zs
