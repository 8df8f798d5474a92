-- What a table by bytes gives after a write.
use Rattle.std.proofs.Common.{◌≡◌, ℕ, Bool, true, false, cond, List, [], ◌∷◌, Option, Some, refl, sym, ap, ◌∙◌, true≢false}
use Rattle.std.specs.Map.{lookup}
use Rattle.std.specs.Str.{bytes_eq}
use Rattle.indexmap.specs.IndexMap.{insert_entry}
use lib.Pointwise.{bytes_decides}

-- `of` gives the bytes of a key
module _ {K X : Type 0} (of : K → List ℕ) where
  abbrev pub at : List ℕ → List (K × X) → Option X
  at x es = lookup (λ k. bytes_eq x (of k)) es

  abbrev pub written : List (K × X) → K → X → List (K × X)
  written es k v = insert_entry (λ a b. bytes_eq (of a) (of b)) es k v

  cases : (x : List ℕ) (e : K × X) (es : List (K × X)) (k : K) (v : X) (a b c : Bool)
      → bytes_eq (of k) (of e.0) ≡ a → bytes_eq x (of k) ≡ b → bytes_eq x (of e.0) ≡ c
      → at x (written es k v) ≡ cond b (Some v) (at x es)
      → at x (written (e ∷ es) k v) ≡ cond b (Some v) (at x (e ∷ es))
  cases x e es k v true true true p q r more = rw (p, r) refl
  cases x e es k v true false false p q r more = rw (p, r) refl
  cases x e es k v true true false p q r more = absurd (true≢false (sym q ∙ ap (bytes_eq x) ((bytes_decides (of k) (of e.0)).0 p) ∙ r))
  cases x e es k v true false true p q r more = absurd (true≢false (sym r ∙ ap (bytes_eq x) (sym ((bytes_decides (of k) (of e.0)).0 p)) ∙ q))
  cases x e es k v false true true p q r more =
      absurd (true≢false (sym r ∙ ap (λ y. bytes_eq y (of e.0)) ((bytes_decides x (of k)).0 q) ∙ p))
  cases x e es k v false false true p q r more = rw (p, r) refl
  cases x e es k v false b false p q r more = rw (p, r) more

  pub found_insert : (x : List ℕ) (es : List (K × X)) (k : K) (v : X)
      → at x (written es k v) ≡ cond (bytes_eq x (of k)) (Some v) (at x es)
  found_insert x [] k v = refl
  found_insert x (e ∷ es) k v =
      cases x e es k v (bytes_eq (of k) (of e.0)) (bytes_eq x (of k)) (bytes_eq x (of e.0)) refl refl refl (found_insert x es k v)
