-- One more tag in a list and in the set that finds them.
use Rattle.std.proofs.Common.{◌≡◌, ℕ, Bool, true, false, ◌||◌, List, [], ◌∷◌, ◌++◌, refl, sym, ap, ◌∙◌, Bor}
use Rattle.std.specs.List.{list_any}
use Rattle.std.specs.Str.{bytes_eq}
use Rattle.std.proofs.lemmas.List.{map-append}
use Rattle.indexmap.specs.IndexSet.{insert_key}
use Rattle.porch_scopes.specs.inside.Completes.{tags_of, AreKnown}
use lib.Pointwise.{bytes_decides}

any_more : {A : Type 0} (p : A → Bool) (xs : List A) (x : A) → list_any p (xs ++ x ∷ []) ≡ (list_any p xs || p x)
any_more p [] x = by (p x)
  where
    by : (b : Bool) → (b || false) ≡ b
    by true = refl
    by false = refl
any_more p (y ∷ xs) x = by (p y) (any_more p xs x)
  where
    by : (b : Bool) → list_any p (xs ++ x ∷ []) ≡ (list_any p xs || p x) → (b || list_any p (xs ++ x ∷ [])) ≡ ((b || list_any p xs) || p x)
    by true more = refl
    by false more = more

or_true : (b : Bool) → (b || true) ≡ true
or_true true = refl
or_true false = refl

or_false : (b : Bool) → (b || false) ≡ b
or_false true = refl
or_false false = refl

abbrev among : List ℕ → List (Bor (List ℕ)) → Bool
among x ks = list_any (λ (k : Bor (List ℕ)). bytes_eq x k.now) ks

-- a key more in the set, of which it may be one
inserted : (x : List ℕ) (keys : List (Bor (List ℕ))) (t : Bor (List ℕ)) (b c : Bool) → among t.now keys ≡ b → bytes_eq x t.now ≡ c
    → among x (insert_key (λ a b. bytes_eq a.now b.now) keys t) ≡ (among x keys || bytes_eq x t.now)
inserted x keys t true true h k =
    rw h (rw k (ap (λ y. among y keys) ((bytes_decides x t.now).0 k) ∙ h ∙ sym (or_true (among x keys))))
inserted x keys t true false h k = rw h (rw k (sym (or_false (among x keys))))
inserted x keys t false c h k = rw h (any_more (λ (q : Bor (List ℕ)). bytes_eq x q.now) keys t)

pub known_more : (tags more keys grown : List (Bor (List ℕ))) (t : Bor (List ℕ)) → more ≡ tags ++ t ∷ []
    → grown ≡ insert_key (λ a b. bytes_eq a.now b.now) keys t → AreKnown tags keys → AreKnown more grown
known_more tags more keys grown t pushed put known = record {
  same = λ x.
      ap (among x) put ∙ inserted x keys t (among t.now keys) (bytes_eq x t.now) refl refl
      ∙ ap (λ b. b || bytes_eq x t.now) (known.same x)
      ∙ sym (ap (λ ts. list_any (λ y. bytes_eq x y) (tags_of ts)) pushed
      ∙ ap (list_any (λ y. bytes_eq x y)) (map-append (λ (k : Bor (List ℕ)). k.now) tags (t ∷ []))
      ∙ any_more (λ y. bytes_eq x y) (tags_of tags) t.now);
}
