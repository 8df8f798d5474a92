-- One more body.
use Rattle.std.proofs.Common.{◌≡◌, ℕ, suc, Bool, true, false, if◌then◌else◌, List, [], ◌∷◌, ◌++◌, length, Option, Some, None, refl, sym, ap, ◌∙◌, true≢false, is_some, Bor}
use Rattle.std.specs.Option.{option_map}
use Rattle.std.specs.List.{list_any}
use Rattle.std.specs.Str.{bytes_eq}
use Rattle.std.proofs.lemmas.List.{map-append, length-map}
use Rattle.indexmap.specs.IndexMap.{insert_entry}
use Rattle.porch_scopes.specs.Bodies.{body_number}
use Rattle.porch_scopes.specs.inside.Completes.{tags_of}
use Rattle.porch_scopes.specs.inside.Numbered.{numbered_as, first_number, AreNumbered}
use Rattle.porch_scopes.proofs.Inserted.{found_insert}
use lib.Pointwise.{bytes_decides}

number_first : (x n : List ℕ) (ns : List (List ℕ)) (same any : Bool) → bytes_eq x n ≡ same → list_any (bytes_eq x) ns ≡ any
    → body_number x (n ∷ ns) ≡ (if same then Some 0 else option_map (λ k. suc k) (body_number x ns))
number_first x n ns true any h k = rw h refl
number_first x n ns false true h k = rw (h, k) refl
number_first x n ns false false h k = rw (h, k) refl

step : (found : Option ℕ) (same : Bool) (at : ℕ) → option_map (λ k. suc k) (first_number found same at) ≡ first_number (option_map (λ k. suc k) found) same (suc at)
step (Some n) same at = refl
step None true at = refl
step None false at = refl

more_first : (x m n : List ℕ) (ns : List (List ℕ)) (same : Bool) → bytes_eq x m ≡ same
    → body_number x (ns ++ n ∷ []) ≡ first_number (body_number x ns) (bytes_eq x n) (length ns)
    → body_number x (m ∷ (ns ++ n ∷ [])) ≡ first_number (body_number x (m ∷ ns)) (bytes_eq x n) (length (m ∷ ns))
more_first x m n ns true h more =
    number_first x m (ns ++ n ∷ []) true (list_any (bytes_eq x) (ns ++ n ∷ [])) h refl
    ∙ sym (ap (λ f. first_number f (bytes_eq x n) (length (m ∷ ns))) (number_first x m ns true (list_any (bytes_eq x) ns) h refl))
more_first x m n ns false h more =
    number_first x m (ns ++ n ∷ []) false (list_any (bytes_eq x) (ns ++ n ∷ [])) h refl
    ∙ ap (option_map (λ k. suc k)) more ∙ step (body_number x ns) (bytes_eq x n) (length ns)
    ∙ sym (ap (λ f. first_number f (bytes_eq x n) (length (m ∷ ns))) (number_first x m ns false (list_any (bytes_eq x) ns) h refl))

alone : (x n : List ℕ) (same : Bool) → bytes_eq x n ≡ same → body_number x (n ∷ []) ≡ (if same then Some 0 else None)
alone x n true h = rw h refl
alone x n false h = rw h refl

number_more : (x n : List ℕ) (ns : List (List ℕ)) → body_number x (ns ++ n ∷ []) ≡ first_number (body_number x ns) (bytes_eq x n) (length ns)
number_more x n [] = alone x n (bytes_eq x n) refl
number_more x n (m ∷ ns) = more_first x m n ns (bytes_eq x m) refl (number_more x n ns)

-- a table that has no number for a name, and then this one
pub noted : (x : List ℕ) (es : List (Bor (List ℕ) × ℕ)) (k : Bor (List ℕ)) (v : ℕ) (same : Bool) → bytes_eq x k.now ≡ same
    → numbered_as k.now es ≡ None
    → numbered_as x (insert_entry (λ a b. bytes_eq a.now b.now) es k v) ≡ first_number (numbered_as x es) (bytes_eq x k.now) v
noted x es k v true h none =
    let absent : numbered_as x es ≡ None = ap (λ y. numbered_as y es) ((bytes_decides x k.now).0 h) ∙ none in
    found_insert (λ (q : Bor (List ℕ)). q.now) x es k v ∙ rw (h, absent) refl
noted x es k v false h none = found_insert (λ (q : Bor (List ℕ)). q.now) x es k v ∙ rw h (kept (numbered_as x es))
  where
    kept : (f : Option ℕ) → f ≡ first_number f false v
    kept (Some n) = refl
    kept None = refl

-- a table that has a number for it keeps that
pub known : (x : List ℕ) (es : List (Bor (List ℕ) × ℕ)) (k : List ℕ) (v : ℕ) (same : Bool) (found : Option ℕ) → bytes_eq x k ≡ same
    → is_some (numbered_as k es) ≡ true → numbered_as x es ≡ found → found ≡ first_number found same v
known x es k v same (Some n) h some is = refl
known x es k v true None h some is =
    absurd (true≢false (sym some ∙ ap (λ y. is_some (numbered_as y es)) (sym ((bytes_decides x k).0 h)) ∙ ap is_some is))
known x es k v false None h some is = refl

pub body_more : (names more : List (Bor (List ℕ))) (es fs : List (Bor (List ℕ) × ℕ)) (n : Bor (List ℕ)) (number : ℕ)
    → number ≡ length names → more ≡ names ++ n ∷ []
    → ((x : List ℕ) → numbered_as x fs ≡ first_number (numbered_as x es) (bytes_eq x n.now) number)
    → AreNumbered (tags_of names) es → AreNumbered (tags_of more) fs
body_more names more es fs n number long pushed noted are = record {
  same = λ x.
      noted x ∙ (λ i. first_number (are.same x i) (bytes_eq x n.now) ((long ∙ sym (length-map names (λ (t : Bor (List ℕ)). t.now))) i))
      ∙ sym (ap (λ ts. body_number x (tags_of ts)) pushed
      ∙ ap (body_number x) (map-append (λ (t : Bor (List ℕ)). t.now) names (n ∷ []))
      ∙ number_more x n.now (tags_of names));
}

pub not_some : (o : Option ℕ) → is_some o ≡ false → o ≡ None
not_some None h = refl
not_some (Some n) h = absurd (true≢false h)
