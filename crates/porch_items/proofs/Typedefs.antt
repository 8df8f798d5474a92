-- Typedef names that a set holds, and the bytes of a name.
use Rattle.std.proofs.Common.{◌≡◌, ℕ, zero, suc, ◌-◌, ◌≤◌, Bool, true, false, ◌||◌, if◌then◌else◌, List, [], ◌∷◌, ◌++◌, length, map, take, drop, refl, sym, ap, ◌∙◌, arith, Bor}
use Rattle.std.specs.List.{list_any}
use Rattle.std.specs.Str.{bytes_eq}
use lib.Pointwise.{bytes_decides}
use lib.ListN.{get_or}
use Rattle.indexmap.specs.IndexSet.{insert_key}
use Rattle.porch_tree.specs.Mirror.{Item, typedef, declaration, function}
use Rattle.porch_tree.specs.declared.tree.Item as code_item
use Rattle.porch_tree.specs.Views.{item_of}
use Rattle.porch_statements.specs.Shown.{items_of}
use Rattle.porch_parts.specs.Parts.{names_type}
use Rattle.porch_unit.specs.Units.{with_last}
use Rattle.porch_items.specs.inside.Reading.{AreTypes}

pub drop_all : (n : ℕ) (xs : List ℕ) → length xs ≤ n → drop n xs ≡ []
drop_all zero [] h = refl
drop_all (suc n) [] h = refl
drop_all zero (x ∷ xs) h = absurd (omega (arith, h))
drop_all (suc n) (x ∷ xs) h = drop_all n xs (omega (arith, h))

pub take_all : (n : ℕ) (xs : List ℕ) → length xs ≤ n → take n xs ≡ xs
take_all zero [] h = refl
take_all (suc n) [] h = refl
take_all zero (x ∷ xs) h = absurd (omega (arith, h))
take_all (suc n) (x ∷ xs) h = ap (λ ys. x ∷ ys) (take_all n xs (omega (arith, h)))

known : (n : List ℕ) (ks : List (Bor (List ℕ))) → list_any (λ k. bytes_eq n k.now) ks ≡ names_type (map (λ k. k.now) ks) n
known n [] = refl
known n (k ∷ ks) = ap (λ b. bytes_eq n k.now || b) (known n ks)

any_more : (n : List ℕ) (ks : List (Bor (List ℕ))) (k : Bor (List ℕ))
    → names_type (map (λ x. x.now) (ks ++ k ∷ [])) n ≡ (bytes_eq n k.now || names_type (map (λ x. x.now) ks) n)
any_more n [] k = refl
any_more n (x ∷ ks) k = by (bytes_eq n x.now) (bytes_eq n k.now) (any_more n ks k)
  where
    by : (a b : Bool) → names_type (map (λ x. x.now) (ks ++ k ∷ [])) n ≡ (b || names_type (map (λ x. x.now) ks) n)
        → (a || names_type (map (λ x. x.now) (ks ++ k ∷ [])) n) ≡ (b || (a || names_type (map (λ x. x.now) ks) n))
    by true true h = refl
    by true false h = refl
    by false b h = h

-- one typedef name more
pub types_more : (ks : List (Bor (List ℕ))) (k : Bor (List ℕ)) (names : List (List ℕ)) → AreTypes ks names
    → AreTypes (insert_key (λ a b. bytes_eq a.now b.now) ks k) (k.now ∷ names)
types_more ks k names h n = by (list_any (λ x. bytes_eq k.now x.now) ks) (bytes_eq n k.now) refl refl
  where
    by : (a b : Bool) → list_any (λ x. bytes_eq k.now x.now) ks ≡ a → bytes_eq n k.now ≡ b
        → names_type (map (λ x. x.now) (if a then ks else ks ++ k ∷ [])) n ≡ (b || names_type names n)
    by true true p q =
        sym (known n ks) ∙ ap (λ m. list_any (λ x. bytes_eq m x.now) ks) ((bytes_decides n k.now).0 q) ∙ p
    by true false p q = h n
    by false b p q = any_more n ks k ∙ rw (q, h n) refl

skipped : (names : List (List ℕ)) (y z : Item) (zs : List Item) → with_last names (y ∷ z ∷ zs) ≡ with_last names (z ∷ zs)
skipped names (typedef b d) z zs = refl
skipped names (declaration d) z zs = refl
skipped names (function f) z zs = refl

last_of : (f : code_item.Item → Item) (names : List (List ℕ)) (xs : List code_item.Item) (d : code_item.Item) → 1 ≤ length xs
    → with_last names (map f xs) ≡ with_last names (f (get_or xs (length xs - 1) d) ∷ [])
last_of f names [] d least = absurd (omega (arith, least))
last_of f names (x ∷ []) d least = let e : length (x ∷ []) - 1 ≡ 0 = omega arith in ap (λ (k : ℕ). with_last names (f (get_or (x ∷ []) k d) ∷ [])) (sym e)
last_of f names (x ∷ y ∷ ys) d least =
    let e : length (x ∷ y ∷ ys) - 1 ≡ suc (length (y ∷ ys) - 1) = omega arith in
    skipped names (f x) (f y) (map f ys) ∙ last_of f names (y ∷ ys) d (omega arith)
    ∙ ap (λ (i : code_item.Item). with_last names (f i ∷ [])) (sym (ap (λ (k : ℕ). get_or (x ∷ y ∷ ys) k d) e))

-- only the last item counts
pub last_learned : (text : List ℕ) (names : List (List ℕ)) (xs : List code_item.Item) (x : code_item.Item) → 1 ≤ length xs → x ≡ get_or xs (length xs - 1) x
    → with_last names (items_of text xs) ≡ with_last names (item_of text x ∷ [])
last_learned text names xs x least is = last_of (item_of text) names xs x least ∙ ap (λ (i : code_item.Item). with_last names (item_of text i ∷ [])) (sym is)
