-- Scopes and the tables of their names.
use Rattle.std.proofs.Common.{◌≡◌, ℕ, ◌<◌, ◌≤◌, Bool, true, false, if◌then◌else◌, nat_eq, List, [], ◌∷◌, ◌++◌, map, reverse, length, Option, Some, None, refl, sym, ap, ◌∙◌, subst, Bor, arith}
use Rattle.std.specs.Option.{option_map}
use Rattle.std.specs.Str.{bytes_eq}
use Rattle.std.proofs.lemmas.List.{reverse-append, length-map, length-reverse}
use Rattle.std.proofs.lemmas.Bool.{eq-eqb, eqb-true}
use Rattle.porch_check.specs.Scopes.{of_name, of_tag, name_in, tag_in, or_else}
use Rattle.porch_scopes.specs.declared.meaning.Meaning as code_meaning
use Rattle.porch_scopes.specs.declared.meaning.Tag as code_tag
use Rattle.porch_scopes.specs.declared.bindings.Binding as b
use Rattle.porch_scopes.specs.declared.bindings.Found as f
use Rattle.porch_scopes.specs.declared.scope.Scope as code_scope
use Rattle.porch_scopes.specs.Views.{as_meaning, as_tag, scope_of}
use Rattle.porch_scopes.specs.inside.Bindings.{first_of, in_depth, found_in, Finds}
use Rattle.porch_scopes.specs.inside.Stacked.{name_layers, tag_layers, FindsAll, at_depth, value_in}
use lib.Pointwise.{bytes_decides}

-- Names.

abbrev shown : {V : Type 0} → List (b.Binding V) → List (List ℕ × V)
shown bs = map (λ n. (n.name.now, n.value)) bs

name_first : (x : List ℕ) (n : b.Binding code_meaning.Meaning) (ns : List (b.Binding code_meaning.Meaning)) (c : Bool) → bytes_eq x n.name.now ≡ c
    → of_name x (map (λ n. (n.0, as_meaning n.1)) (shown ns)) ≡ option_map as_meaning (first_of x ns)
    → of_name x (map (λ n. (n.0, as_meaning n.1)) (shown (n ∷ ns))) ≡ option_map as_meaning (first_of x (n ∷ ns))
name_first x n ns true h more = rw h refl
name_first x n ns false h more = rw h more

pub names_first : (x : List ℕ) (ns : List (b.Binding code_meaning.Meaning))
    → of_name x (map (λ n. (n.0, as_meaning n.1)) (shown ns)) ≡ option_map as_meaning (first_of x ns)
names_first x [] = refl
names_first x (n ∷ ns) = name_first x n ns (bytes_eq x n.name.now) refl (names_first x ns)

tag_first : (x : List ℕ) (n : b.Binding code_tag.Tag) (ns : List (b.Binding code_tag.Tag)) (c : Bool) → bytes_eq x n.name.now ≡ c
    → of_tag x (map (λ t. as_tag t.0 t.1) (shown ns)) ≡ option_map (as_tag x) (first_of x ns)
    → of_tag x (map (λ t. as_tag t.0 t.1) (shown (n ∷ ns))) ≡ option_map (as_tag x) (first_of x (n ∷ ns))
tag_first x n ns true h more = rw h (ap (λ y. Some (as_tag y n.value)) (sym ((bytes_decides x n.name.now).0 h)))
tag_first x n ns false h more = rw h more

pub tags_first : (x : List ℕ) (ns : List (b.Binding code_tag.Tag))
    → of_tag x (map (λ t. as_tag t.0 t.1) (shown ns)) ≡ option_map (as_tag x) (first_of x ns)
tags_first x [] = refl
tags_first x (n ∷ ns) = tag_first x n ns (bytes_eq x n.name.now) refl (tags_first x ns)

-- one scope more
either : {B V : Type 0} (mean : V → B) (n : ℕ) (o : Option V) (first rest : Option B) (found : Option (f.Found V))
    → first ≡ option_map mean o → rest ≡ option_map mean (value_in found)
    → or_else first rest ≡ option_map mean (value_in (or_else (option_map (in_depth n) o) found))
either mean n (Some v) first rest found h r = ap (λ a. or_else a rest) h
either mean n None first rest found h r = ap (λ a. or_else a rest) h ∙ r

pub names_found : (x : List ℕ) (ss : List code_scope.Scope)
    → name_in x (map scope_of ss) ≡ option_map as_meaning (value_in (found_in x (name_layers ss)))
names_found x [] = refl
names_found x (s ∷ ss) =
    either as_meaning (length (name_layers ss)) (first_of x (reverse s.names.items)) _ _ (found_in x (name_layers ss))
    (names_first x (reverse s.names.items)) (names_found x ss)

pub tags_found : (x : List ℕ) (ss : List code_scope.Scope)
    → tag_in x (map scope_of ss) ≡ option_map (as_tag x) (value_in (found_in x (tag_layers ss)))
tags_found x [] = refl
tags_found x (s ∷ ss) =
    either (as_tag x) (length (tag_layers ss)) (first_of x (reverse s.tags.items)) _ _ (found_in x (tag_layers ss))
    (tags_first x (reverse s.tags.items)) (tags_found x ss)

-- What the innermost scope binds is found at its depth.

apart : {V : Type 0} (k n : ℕ) (v : V) (c : Bool) → k < n → nat_eq k n ≡ c → (if c then Some v else None) ≡ None
apart k n v true less h = absurd (omega (arith, less, eqb-true k n h))
apart k n v false less h = refl

deeper : {V : Type 0} (n k : ℕ) (o : Option V) (found : Option (f.Found V)) → k < n → at_depth n found ≡ None
    → at_depth n (or_else (option_map (in_depth k) o) found) ≡ None
deeper n k (Some v) found less none = apart k n v (nat_eq k n) less refl
deeper n k None found less none = none

shallow : {V : Type 0} (x : List ℕ) (ls : List (List (b.Binding V))) (n : ℕ) → length ls ≤ n → at_depth n (found_in x ls) ≡ None
shallow x [] n within = refl
shallow x (l ∷ ls) n within =
    let less : length ls < n = omega (arith, within) in
    let at_most : length ls ≤ n = omega (arith, within) in
    deeper n (length ls) (first_of x l) (found_in x ls) less (shallow x ls n at_most)

own : {V : Type 0} (n : ℕ) (o : Option V) (found : Option (f.Found V)) → at_depth n found ≡ None
    → at_depth n (or_else (option_map (in_depth n) o) found) ≡ o
own n (Some v) found none = ap (λ c. if c then Some v else None) (eq-eqb n n refl)
own n None found none = none

pub here : {V : Type 0} (x : List ℕ) (l : List (b.Binding V)) (ls : List (List (b.Binding V)))
    → at_depth (length ls) (found_in x (l ∷ ls)) ≡ first_of x l
here x l ls =
    let all : length ls ≤ length ls = omega arith in
    own (length ls) (first_of x l) (found_in x ls) (shallow x ls (length ls) all)

pub names_deep : (ss : List code_scope.Scope) → length ss ≡ length (name_layers (reverse ss))
names_deep ss = sym (length-map (reverse ss) (λ (s : code_scope.Scope). reverse s.names.items) ∙ length-reverse ss)

pub tags_deep : (ss : List code_scope.Scope) → length ss ≡ length (tag_layers (reverse ss))
tags_deep ss = sym (length-map (reverse ss) (λ (s : code_scope.Scope). reverse s.tags.items) ∙ length-reverse ss)

-- Scopes entered and left.

one_more : {A : Type 0} (xs ys : List A) (x : A) → ys ≡ xs ++ x ∷ [] → reverse ys ≡ x ∷ reverse xs
one_more xs ys x more = ap reverse more ∙ reverse-append xs (x ∷ [])

empty : {V : Type 0} (es : List (Bor (List ℕ) × Option (f.Found V))) (ls : List (List (b.Binding V))) → Finds es ls → Finds es ([] ∷ ls)
empty es ls finds = record { same = finds.same; hiding = (tt, finds.hiding) }

pub filled : {V : Type 0} (es : List (Bor (List ℕ) × Option (f.Found V))) (ls : List (List (b.Binding V))) → Finds es ([] ∷ ls) → Finds es ls
filled es ls finds = record { same = finds.same; hiding = finds.hiding.1 }

pub all_entered : (inner next : code_scope.Scope) (outer pushed : List code_scope.Scope)
    (names : List (Bor (List ℕ) × Option (f.Found code_meaning.Meaning))) (tags : List (Bor (List ℕ) × Option (f.Found code_tag.Tag)))
    → next.names.items ≡ [] → next.tags.items ≡ [] → pushed ≡ outer ++ inner ∷ [] → FindsAll inner outer names tags
    → FindsAll next pushed names tags
all_entered inner next outer pushed names tags no_names no_tags more all = record {
  finds_names =
      subst (λ ls. Finds names ls) (λ i. reverse (sym no_names i) ∷ name_layers (sym (one_more outer pushed inner more) i))
      (empty names (name_layers (inner ∷ reverse outer)) all.finds_names);
  finds_tags =
      subst (λ ls. Finds tags ls) (λ i. reverse (sym no_tags i) ∷ tag_layers (sym (one_more outer pushed inner more) i))
      (empty tags (tag_layers (inner ∷ reverse outer)) all.finds_tags);
}

pub all_left : (inner next around : code_scope.Scope) (outer popped : List code_scope.Scope)
    (names names_left : List (Bor (List ℕ) × Option (f.Found code_meaning.Meaning)))
    (tags tags_left : List (Bor (List ℕ) × Option (f.Found code_tag.Tag)))
    → outer ≡ popped ++ around ∷ [] → next ≡ around
    → ((ls : List (List (b.Binding code_meaning.Meaning))) → Finds names (reverse inner.names.items ∷ ls) → Finds names_left ([] ∷ ls))
    → ((ls : List (List (b.Binding code_tag.Tag))) → Finds tags (reverse inner.tags.items ∷ ls) → Finds tags_left ([] ∷ ls))
    → FindsAll inner outer names tags → FindsAll next popped names_left tags_left
all_left inner next around outer popped names names_left tags tags_left more same unbound untagged all = record {
  finds_names =
      subst (λ ls. Finds names_left ls) (λ i. name_layers (sym same i ∷ reverse popped))
      (subst (λ ls. Finds names_left ls) (λ i. name_layers (one_more popped outer around more i))
      (filled names_left (name_layers (reverse outer)) (unbound (name_layers (reverse outer)) all.finds_names)));
  finds_tags =
      subst (λ ls. Finds tags_left ls) (λ i. tag_layers (sym same i ∷ reverse popped))
      (subst (λ ls. Finds tags_left ls) (λ i. tag_layers (one_more popped outer around more i))
      (filled tags_left (tag_layers (reverse outer)) (untagged (tag_layers (reverse outer)) all.finds_tags)));
}
