-- What a scope binds that is entered again.
use Rattle.std.proofs.Common.{◌≡◌, ℕ, List, [], ◌∷◌, ◌++◌, map, reverse, refl, sym, ap, ◌∙◌, append_assoc}
use Rattle.std.proofs.lemmas.List.{map-append, reverse-append}
use Rattle.porch_check.specs.Scopes.{Meaning, Tag, new_scope}
use Rattle.porch_scopes.specs.declared.meaning.Meaning as code_meaning
use Rattle.porch_scopes.specs.declared.meaning.Tag as code_tag
use Rattle.porch_scopes.specs.declared.bindings.Binding as b
use Rattle.porch_scopes.specs.Views.{as_meaning, as_tag, bound}
use Rattle.porch_scopes.specs.Stack.{ScopeStack, binds, binds_tag, enters}
use Rattle.porch_scopes.specs.inside.Again.{binds_names, binds_tags}

more : {A B C : Type 0} (f : B → C) (g : A → B) (x : A) (xs : List A) (cs : List C)
    → map f (map g (reverse xs)) ++ (f (g x) ∷ cs) ≡ map f (map g (reverse (x ∷ xs))) ++ cs
more f g x xs cs =
    let turned : reverse (x ∷ xs) ≡ reverse xs ++ x ∷ [] = reverse-append (x ∷ []) xs in
    let inside : map g (reverse (x ∷ xs)) ≡ map g (reverse xs) ++ g x ∷ [] = ap (map g) turned ∙ map-append g (reverse xs) (x ∷ []) in
    let all : map f (map g (reverse (x ∷ xs))) ≡ map f (map g (reverse xs)) ++ f (g x) ∷ [] =
    ap (map f) inside ∙ map-append f (map g (reverse xs)) (g x ∷ []) in
    sym (ap (λ ys. ys ++ cs) all ∙ append_assoc (map f (map g (reverse xs))) (f (g x) ∷ []) cs)

abbrev named : List ℕ × code_meaning.Meaning → List ℕ × Meaning
named n = (n.0, as_meaning n.1)

abbrev tagged : List ℕ × code_tag.Tag → Tag
tagged t = as_tag t.0 t.1

names_again : (ns : List (b.Binding code_meaning.Meaning)) (s : ScopeStack)
    → binds_names ns s ≡ record { inner = record s.inner { names = map named (bound ns) ++ s.inner.names }; outer = s.outer }
names_again [] s = refl
names_again (n ∷ ns) s =
    names_again ns (binds n.name.now (as_meaning n.value) s)
    ∙ ap (λ xs. record { inner = record s.inner { names = xs }; outer = s.outer })
    (more named (λ (k : b.Binding code_meaning.Meaning). (k.name.now, k.value)) n ns s.inner.names)

tags_again : (ts : List (b.Binding code_tag.Tag)) (s : ScopeStack)
    → binds_tags ts s ≡ record { inner = record s.inner { tags = map tagged (bound ts) ++ s.inner.tags }; outer = s.outer }
tags_again [] s = refl
tags_again (t ∷ ts) s =
    tags_again ts (binds_tag (as_tag t.name.now t.value) s)
    ∙ ap (λ xs. record { inner = record s.inner { tags = xs }; outer = s.outer })
    (more tagged (λ (k : b.Binding code_tag.Tag). (k.name.now, k.value)) t ts s.inner.tags)

nothing_more : {A : Type 0} (xs : List A) → xs ++ [] ≡ xs
nothing_more [] = refl
nothing_more (x ∷ xs) = ap (λ ys. x ∷ ys) (nothing_more xs)

-- a scope is what it was
pub again : (ns : List (b.Binding code_meaning.Meaning)) (ts : List (b.Binding code_tag.Tag)) (completes : List (List ℕ)) (s : ScopeStack)
    → binds_tags ts (binds_names ns (enters (new_scope completes) s))
    ≡ enters (record { names = map named (bound ns); tags = map tagged (bound ts); completes = completes }) s
again ns ts completes s =
    ap (binds_tags ts) (names_again ns (enters (new_scope completes) s))
    ∙ tags_again ts (enters (record { names = map named (bound ns) ++ []; tags = []; completes = completes }) s)
    ∙ (λ i. enters (record { names = nothing_more (map named (bound ns)) i; tags = nothing_more (map tagged (bound ts)) i; completes = completes }) s)
