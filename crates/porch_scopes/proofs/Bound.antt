-- The table of names, when a scope binds one more, or one less.
use Rattle.std.proofs.Common.{◌≡◌, ℕ, ◌<◌, ◌≤◌, ◌-◌, arith, suc, Bool, true, false, if◌then◌else◌, List, [], ◌∷◌, ◌++◌, reverse, length, take, Option, Some, None, Result, Ok, Err, OnOk, OnErr, refl, sym, ap, ◌∙◌, subst, true≢false, is_some, Bor, slice_index_or}
use Rattle.std.specs.Map.{lookup}
use Rattle.std.specs.Str.{bytes_eq}
use Rattle.std.proofs.lemmas.List.{reverse-append}
use Rattle.std.proofs.Math.Seq.{take-suc}
use Rattle.indexmap.specs.IndexMap.{insert_entry}
use Rattle.porch_scopes.specs.declared.bindings.Binding as b
use Rattle.porch_scopes.specs.declared.bindings.Found as f
use Rattle.porch_scopes.specs.inside.Bindings.{joined, at, in_depth, found_in, Finds}
use Rattle.porch_scopes.proofs.Inserted.{found_insert}
use lib.Pointwise.{bytes_decides}

-- whatever holds of a call that can't fail
pub no_error : {A E : Type 0} {P Q : Type 0} (r : Result A E) → OnOk r P → OnErr r Q → (Q → ⊥) → P
no_error (Ok x) p q never = p
no_error (Err e) p q never = absurd (never q)

abbrev Entries : Type 0 → Type 0
Entries V = List (Bor (List ℕ) × Option (f.Found V))

abbrev Layer : Type 0 → Type 0
Layer V = List (b.Binding V)

module _ {V : Type 0} where
  abbrev write : Entries V → Bor (List ℕ) → Option (f.Found V) → Entries V
  write es k v = insert_entry (λ a b. bytes_eq a.now b.now) es k v

  at_write : (x : List ℕ) (es : Entries V) (k : Bor (List ℕ)) (v : Option (f.Found V)) (c : Bool) → bytes_eq x k.now ≡ c
      → at x (write es k v) ≡ (if c then v else at x es)
  at_write x es k v true h = ap joined (found_insert (λ (q : Bor (List ℕ)). q.now) x es k v) ∙ rw h refl
  at_write x es k v false h = ap joined (found_insert (λ (q : Bor (List ℕ)). q.now) x es k v) ∙ rw h refl

  more_same : (es : Entries V) (l : Layer V) (ls : List (Layer V)) (n : b.Binding V) (x : List ℕ) (c : Bool) → bytes_eq x n.name.now ≡ c
      → at x es ≡ found_in x (l ∷ ls)
      → at x (write es n.name (Some (in_depth (length ls) n.value))) ≡ found_in x ((n ∷ l) ∷ ls)
  more_same es l ls n x true h same = at_write x es n.name (Some (in_depth (length ls) n.value)) true h ∙ rw h refl
  more_same es l ls n x false h same = at_write x es n.name (Some (in_depth (length ls) n.value)) false h ∙ same ∙ rw h refl

  -- one binding more
  more : (es : Entries V) (l : Layer V) (ls : List (Layer V)) (n : b.Binding V) → n.hidden ≡ at n.name.now es → Finds es (l ∷ ls)
      → Finds (write es n.name (Some (in_depth (length ls) n.value))) ((n ∷ l) ∷ ls)
  more es l ls n hides finds = record {
    same = λ x. more_same es l ls n x (bytes_eq x n.name.now) refl (finds.same x);
    hiding = ((hides ∙ finds.same n.name.now, finds.hiding.0), finds.hiding.1);
  }

  less_same : (es : Entries V) (l : Layer V) (ls : List (Layer V)) (n : b.Binding V) (x : List ℕ) (c : Bool) → bytes_eq x n.name.now ≡ c
      → Finds es ((n ∷ l) ∷ ls) → at x es ≡ found_in x ((n ∷ l) ∷ ls)
      → at x (write es n.name n.hidden) ≡ found_in x (l ∷ ls)
  less_same es l ls n x true h finds same =
      at_write x es n.name n.hidden true h ∙ finds.hiding.0.0
      ∙ ap (λ y. found_in y (l ∷ ls)) (sym ((bytes_decides x n.name.now).0 h))
  less_same es l ls n x false h finds same = at_write x es n.name n.hidden false h ∙ same ∙ rw h refl

  -- one binding less
  less : (es : Entries V) (l : Layer V) (ls : List (Layer V)) (n : b.Binding V) → Finds es ((n ∷ l) ∷ ls) → Finds (write es n.name n.hidden) (l ∷ ls)
  less es l ls n finds = record {
    same = λ x. less_same es l ls n x (bytes_eq x n.name.now) refl finds (finds.same x);
    hiding = (finds.hiding.0.1, finds.hiding.1);
  }

  -- the newest name is found
  there : (es : Entries V) (l : Layer V) (ls : List (Layer V)) (n : b.Binding V) → Finds es ((n ∷ l) ∷ ls) → is_some (at n.name.now es) ≡ true
  there es l ls n finds =
      let own : bytes_eq n.name.now n.name.now ≡ true = (bytes_decides n.name.now n.name.now).1 refl in
      ap is_some (finds.same n.name.now) ∙ rw own refl

  newest_last : (l : Layer V) (n : b.Binding V) → reverse (l ++ n ∷ []) ≡ n ∷ reverse l
  newest_last l n = reverse-append l (n ∷ [])

  pub bound_more : (es fs : Entries V) (before after : Layer V) (ls : List (Layer V)) (n : b.Binding V) (depth : ℕ) → depth ≡ length ls
      → n.hidden ≡ at n.name.now es → fs ≡ write es n.name (Some (in_depth depth n.value)) → after ≡ before ++ n ∷ []
      → Finds es (reverse before ∷ ls) → Finds fs (reverse after ∷ ls)
  bound_more es fs before after ls n depth deep hides wrote pushed finds =
      subst (λ l. Finds fs (l ∷ ls)) (sym (ap reverse pushed ∙ newest_last before n))
      (subst (λ gs. Finds gs ((n ∷ reverse before) ∷ ls)) (sym (wrote ∙ ap (λ d. write es n.name (Some (in_depth d n.value))) deep))
      (more es (reverse before) ls n hides finds))

  -- of a scope from whose bindings the last ones have been taken
  pub bound_less : (es fs : Entries V) (before after : Layer V) (ls : List (Layer V)) (n : b.Binding V)
      → before ≡ after ++ n ∷ [] → fs ≡ write es n.name n.hidden → Finds es (reverse before ∷ ls) → Finds fs (reverse after ∷ ls)
  bound_less es fs before after ls n popped wrote finds =
      subst (λ gs. Finds gs (reverse after ∷ ls)) (sym wrote)
      (less es (reverse after) ls n (subst (λ l. Finds es (l ∷ ls)) (ap reverse popped ∙ newest_last after n) finds))

  pub bound_there : (es : Entries V) (before after : Layer V) (ls : List (Layer V)) (n : b.Binding V)
      → before ≡ after ++ n ∷ [] → Finds es (reverse before ∷ ls) → is_some (at n.name.now es) ≡ true
  bound_there es before after ls n popped finds =
      there es (reverse after) ls n (subst (λ l. Finds es (l ∷ ls)) (ap reverse popped ∙ newest_last after n) finds)

  pub absent_there : (es : Entries V) (x : List ℕ) → is_some (at x es) ≡ true → lookup (λ k. bytes_eq x k.now) es ≡ None → ⊥
  absent_there es x h none = true≢false (sym h ∙ ap (λ o. is_some (joined o)) none)

pub popped : {A : Type 0} (xs : List A) (n : ℕ) (x : A) → n ≤ length xs → 0 < n → x ≡ slice_index_or xs (n - 1) x
    → take n xs ≡ take (n - 1) xs ++ x ∷ []
popped xs n x within some is =
    let next : n ≡ suc (n - 1) = omega (arith, some) in
    let below : n - 1 < length xs = omega (arith, some, within) in
    ap (λ k. take k xs) next ∙ take-suc xs (n - 1) x below ∙ ap (λ y. take (n - 1) xs ++ y ∷ []) (sym is)
