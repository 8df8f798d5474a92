-- Objects that are put one after the other, as a loop over parts of them puts them.
use Rattle.std.proofs.Common.{◌≡◌, ℕ, ◌+◌, ◌<◌, ◌≤◌, List, [], ◌∷◌, ◌++◌, length, take, drop, get_or, refl, ap, sym, ◌∙◌, subst, inl, inr, arith}
use Rattle.std.specs.List.{flat_map, fold}
use Rattle.std.proofs.lemmas.List.{append-nil, append_assoc, take-append-drop, take_more}
use Rattle.std.proofs.lemmas.List.Sums.{fold-append}
use Rattle.porch_types.specs.declared.shapes.Ty.{Ty}
use Rattle.porch_ucf.specs.declared.fault.ImageFault.{ImageFault}
use Rattle.porch_ucf.specs.declared.image.BlockRow.{BlockRow}
use Rattle.porch_ucf.specs.Objects.{Placed, put_behind}
use Rattle.porch_ucf.specs.inside.Placing.{IsFull}

flat_parts : {X A : Type 0} (f : X → List A) (xs ys : List X) → flat_map f (xs ++ ys) ≡ flat_map f xs ++ flat_map f ys
flat_parts f [] ys = refl
flat_parts f (x ∷ xs) ys = ap (λ l. f x ++ l) (flat_parts f xs ys) ∙ sym (append_assoc (f x) (flat_map f xs) (flat_map f ys))

pub singles : (blocks : List BlockRow) → flat_map (λ block. block ∷ []) blocks ≡ blocks
singles [] = refl
singles (b ∷ blocks) = ap (λ l. b ∷ l) (singles blocks)

module _ (types : List Ty) where
  -- where objects end only rises
  grows : (objects : List BlockRow) (p : Placed) → p.end ≤ (fold (put_behind types) p objects).end
  grows [] p = omega arith
  grows (o ∷ objects) p = omega (arith, grows objects (put_behind types p o))

  -- what is full is full with more objects
  full_more : (objects more : List BlockRow) (p : Placed) (most : ℕ) (fault : ImageFault) → IsFull most (fold (put_behind types) p objects).end fault → IsFull most (fold (put_behind types) p (objects ++ more)).end fault
  full_more objects more p most fault (inl none) = inl none
  full_more objects more p most fault (inr full) =
      let same = ap (λ (s : Placed). s.end) (fold-append (put_behind types) p objects more) in
      inr (full.0, omega (arith, full.1, same, grows more (fold (put_behind types) p objects)))

  -- three lists of objects, one after the other
  module _ (a b c : List BlockRow) (p q r : Placed) (first : q ≡ fold (put_behind types) p a) where
    two : fold (put_behind types) q b ≡ fold (put_behind types) p (a ++ b)
    two = ap (λ (s : Placed). fold (put_behind types) s b) first ∙ sym (fold-append (put_behind types) p a b)

    pub three : r ≡ fold (put_behind types) q b → fold (put_behind types) r c ≡ fold (put_behind types) p (a ++ (b ++ c))
    three second =
        ap (λ (s : Placed). fold (put_behind types) s c) (second ∙ two)
        ∙ sym (fold-append (put_behind types) p (a ++ b) c)
        ∙ ap (fold (put_behind types) p) (append_assoc a b c)

    pub full_first : (most : ℕ) (fault : ImageFault) → IsFull most (fold (put_behind types) p a).end fault → IsFull most (fold (put_behind types) p (a ++ (b ++ c))).end fault
    full_first most fault full = full_more a (b ++ c) p most fault full

    pub full_second : (most : ℕ) (fault : ImageFault) → IsFull most (fold (put_behind types) q b).end fault → IsFull most (fold (put_behind types) p (a ++ (b ++ c))).end fault
    full_second most fault full =
        subst (λ l. IsFull most (fold (put_behind types) p l).end fault) (append_assoc a b c)
        (full_more (a ++ b) c p most fault (subst (λ (s : Placed). IsFull most s.end fault) two full))

    pub full_third : (most : ℕ) (fault : ImageFault) → r ≡ fold (put_behind types) q b → IsFull most (fold (put_behind types) r c).end fault → IsFull most (fold (put_behind types) p (a ++ (b ++ c))).end fault
    full_third most fault second full = subst (λ (s : Placed). IsFull most s.end fault) (three second) full

  module _ {X : Type 0} (f : X → List BlockRow) (xs : List X) (p : Placed) where
    abbrev pub Walked : ℕ → Placed → Type 0
    Walked i q = q ≡ fold (put_behind types) p (flat_map f (take i xs))

    behind_next : (i : ℕ) (d : X) (q : Placed) → i < length xs → Walked i q → fold (put_behind types) q (f (get_or xs i d)) ≡ fold (put_behind types) p (flat_map f (take (i + 1) xs))
    behind_next i d q lt here =
        let x = get_or xs i d in
        let parts : flat_map f (take (i + 1) xs) ≡ flat_map f (take i xs) ++ f x =
        ap (flat_map f) (take_more xs i d lt) ∙ flat_parts f (take i xs) (x ∷ []) ∙ ap (λ l. flat_map f (take i xs) ++ l) (append-nil (f x)) in
        ap (λ (s : Placed). fold (put_behind types) s (f x)) here
        ∙ sym (fold-append (put_behind types) p (flat_map f (take i xs)) (f x))
        ∙ sym (ap (fold (put_behind types) p) parts)

    -- one part more
    pub walk_on : (i : ℕ) (d : X) (q r : Placed) → i < length xs → Walked i q → r ≡ fold (put_behind types) q (f (get_or xs i d)) → Walked (i + 1) r
    walk_on i d q r lt here next = next ∙ behind_next i d q lt here

    rest_grows : (i : ℕ) → (fold (put_behind types) p (flat_map f (take i xs))).end ≤ (fold (put_behind types) p (flat_map f xs)).end
    rest_grows i =
        let whole : fold (put_behind types) p (flat_map f xs) ≡ fold (put_behind types) (fold (put_behind types) p (flat_map f (take i xs))) (flat_map f (drop i xs)) =
        ap (fold (put_behind types) p) (sym (ap (flat_map f) (take-append-drop i xs)) ∙ flat_parts f (take i xs) (drop i xs))
        ∙ fold-append (put_behind types) p (flat_map f (take i xs)) (flat_map f (drop i xs)) in
        let more = grows (flat_map f (drop i xs)) (fold (put_behind types) p (flat_map f (take i xs))) in
        subst (λ (s : Placed). (fold (put_behind types) p (flat_map f (take i xs))).end ≤ s.end) (sym whole) more

    -- what is full at a part is full at the whole
    pub full_at : (i : ℕ) (d : X) (q : Placed) (most : ℕ) (fault : ImageFault) → i < length xs → Walked i q → IsFull most (fold (put_behind types) q (f (get_or xs i d))).end fault
        → IsFull most (fold (put_behind types) p (flat_map f xs)).end fault
    full_at i d q most fault lt here (inl none) = inl none
    full_at i d q most fault lt here (inr full) =
        let same = ap (λ (s : Placed). s.end) (behind_next i d q lt here) in
        inr (full.0, omega (arith, full.1, same, rest_grows (i + 1)))
