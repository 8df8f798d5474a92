-- What is open, with the innermost first, is looked through from the innermost on.
use Rattle.std.proofs.Common.{◌≡◌, ℕ, zero, suc, ◌+◌, ◌<◌, List, [], ◌∷◌, ◌++◌, map, reverse, take, length, get_or, Option, Some, None, Result, Ok, Err, IfOk, ap, sym, ◌∙◌, arith, add-one}
use Rattle.std.specs.Option.{option_map}
use Rattle.std.proofs.lemmas.List.{reverse-append}
use Rattle.porch_check.specs.Shapes.{Shapes, shape_of}
use Rattle.porch_check.specs.Initialisers.{Opened, Next, element, next_in, or_next}
use Rattle.porch_initials.specs.declared.opened.Opened as code_opened
use Rattle.porch_initials.specs.declared.opened.Element as code_element
use Rattle.porch_initials.specs.Views.{as_opened, as_pair, opens_of}
use Rattle.porch_initials.specs.inside.Ways.{gone_on, next_from, or_further}

pub last_first : (os : List code_opened.Opened) (o : code_opened.Opened) → opens_of (os ++ o ∷ []) ≡ as_opened o ∷ opens_of os
last_first os o = ap (map as_opened) (reverse-append os (o ∷ []))

take_more : {A : Type 0} (xs : List A) (i : ℕ) (x : A) → i < length xs → x ≡ get_or xs i x → take (suc i) xs ≡ take i xs ++ x ∷ []
take_more [] i x h e = absurd (omega arith)
take_more (y ∷ xs) zero x h e = ap (λ z. z ∷ []) (sym e)
take_more (y ∷ xs) (suc i) x h e = ap (λ zs. y ∷ zs) (take_more xs i x (omega arith) e)

-- what is open as far as a place, that included
pub opened_to : (os : List code_opened.Opened) (i : ℕ) (o : code_opened.Opened) → i < length os → o ≡ get_or os i o
    → opens_of (take (suc i) os) ≡ as_opened o ∷ opens_of (take i os)
opened_to os i o h e = ap opens_of (take_more os i o h e) ∙ last_first (take i os) o

next_of : (s : Shapes) (os : List code_opened.Opened) (i : ℕ) (o : code_opened.Opened) (x : Option code_element.Element)
    → i < length os → o ≡ get_or os i o → option_map as_pair x ≡ element s (shape_of s o.shape) (as_opened o)
    → next_in s (opens_of (take (suc i) os))
    ≡ or_next (option_map as_pair x) (as_opened o) (opens_of (take i os)) (next_in s (opens_of (take i os)))
next_of s os i o x h e is =
    ap (next_in s) (opened_to os i o h e)
    ∙ ap (λ y. or_next y (as_opened o) (opens_of (take i os)) (next_in s (opens_of (take i os)))) (sym is)

-- one that is full is passed by, and one that isn't gives the next part
further : (s : Shapes) (os : List code_opened.Opened) (i : ℕ) (o : code_opened.Opened) (x : Option code_element.Element)
    → i < length os → o ≡ get_or os i o → option_map as_pair x ≡ element s (shape_of s o.shape) (as_opened o)
    → next_in s (opens_of (take (suc i) os)) ≡ or_further x i os (next_in s (opens_of (take i os)))
further s os i o None h e is = next_of s os i o None h e is
further s os i o (Some x) h e is =
    next_of s os i o (Some x) h e is
    ∙ ap (λ ps. Some (record { shape = x.shape; leaf = x.leaf; opens = gone_on ps }))
    (sym (opened_to os i o h e) ∙ ap (λ k. opens_of (take k os)) (sym (add-one i)))

pub answered_further : {E : Type 0} (s : Shapes) (os : List code_opened.Opened) (j i : ℕ) (o : code_opened.Opened)
    (r : Result (Option code_element.Element) E)
    → j ≡ suc i → i < length os → o ≡ get_or os i o
    → IfOk r (λ x. option_map as_pair x ≡ element s (shape_of s o.shape) (as_opened o))
    → IfOk r (λ x. next_in s (opens_of (take j os)) ≡ or_further x i os (next_in s (opens_of (take i os))))
answered_further s os j i o (Ok x) next h e is = ap (λ k. next_in s (opens_of (take k os))) next ∙ further s os i o x h e is
answered_further s os j i o (Err e) next h at is = is

-- one element is given
pub given : (os : List code_opened.Opened) (i : ℕ) (o p : code_opened.Opened) → i < length os → o ≡ get_or os i o
    → as_opened p ≡ record (as_opened o) { next = suc o.next }
    → opens_of (take i os ++ p ∷ []) ≡ gone_on (opens_of (take (i + 1) os))
given os i o p h e is =
    last_first (take i os) p
    ∙ ap (λ x. x ∷ opens_of (take i os)) is
    ∙ sym (ap (λ k. gone_on (opens_of (take k os))) (add-one i) ∙ ap gone_on (opened_to os i o h e))
