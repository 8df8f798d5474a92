-- One step of the way down.
use Rattle.std.proofs.Common.{◌≡◌, ℕ, suc, ◌∷◌, ◌&&◌, Bool, true, false, not, if◌then◌else◌, List, Option, Some, None, Result, Ok, Err, IfOk, refl, ap, sym, ◌∙◌}
use Rattle.std.specs.Option.{option_map_or}
use Rattle.porch_check.specs.Shapes.{Shapes, shape_of}
use Rattle.porch_check.specs.Initialisers.{Opened, Next, opened, next_in, down_to, is_aggregate, is_char_array}
use Rattle.porch_initials.specs.declared.opened.Element as code_element
use Rattle.porch_initials.specs.Views.{next_at, next_with}
use Rattle.porch_initials.specs.inside.Ways.{down_further}

abbrev goes : (is_text : Bool) → Shapes → ℕ → Bool
goes b s n = is_aggregate (shape_of s n) && not (b && is_char_array (shape_of s n))

chosen : (depth : ℕ) (b : Bool) (s : Shapes) (e : code_element.Element) (os : List Opened) (g : Bool) → g ≡ goes b s e.shape
    → down_to (suc depth) b s (next_at e os)
    ≡ (if g then option_map_or (λ y. down_to depth b s y) (next_in s (opened e.shape e.leaf ∷ os)) (next_at e os) else next_at e os)
chosen depth b s e os g h =
    ap (λ k. if k then option_map_or (λ y. down_to depth b s y) (next_in s (opened e.shape e.leaf ∷ os)) (next_at e os) else next_at e os) (sym h)

-- where it doesn't go down
pub stays : (depth : ℕ) (b : Bool) (s : Shapes) (e : code_element.Element) (os : List Opened) → false ≡ goes b s e.shape
    → down_to (suc depth) b s (next_at e os) ≡ next_at e os
stays depth b s e os h = chosen depth b s e os false h

further : (depth : ℕ) (b : Bool) (s : Shapes) (e : code_element.Element) (os new : List Opened) (x : Option code_element.Element)
    → true ≡ goes b s e.shape → next_in s (opened e.shape e.leaf ∷ os) ≡ next_with x new → (x ≡ None → new ≡ os)
    → down_to (suc depth) b s (next_at e os) ≡ down_further x depth b s e new
further depth b s e os new None h found full =
    chosen depth b s e os true h
    ∙ ap (λ y. option_map_or (λ y. down_to depth b s y) y (next_at e os)) found
    ∙ ap (next_at e) (sym (full refl))
further depth b s e os new (Some x) h found full =
    chosen depth b s e os true h ∙ ap (λ y. option_map_or (λ y. down_to depth b s y) y (next_at e os)) found

pub answered_further : {E : Type 0} (b : Bool) (s : Shapes) (e : code_element.Element) (os new : List Opened)
    (r : Result (Option code_element.Element) E) → true ≡ goes b s e.shape
    → IfOk r (λ x. next_in s (opened e.shape e.leaf ∷ os) ≡ next_with x new) → IfOk r (λ x. x ≡ None → new ≡ os)
    → IfOk r (λ x. (depth : ℕ) → down_to (suc depth) b s (next_at e os) ≡ down_further x depth b s e new)
answered_further b s e os new (Ok x) h found full = λ depth. further depth b s e os new x h found full
answered_further b s e os new (Err a) h found full = found
