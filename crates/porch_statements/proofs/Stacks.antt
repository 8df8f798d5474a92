-- The frames of the code, the innermost of which is the last one.
use Rattle.std.proofs.Common.{◌≡◌, ℕ, List, [], ◌∷◌, ◌++◌, map, Option, Some, None, Result, Ok, Err, IfOk, OnOk, refl, ap, ◌∙◌}
use Rattle.std.specs.Prelude.{MatchOption, IsOk}
use Rattle.std.proofs.lemmas.Bool.{false≢true}
use Rattle.std.proofs.lemmas.List.Sums.{fold-append}
use Rattle.porch_statements.specs.declared.frame.Frame as code_frame
use Rattle.porch_statements.specs.Shown.{frame_of, frames_of, put_back}

pub on_top : (text : List ℕ) (fs : List code_frame.Frame) (f : code_frame.Frame) → frames_of text (fs ++ f ∷ []) ≡ frame_of text f ∷ frames_of text fs
on_top text fs f = fold-append (λ above f. frame_of text f ∷ above) [] fs (f ∷ [])

pub put_on : {A E : Type 0} (r : Result A E) (old new : List code_frame.Frame) (f : code_frame.Frame)
    → OnOk r (new ≡ old ++ f ∷ []) → IfOk r (λ _. (text : List ℕ) → frames_of text new ≡ frame_of text f ∷ frames_of text old)
put_on (Ok x) old new f h = λ text. ap (frames_of text) h ∙ on_top text old f
put_on (Err e) old new f h = tt

pub taken_off : (text : List ℕ) (o : Option code_frame.Frame) (old new : List code_frame.Frame)
    → MatchOption o ((old ≡ []) × (new ≡ [])) (λ last. old ≡ new ++ last ∷ [])
    → frames_of text old ≡ put_back text o (frames_of text new)
taken_off text None old new h = ap (frames_of text) h.0
taken_off text (Some f) old new h = ap (frames_of text) h ∙ on_top text new f

-- what holds of a result holds of it with more that follows
pub when_ok : {A E : Type 0} {P Q : A → Type 0} (r : Result A E) → ((x : A) → P x → Q x) → IfOk r P → IfOk r Q
when_ok (Ok x) f h = f x h
when_ok (Err e) f h = tt

-- the same where it says that something was well before
pub when_both : {A B E : Type 0} {P : Type 0} {Q R : A → Type 0} (r : Result A E) (s : Result B E)
    → IfOk r (λ _. IsOk s) → OnOk s P → IfOk r Q → ((x : A) → P → Q x → R x) → IfOk r R
when_both (Ok x) (Ok y) h p q f = f x p q
when_both (Ok x) (Err e) h p q f = absurd (false≢true h)
when_both (Err e) s h p q f = tt

pub map_more : {A B : Type 0} (f : A → B) (xs : List A) (x : A) → map f (xs ++ x ∷ []) ≡ map f xs ++ f x ∷ []
map_more f [] x = refl
map_more f (y ∷ ys) x = ap (λ zs. f y ∷ zs) (map_more f ys x)
