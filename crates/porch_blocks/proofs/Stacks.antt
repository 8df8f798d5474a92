-- The frames of the code, the innermost of which ends.
use Rattle.std.proofs.Common.{◌≡◌, ℕ, Bool, true, false, List, [], ◌∷◌, ◌++◌, map, if◌then◌else◌, Result, Ok, Err, IfOk, OnOk, refl, ap}
use Rattle.std.specs.Prelude.{IsOk}
use Rattle.std.proofs.lemmas.Bool.{false≢true}
use Rattle.std.proofs.lemmas.List.Sums.{fold-append}
use Rattle.porch_tree.specs.Mirror.{Stmt}
use Rattle.porch_unit.specs.Units.{Closed, Frame, built, ended_all}
use Rattle.porch_statements.specs.declared.frame.Frame as code_frame
use Rattle.porch_statements.specs.Shown.{frame_of, frames_of}
use Rattle.porch_blocks.specs.inside.Ended.{ends, ended_one}

pub on_top : (text : List ℕ) (fs : List code_frame.Frame) (f : code_frame.Frame) → frames_of text (fs ++ f ∷ []) ≡ frame_of text f ∷ frames_of text fs
on_top text fs f = fold-append (λ above f. frame_of text f ∷ above) [] fs (f ∷ [])

-- what holds of a result holds of it with more that follows
pub when_ok : {A E : Type 0} {P Q : A → Type 0} (r : Result A E) → ((x : A) → P x → Q x) → IfOk r P → IfOk r Q
when_ok (Ok x) f h = f x h
when_ok (Err e) f h = tt

-- the same where it says that something was well before
pub when_both : {A B E : Type 0} {P : Type 0} {Q R : A → Type 0} (r : Result A E) (s : Result B E)
    → IfOk r (λ _. IsOk s) → OnOk s P → IfOk r Q → ((x : A) → P → Q x → R x) → IfOk r R
when_both (Ok x) (Ok y) h p q f = f x p q
when_both (Ok x) (Err e) h p q f = absurd (false≢true h)
when_both (Err e) s h p q f = tt

pub map_more : {A B : Type 0} (f : A → B) (xs : List A) (x : A) → map f (xs ++ x ∷ []) ≡ map f xs ++ f x ∷ []
map_more f [] x = refl
map_more f (y ∷ ys) x = ap (λ zs. f y ∷ zs) (map_more f ys x)

abbrev pub left_with : List Frame → Stmt → Closed
left_with fs s = record { frames = fs; value = s }

pub ends_one : (o : Bool) (fs : List Frame) (s : Stmt) → ends o fs ≡ true → ended_all o fs s ≡ ended_all o (ended_one fs s).frames (ended_one fs s).value
ends_one o [] s h = absurd (false≢true h)
ends_one o (f ∷ fs) s h = ap (λ b. if b then ended_all o fs (built f s) else record { frames = f ∷ fs; value = s }) h

pub ends_none : (o : Bool) (fs : List Frame) (s : Stmt) → ends o fs ≡ false → ended_all o fs s ≡ record { frames = fs; value = s }
ends_none o [] s h = refl
ends_none o (f ∷ fs) s h = ap (λ b. if b then ended_all o fs (built f s) else record { frames = f ∷ fs; value = s }) h
