-- The frames of the code, the innermost of which ends.
use Rattle.std.proofs.Common.{◌≡◌, ℕ, true, false, List, [], ◌∷◌, ◌++◌, if◌then◌else◌, Result, Ok, Err, IfOk, refl, ap}
use Rattle.std.proofs.lemmas.List.Sums.{fold-append}
use Rattle.porch_tree.specs.Mirror.{Expr}
use Rattle.porch_parse.specs.declared.frame.Frame as code_frame
use Rattle.porch_parse.specs.Building.{Frame, closed, built}
use Rattle.porch_parse.specs.Shown.{frame_of, frames_of, closes, ended}

pub on_top : (text : List ℕ) (fs : List code_frame.Frame) (f : code_frame.Frame) → frames_of text (fs ++ f ∷ []) ≡ frame_of text f ∷ frames_of text fs
on_top text fs f = fold-append (λ above f. frame_of text f ∷ above) [] fs (f ∷ [])

pub when_ok : {A E : Type 0} {P Q : A → Type 0} (r : Result A E) → ((x : A) → P x → Q x) → IfOk r P → IfOk r Q
when_ok (Ok x) f h = f x h
when_ok (Err e) f h = tt

pub ends_one : (n : ℕ) (fs : List Frame) (e : Expr) → closes n fs ≡ true → closed n fs e ≡ closed n (ended fs e).frames (ended fs e).value
ends_one n [] e h = cc
ends_one n (f ∷ fs) e h = ap (λ b. if b then closed n fs (built f e) else record { frames = f ∷ fs; value = e }) h

pub ends_none : (n : ℕ) (fs : List Frame) (e : Expr) → closes n fs ≡ false → closed n fs e ≡ record { frames = fs; value = e }
ends_none n [] e h = refl
ends_none n (f ∷ fs) e h = ap (λ b. if b then closed n fs (built f e) else record { frames = f ∷ fs; value = e }) h
