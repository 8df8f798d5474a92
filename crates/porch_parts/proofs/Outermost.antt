-- Parts of the code, of which there is one.
use Rattle.std.proofs.Common.{◌≡◌, ℕ, ◌≤◌, false, List, [], ◌∷◌, ◌++◌, length, fold, refl, arith}
use Rattle.std.proofs.lemmas.List.Sums.{fold-append}
use Rattle.porch_parse.specs.declared.frame.Frame as code_frame
use Rattle.porch_parse.specs.Building.{Frame}
use Rattle.porch_parse.specs.Shown.{frame_of, frames_of}
use Rattle.porch_parts.specs.declared.part.Part as code_part
use Rattle.porch_parts.specs.Types.{Part, is_outermost}
use Rattle.porch_parts.specs.Parts.{is_bare}
use Rattle.porch_parts.specs.Shown.{part_of, parts_of}

inner_fold : (text : List ℕ) (a : Part) (above : List Part) (ps : List code_part.Part) → is_outermost (fold (λ above p. part_of text p ∷ above) (a ∷ above) ps) ≡ false
inner_fold text a above [] = refl
inner_fold text a above (p ∷ ps) = inner_fold text (part_of text p) (a ∷ above) ps

pub inner_parts : (text : List ℕ) (ps : List code_part.Part) → 1 ≤ length ps → is_outermost (parts_of text ps) ≡ false
inner_parts text [] h = absurd (omega (arith, h))
inner_parts text (p ∷ ps) h = inner_fold text (part_of text p) [] ps

bare_fold : (text : List ℕ) (a : Frame) (above : List Frame) (fs : List code_frame.Frame) → is_bare (fold (λ above f. frame_of text f ∷ above) (a ∷ above) fs) ≡ false
bare_fold text a above [] = refl
bare_fold text a above (f ∷ fs) = bare_fold text (frame_of text f) (a ∷ above) fs

pub inner_frames : (text : List ℕ) (fs : List code_frame.Frame) → 1 ≤ length fs → is_bare (frames_of text fs) ≡ false
inner_frames text [] h = absurd (omega (arith, h))
inner_frames text (f ∷ fs) h = bare_fold text (frame_of text f) [] fs

pub on_top : (text : List ℕ) (ps : List code_part.Part) (p : code_part.Part) → parts_of text (ps ++ p ∷ []) ≡ part_of text p ∷ parts_of text ps
on_top text ps p = fold-append (λ above p. part_of text p ∷ above) [] ps (p ∷ [])
