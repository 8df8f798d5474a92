-- Arguments are read before the new frame, so that what is written there leaves them as they are.
use Rattle.std.proofs.Common.{◌≡◌, ◌≤◌, ℕ, ◌+◌, List, [], ◌∷◌, length, refl, ap, ◌∙◌, arith}
use Rattle.std.specs.Prelude.{ℤ, map, replicate}
use Rattle.std.proofs.lemmas.List.{length-replicate}
use Rattle.porch_bytes.specs.Leaf.{spliced, decoded, encoded, PartsStay, OthersStay, NumbersHaveSizes}
use Rattle.porch_bytes.specs.Shapes.{size_in, has_sign_in}
use Rattle.porch_bytes.specs.Column.{with_variables}
use Rattle.porch_instructions.specs.declared.instruction.Cell.{Cell}
use Rattle.porch_instructions.specs.declared.instruction.Source.{Source}
use Rattle.porch_instructions.specs.declared.instruction.Source.TheVariants as source
use Rattle.porch_instructions.specs.declared.instruction.Context.{Context}
use Rattle.porch_instructions.specs.Instructions.{source_value, with_cell, SourceLies, LiesWithin}
use Rattle.porch_instructions.specs.Resolved.{context_of}
use Rattle.porch_instructions.specs.Variables.{IsVariable, CellsAreVariables}
use Rattle.porch_frames.specs.declared.passing.Passing.{Passing}
use Rattle.porch_frames.specs.Passing.{in_frame, passed, EndsBefore, ArePassings, AgreeBelow, ArgumentsArePassed}

-- an argument is the same in memory that agrees before the frame
pub same_value : (here : Context) (at : ℕ) (old new : List ℕ) → AgreeBelow at old new → (from : Source) → SourceLies (EndsBefore here at) from
    → source_value here from new ≡ source_value here from old
same_value here at old new h (source.Variable cell) k =
    ap (decoded here.big (has_sign_in cell.shape)) (h (here.at + cell.offset) (size_in cell.shape) k)
same_value here at old new h (source.Constant z) k = refl

pub passed_alike : (here there : Context) (at size : ℕ) (old new memory : List ℕ) → AgreeBelow at old new → (ps : List Passing) → ArePassings here at size ps
    → passed here there ps new memory ≡ passed here there ps old memory
passed_alike here there at size old new memory h [] k = refl
passed_alike here there at size old new memory h (p ∷ ps) k =
    ap (λ (z : ℤ). passed here there ps new (with_cell there p.to memory z)) (same_value here at old new h p.from k.0.from_before)
    ∙ passed_alike here there at size old new (with_cell there p.to memory (source_value here p.from old)) h ps k.1

-- a variable of the new frame is written after all that stands before it
pub cell_agrees : OthersStay → NumbersHaveSizes → (there : Context) (size : ℕ) (cell : Cell) (memory : List ℕ) (z : ℤ) → LiesWithin size cell → there.at + size ≤ length memory
    → AgreeBelow there.at memory (with_cell there cell memory z)
cell_agrees stay sizes there size cell memory z k f other n le =
    let e : length (encoded there.big (size_in cell.shape) z) ≡ size_in cell.shape = sizes there.big (size_in cell.shape) z in
    let stays : PartsStay memory (there.at + cell.offset) (encoded there.big (size_in cell.shape) z) =
    stay memory (there.at + cell.offset) (encoded there.big (size_in cell.shape) z) (omega (arith, e, k, f)) in
    stays.before other n (omega (arith, le))

pub clear_agrees : OthersStay → (at size : ℕ) (memory : List ℕ) → at + size ≤ length memory → AgreeBelow at memory (spliced memory at (replicate {A = ℕ} size 0))
clear_agrees stay at size memory f other n le =
    let e : length (replicate {A = ℕ} size 0) ≡ size = length-replicate size 0 in
    let stays : PartsStay memory at (replicate {A = ℕ} size 0) = stay memory at (replicate {A = ℕ} size 0) (omega (arith, e, f)) in
    stays.before other n le

pub passed_after_clearing : OthersStay → (here : Context) (at size : ℕ) (ps : List Passing) (memory : List ℕ) → at + size ≤ length memory → ArePassings here at size ps
    → passed here (in_frame here at) ps (spliced memory at (replicate {A = ℕ} size 0)) (spliced memory at (replicate {A = ℕ} size 0))
    ≡ passed here (in_frame here at) ps memory (spliced memory at (replicate {A = ℕ} size 0))
passed_after_clearing stay here at size ps memory f k =
    passed_alike here (in_frame here at) at size memory (spliced memory at (replicate {A = ℕ} size 0)) (spliced memory at (replicate {A = ℕ} size 0)) (clear_agrees stay at size memory f) ps k

pub arguments_passed : CellsAreVariables → ArgumentsArePassed
arguments_passed cells flat on function scope s frame callers e here [] v old memory h = refl
arguments_passed cells flat on function scope s frame callers e here (p ∷ ps) v old memory h =
    let is : IsVariable flat on frame callers v p.to = cells flat on function scope s frame callers e v p.to h.0 in
    ap (λ (m : List ℕ). with_variables flat on frame.function frame.at (v + 1) m (map (λ (q : Passing). source_value here q.from old) ps)) (is.write_is memory (source_value here p.from old))
    ∙ arguments_passed cells flat on function scope s frame callers e here ps (v + 1) old (with_cell (context_of flat on frame callers) p.to memory (source_value here p.from old)) h.1
