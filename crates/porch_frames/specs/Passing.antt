-- How the arguments of a call go to the parameters of a new frame.
use Rattle.std.specs.Prelude.{ℕ, ◌≡◌, ◌≤◌, ◌+◌, List, [], ◌∷◌, map, ⊤}
use Rattle.porch_flat.specs.declared.whole.Flat.{Flat}
use Rattle.porch_bytes.specs.Leaf.{part}
use Rattle.porch_bytes.specs.Shapes.{size_in}
use Rattle.porch_bytes.specs.State.{Setting, Frame}
use Rattle.porch_bytes.specs.Column.{with_variables}
use Rattle.porch_instructions.specs.declared.instruction.Cell.{Cell}
use Rattle.porch_instructions.specs.declared.instruction.Context.{Context}
use Rattle.porch_instructions.specs.declared.scope.Scope.{Scope}
use Rattle.porch_instructions.specs.Instructions.{source_value, with_cell, SourceLies, LiesWithin}
use Rattle.porch_instructions.specs.Resolved.{context_of, IsScope, IsCellIn}
use Rattle.porch_frames.specs.declared.passing.Passing.{Passing}

-- a frame at another address
abbrev pub in_frame : Context → (at : ℕ) → Context
in_frame here at = record here { at = at }

-- memory where parameters, in the one frame, have the numbers that arguments had in the other, in old memory
abbrev pub passed : (here there : Context) → List Passing → (old memory : List ℕ) → List ℕ
passed here there [] old memory = memory
passed here there (p ∷ ps) old memory =
    passed here there ps old (with_cell there p.to memory (source_value here p.from old))

-- a variable ends at or before an address
abbrev pub EndsBefore : Context → (at : ℕ) → Cell → Type 0
EndsBefore here at cell = here.at + cell.offset + size_in cell.shape ≤ at

-- an argument is read before a new frame of so many bytes, and its parameter lies in that
pub record IsPassing (here : Context) (at size : ℕ) (p : Passing) : Type 0 where
  pub from_before : SourceLies (EndsBefore here at) p.from
  pub to_within : LiesWithin size p.to

abbrev pub ArePassings : Context → (at size : ℕ) → List Passing → Type 0
ArePassings here at size [] = ⊤
ArePassings here at size (p ∷ ps) = IsPassing here at size p × ArePassings here at size ps

-- memory is the same before an address
abbrev pub AgreeBelow : (at : ℕ) → (old new : List ℕ) → Type 0
AgreeBelow at old new = (other size : ℕ) → other + size ≤ at → part new other size ≡ part old other size

-- the parameters from one on have these cells
abbrev pub AreParameters : Scope → (v : ℕ) → List Passing → Type 0
AreParameters scope v [] = ⊤
AreParameters scope v (p ∷ ps) = IsCellIn scope v p.to × AreParameters scope (v + 1) ps

-- Arguments that go to the cells of the parameters go to the parameters.
abbrev pub ArgumentsArePassed : Type 0
ArgumentsArePassed =
    (flat : Flat) (on : Setting) (function : ℕ) (scope : Scope) → IsScope flat on function scope
    → (frame : Frame) (callers : List Frame) → frame.function ≡ function
    → (here : Context) (ps : List Passing) (v : ℕ) (old memory : List ℕ) → AreParameters scope v ps
    → with_variables flat on frame.function frame.at v memory
    (map (λ (p : Passing). source_value here p.from old) ps)
    ≡ passed here (context_of flat on frame callers) ps old memory
