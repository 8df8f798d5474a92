use Rattle.std.proofs.Common.{◌≡◌, ◌≤◌, ℕ, [], ◌∷◌, length, Vec, inl, inr, refl, sym, ◌∙◌, ap, arith}
use Rattle.std.specs.declared.alloc.Global.{Global}
use Rattle.porch_edge.specs.declared.disk.FileName.TheVariants.{Program, Output, CkA, CkB, Layouts, Input}
use Rattle.porch_edge.specs.declared.memory_calls.Change.TheVariants.{Put}
use Rattle.porch_edge.specs.declared.memory_calls.Call.{Call}
use Rattle.porch_edge.specs.Files.{no_files, file_of}
use Rattle.porch_edge.specs.Calls.{files_before, FileLeaves, LeftAt}
use Rattle.porch_edge.specs.Moments.{one_byte, at_once}
use Rattle.porch_edge.proofs.laws.moments_differ.Goals as goal

module _ (empty : Vec ℕ Global) (none : empty.items ≡ []) where
  abbrev call : Call
  call = record { file = Output; change = Put; before = empty; moment = 1 }

  left_before : LeftAt one_byte (call ∷ []) 0 no_files
  left_before = inr (omega arith, λ file. elim file as (λ f. file_of f no_files ≡ file_of f (files_before call one_byte)) [ Program ↦ refl | Output ↦ sym none | CkA ↦ refl | CkB ↦ refl | Layouts ↦ refl | Input ↦ refl ])

  left_behind : LeftAt one_byte (call ∷ []) 1 one_byte
  left_behind = inl (omega arith, λ file. elim file as (λ f. FileLeaves f (file_of f one_byte) (call ∷ []) (file_of f one_byte)) [ Program ↦ refl | Output ↦ refl | CkA ↦ refl | CkB ↦ refl | Layouts ↦ refl | Input ↦ refl ])

  none_before : (i : ℕ) → LeftAt one_byte (call ∷ []) i no_files → i ≡ 0
  none_before i (inl left) = absurd (omega (arith, ap length (left.1 Output)))
  none_before i (inr left) = omega (arith, left.0)

  one_behind : (j : ℕ) → LeftAt one_byte (call ∷ []) j one_byte → 1 ≤ j
  one_behind j (inl left) = left.0
  one_behind j (inr left) = absurd (omega (arith, ap length (left.1 Output ∙ none)))

pub returns-clause-admitted : goal.returns-clause-admitted
returns-clause-admitted c = λ empty none. (
  (at_once 0, λ clock. omega arith, (λ clock. refl, omega arith, left_before empty none)),
  (at_once 1, λ clock. omega arith, (λ clock. refl, omega arith, left_behind empty none)),
)

pub returns-clause-never_left : goal.returns-clause-never_left
returns-clause-never_left c = λ empty none left.
    let zero = none_before empty none left.0 left.3.2 in
    let one = one_behind empty none left.1 left.4.2 in
    elim left.2 [ inl same ↦ omega (arith, zero, one, same) | inr next ↦ omega (arith, zero, next) ]
