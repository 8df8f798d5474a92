-- Files by their names.
use Rattle.std.proofs.Common.{◌≡◌, ◌≢◌, ◌==◌, ℕ, List, true, false, refl, sym, subst, inl, inr, arith, if◌then◌else◌}
use Rattle.std.proofs.lemmas.Bool.{cases_eq}
use Rattle.std.proofs.lemmas.Bool.Decides.{nat_tests}
use Rattle.porch_edge.specs.declared.disk.FileName.{FileName}
use Rattle.porch_edge.specs.declared.disk.FileName.TheVariants.{Program, Output, CkA, CkB, Layouts, Input}
use Rattle.porch_edge.specs.Files.{Files, file_of, with_file}
use Rattle.porch_edge.specs.Calls.{index_of}

pub same_index : (f g : FileName) → index_of f ≡ index_of g → f ≡ g
same_index Program g = elim g as (λ h. index_of Program ≡ index_of h → Program ≡ h) [ Program ↦ λ e. refl | Output ↦ λ e. absurd (omega (arith, e)) | CkA ↦ λ e. absurd (omega (arith, e)) | CkB ↦ λ e. absurd (omega (arith, e)) | Layouts ↦ λ e. absurd (omega (arith, e)) | Input ↦ λ e. absurd (omega (arith, e)) ]
same_index Output g = elim g as (λ h. index_of Output ≡ index_of h → Output ≡ h) [ Program ↦ λ e. absurd (omega (arith, e)) | Output ↦ λ e. refl | CkA ↦ λ e. absurd (omega (arith, e)) | CkB ↦ λ e. absurd (omega (arith, e)) | Layouts ↦ λ e. absurd (omega (arith, e)) | Input ↦ λ e. absurd (omega (arith, e)) ]
same_index CkA g = elim g as (λ h. index_of CkA ≡ index_of h → CkA ≡ h) [ Program ↦ λ e. absurd (omega (arith, e)) | Output ↦ λ e. absurd (omega (arith, e)) | CkA ↦ λ e. refl | CkB ↦ λ e. absurd (omega (arith, e)) | Layouts ↦ λ e. absurd (omega (arith, e)) | Input ↦ λ e. absurd (omega (arith, e)) ]
same_index CkB g = elim g as (λ h. index_of CkB ≡ index_of h → CkB ≡ h) [ Program ↦ λ e. absurd (omega (arith, e)) | Output ↦ λ e. absurd (omega (arith, e)) | CkA ↦ λ e. absurd (omega (arith, e)) | CkB ↦ λ e. refl | Layouts ↦ λ e. absurd (omega (arith, e)) | Input ↦ λ e. absurd (omega (arith, e)) ]
same_index Layouts g = elim g as (λ h. index_of Layouts ≡ index_of h → Layouts ≡ h) [ Program ↦ λ e. absurd (omega (arith, e)) | Output ↦ λ e. absurd (omega (arith, e)) | CkA ↦ λ e. absurd (omega (arith, e)) | CkB ↦ λ e. absurd (omega (arith, e)) | Layouts ↦ λ e. refl | Input ↦ λ e. absurd (omega (arith, e)) ]
same_index Input g = elim g as (λ h. index_of Input ≡ index_of h → Input ≡ h) [ Program ↦ λ e. absurd (omega (arith, e)) | Output ↦ λ e. absurd (omega (arith, e)) | CkA ↦ λ e. absurd (omega (arith, e)) | CkB ↦ λ e. absurd (omega (arith, e)) | Layouts ↦ λ e. absurd (omega (arith, e)) | Input ↦ λ e. refl ]

pub file_of-with : (f g : FileName) (fs : Files) (x : List ℕ) → file_of f (with_file g fs x) ≡ (if index_of f == index_of g then x else file_of f fs)
file_of-with Program g fs x = elim g as (λ h. file_of Program (with_file h fs x) ≡ (if index_of Program == index_of h then x else file_of Program fs)) [ Program ↦ refl | Output ↦ refl | CkA ↦ refl | CkB ↦ refl | Layouts ↦ refl | Input ↦ refl ]
file_of-with Output g fs x = elim g as (λ h. file_of Output (with_file h fs x) ≡ (if index_of Output == index_of h then x else file_of Output fs)) [ Program ↦ refl | Output ↦ refl | CkA ↦ refl | CkB ↦ refl | Layouts ↦ refl | Input ↦ refl ]
file_of-with CkA g fs x = elim g as (λ h. file_of CkA (with_file h fs x) ≡ (if index_of CkA == index_of h then x else file_of CkA fs)) [ Program ↦ refl | Output ↦ refl | CkA ↦ refl | CkB ↦ refl | Layouts ↦ refl | Input ↦ refl ]
file_of-with CkB g fs x = elim g as (λ h. file_of CkB (with_file h fs x) ≡ (if index_of CkB == index_of h then x else file_of CkB fs)) [ Program ↦ refl | Output ↦ refl | CkA ↦ refl | CkB ↦ refl | Layouts ↦ refl | Input ↦ refl ]
file_of-with Layouts g fs x = elim g as (λ h. file_of Layouts (with_file h fs x) ≡ (if index_of Layouts == index_of h then x else file_of Layouts fs)) [ Program ↦ refl | Output ↦ refl | CkA ↦ refl | CkB ↦ refl | Layouts ↦ refl | Input ↦ refl ]
file_of-with Input g fs x = elim g as (λ h. file_of Input (with_file h fs x) ≡ (if index_of Input == index_of h then x else file_of Input fs)) [ Program ↦ refl | Output ↦ refl | CkA ↦ refl | CkB ↦ refl | Layouts ↦ refl | Input ↦ refl ]

pub with_back : (g : FileName) (fs : Files) (x : List ℕ) → with_file g (with_file g fs x) (file_of g fs) ≡ fs
with_back Program fs x = refl
with_back Output fs x = refl
with_back CkA fs x = refl
with_back CkB fs x = refl
with_back Layouts fs x = refl
with_back Input fs x = refl

pub same_test : (g : FileName) → (index_of g == index_of g) ≡ true
same_test Program = refl
same_test Output = refl
same_test CkA = refl
same_test CkB = refl
same_test Layouts = refl
same_test Input = refl

pub other_test : (f g : FileName) → index_of f ≢ index_of g → (index_of f == index_of g) ≡ false
other_test f g other = grind (arith, nat_tests)

pub other_bytes : (f g : FileName) (fs : Files) (x : List ℕ) → index_of f ≢ index_of g → file_of f (with_file g fs x) ≡ file_of f fs
other_bytes f g fs x other = rw (file_of-with f g fs x, other_test f g other) refl

-- what holds of one file and of each other holds of all
pub by_file : (g : FileName) (P : FileName → Type 0) → P g → ((f : FileName) → index_of f ≢ index_of g → P f) → (f : FileName) → P f
by_file g P own others f = elim (cases_eq (index_of f) (index_of g)) [
  | inl same ↦ subst P (sym (same_index f g same)) own
  | inr other ↦ others f other
]
