-- What reads give of the files where one of them got other bytes. Each fact is proved here; no clause cites it.
use Rattle.std.specs.Prelude.{◌≡◌, ◌≢◌, ℕ, List, refl}
use Rattle.porch_edge.specs.declared.disk.FileName.{FileName}
use Rattle.porch_edge.specs.declared.disk.FileName.TheVariants.{Program, Output, CkA, CkB, Layouts, Input}
use Rattle.porch_edge.specs.Files.{Files, file_of, with_file}

-- it has those bytes
pub own_bytes : (file : FileName) (fs : Files) (x : List ℕ) → file_of file (with_file file fs x) ≡ x
own_bytes Program fs x = refl
own_bytes Output fs x = refl
own_bytes CkA fs x = refl
own_bytes CkB fs x = refl
own_bytes Layouts fs x = refl
own_bytes Input fs x = refl

-- its own bytes change nothing
pub with_own : (file : FileName) (fs : Files) → with_file file fs (file_of file fs) ≡ fs
with_own Program fs = refl
with_own Output fs = refl
with_own CkA fs = refl
with_own CkB fs = refl
with_own Layouts fs = refl
with_own Input fs = refl

-- of two changes the second counts
pub with_twice : (file : FileName) (fs : Files) (x y : List ℕ) → with_file file (with_file file fs x) y ≡ with_file file fs y
with_twice Program fs x y = refl
with_twice Output fs x y = refl
with_twice CkA fs x y = refl
with_twice CkB fs x y = refl
with_twice Layouts fs x y = refl
with_twice Input fs x y = refl

-- and another file has its own as before
pub other_bytes : (file other : FileName) (fs : Files) (x : List ℕ) → other ≢ file → file_of other (with_file file fs x) ≡ file_of other fs
other_bytes Program file fs x = elim file as (λ f. f ≢ Program → file_of f (with_file Program fs x) ≡ file_of f fs) [ Program ↦ λ other. absurd (other refl) | Output ↦ λ other. refl | CkA ↦ λ other. refl | CkB ↦ λ other. refl | Layouts ↦ λ other. refl | Input ↦ λ other. refl ]
other_bytes Output file fs x = elim file as (λ f. f ≢ Output → file_of f (with_file Output fs x) ≡ file_of f fs) [ Program ↦ λ other. refl | Output ↦ λ other. absurd (other refl) | CkA ↦ λ other. refl | CkB ↦ λ other. refl | Layouts ↦ λ other. refl | Input ↦ λ other. refl ]
other_bytes CkA file fs x = elim file as (λ f. f ≢ CkA → file_of f (with_file CkA fs x) ≡ file_of f fs) [ Program ↦ λ other. refl | Output ↦ λ other. refl | CkA ↦ λ other. absurd (other refl) | CkB ↦ λ other. refl | Layouts ↦ λ other. refl | Input ↦ λ other. refl ]
other_bytes CkB file fs x = elim file as (λ f. f ≢ CkB → file_of f (with_file CkB fs x) ≡ file_of f fs) [ Program ↦ λ other. refl | Output ↦ λ other. refl | CkA ↦ λ other. refl | CkB ↦ λ other. absurd (other refl) | Layouts ↦ λ other. refl | Input ↦ λ other. refl ]
other_bytes Layouts file fs x = elim file as (λ f. f ≢ Layouts → file_of f (with_file Layouts fs x) ≡ file_of f fs) [ Program ↦ λ other. refl | Output ↦ λ other. refl | CkA ↦ λ other. refl | CkB ↦ λ other. refl | Layouts ↦ λ other. absurd (other refl) | Input ↦ λ other. refl ]
other_bytes Input file fs x = elim file as (λ f. f ≢ Input → file_of f (with_file Input fs x) ≡ file_of f fs) [ Program ↦ λ other. refl | Output ↦ λ other. refl | CkA ↦ λ other. refl | CkB ↦ λ other. refl | Layouts ↦ λ other. refl | Input ↦ λ other. absurd (other refl) ]
