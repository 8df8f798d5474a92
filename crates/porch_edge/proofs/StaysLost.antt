-- What is lost stays lost where one more file is.
use Rattle.std.proofs.Common.{IsTrue, refl}
use Rattle.porch_edge.specs.declared.disk.FileName.{FileName}
use Rattle.porch_edge.specs.declared.disk.FileName.TheVariants.{Program, Output, CkA, CkB, Layouts, Input}
use Rattle.porch_edge.specs.declared.folder.lost.LostFiles.{LostFiles}
use Rattle.porch_edge.specs.Folder.{is_lost, with_lost, StayLost}

pub stay_lost : (lost : LostFiles) (file : FileName) → StayLost lost (with_lost lost file)
stay_lost lost Program other = elim other as (λ f. IsTrue (is_lost lost f) → IsTrue (is_lost (with_lost lost Program) f)) [ Program ↦ λ h. refl | Output ↦ λ h. h | CkA ↦ λ h. h | CkB ↦ λ h. h | Layouts ↦ λ h. h | Input ↦ λ h. h ]
stay_lost lost Output other = elim other as (λ f. IsTrue (is_lost lost f) → IsTrue (is_lost (with_lost lost Output) f)) [ Program ↦ λ h. h | Output ↦ λ h. refl | CkA ↦ λ h. h | CkB ↦ λ h. h | Layouts ↦ λ h. h | Input ↦ λ h. h ]
stay_lost lost CkA other = elim other as (λ f. IsTrue (is_lost lost f) → IsTrue (is_lost (with_lost lost CkA) f)) [ Program ↦ λ h. h | Output ↦ λ h. h | CkA ↦ λ h. refl | CkB ↦ λ h. h | Layouts ↦ λ h. h | Input ↦ λ h. h ]
stay_lost lost CkB other = elim other as (λ f. IsTrue (is_lost lost f) → IsTrue (is_lost (with_lost lost CkB) f)) [ Program ↦ λ h. h | Output ↦ λ h. h | CkA ↦ λ h. h | CkB ↦ λ h. refl | Layouts ↦ λ h. h | Input ↦ λ h. h ]
stay_lost lost Layouts other = elim other as (λ f. IsTrue (is_lost lost f) → IsTrue (is_lost (with_lost lost Layouts) f)) [ Program ↦ λ h. h | Output ↦ λ h. h | CkA ↦ λ h. h | CkB ↦ λ h. h | Layouts ↦ λ h. refl | Input ↦ λ h. h ]
stay_lost lost Input other = elim other as (λ f. IsTrue (is_lost lost f) → IsTrue (is_lost (with_lost lost Input) f)) [ Program ↦ λ h. h | Output ↦ λ h. h | CkA ↦ λ h. h | CkB ↦ λ h. h | Layouts ↦ λ h. h | Input ↦ λ h. refl ]
