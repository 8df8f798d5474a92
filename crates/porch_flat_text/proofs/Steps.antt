-- What a line makes of a program.
use Rattle.std.proofs.Common.{◌≡◌, Bool, true, false, ◌&&◌, List, ℕ, refl}
use Rattle.std.specs.Str.{bytes_eq}
use Rattle.porch_flat_text.specs.declared.draft.Draft.{Draft}
use Rattle.porch_flat_text.specs.inside.Drafts.{Taken, taken_if}

taken_at : (test taken : Bool) (d new : Draft) (condition : Bool) (line text : List ℕ) → (condition && bytes_eq text line) ≡ test → taken ≡ test → new ≡ d → Taken (taken_if condition line text d) taken new
taken_at true taken d new condition line text e t same = rw e (t, same)
taken_at false taken d new condition line text e t same = rw e t

-- a line is taken where it is written so
pub taken_when : (taken : Bool) (d new : Draft) (condition : Bool) (line text : List ℕ) → taken ≡ (condition && bytes_eq text line) → new ≡ d → Taken (taken_if condition line text d) taken new
taken_when taken d new condition line text t same = taken_at (condition && bytes_eq text line) taken d new condition line text refl t same
