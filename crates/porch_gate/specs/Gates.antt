-- When a file is open, and what the calls on its gate make of its bytes.
use Rattle.std.specs.Prelude.{◌≡◌, ◌==◌, ℕ, ◌<◌, ◌≤◌, ◌⊎◌, ◌++◌, List, [], ◌∷◌, length, take, drop, if◌then◌else◌}
use Rattle.porch_gate.specs.declared.gate.Gate.{Gate}
use Rattle.porch_edge.specs.declared.disk.FileName.{FileName}
use Rattle.porch_edge.specs.Files.{Files, file_of, with_file}
use Rattle.porch_edge.specs.Disk.{DiskState, WhereTold, BothTell}

-- a file is open where it is long enough and begins with the letter
pub record IsOpen (gate : Gate) (bytes : List ℕ) : Type 0 where
  pub long : gate.least ≤ length bytes
  pub letter : take 1 bytes ≡ gate.letter ∷ []

-- a crash leaves the file closed
abbrev pub IsClosed : DiskState → FileName → Gate → Type 0
IsClosed disk file gate = WhereTold disk (λ _. (c : Files) → disk.leaves c → ¬ IsOpen gate (file_of file c))

-- a crash leaves the file open
abbrev pub IsOpened : DiskState → FileName → Gate → Type 0
IsOpened disk file gate = WhereTold disk (λ _. (c : Files) → disk.leaves c → IsOpen gate (file_of file c))

-- the file doesn't begin with the letter
abbrev pub HasNoLetter : DiskState → FileName → Gate → Type 0
HasNoLetter disk file gate = WhereTold disk (λ fs. ¬ (take 1 (file_of file fs) ≡ gate.letter ∷ []))

-- a file has a first byte
abbrev pub HasFirst : DiskState → FileName → Type 0
HasFirst disk file = WhereTold disk (λ fs. 0 < length (file_of file fs))

-- the bytes with the byte 0 in front, where they are empty or begin with the letter
abbrev pub closed_bytes : Gate → List ℕ → List ℕ
closed_bytes gate [] = 0 ∷ []
closed_bytes gate (x ∷ bytes) = if x == gate.letter then 0 ∷ bytes else x ∷ bytes

-- the first byte, and these behind it
abbrev pub filled_bytes : List ℕ → List ℕ → List ℕ
filled_bytes bytes old = take 1 old ++ bytes

-- the bytes with the letter in front
abbrev pub opened_bytes : Gate → List ℕ → List ℕ
opened_bytes gate old = gate.letter ∷ drop 1 old

-- the file has the bytes that it had, or is closed
abbrev pub OldOrClosed : Gate → List ℕ → List ℕ → Type 0
OldOrClosed gate old bytes = (bytes ≡ old) ⊎ (¬ IsOpen gate bytes)

-- the first byte is the one that it was
abbrev pub SameFirst : List ℕ → List ℕ → Type 0
SameFirst old bytes = take 1 bytes ≡ take 1 old

-- reads give these bytes of one file now, of its old ones, pending or not
abbrev pub ReadsNow : DiskState → DiskState → FileName → (List ℕ → List ℕ) → Type 0
ReadsNow old new file change = BothTell old.files new.files (λ fs gs. gs ≡ with_file file fs (change (file_of file fs)))

-- reads give the first byte that they gave
abbrev pub ReadsSameFirst : DiskState → DiskState → FileName → Type 0
ReadsSameFirst old new file = BothTell old.files new.files (λ fs gs. SameFirst (file_of file fs) (file_of file gs))

-- the file is whole, or is closed
abbrev pub WholeOrClosed : Gate → List ℕ → List ℕ → Type 0
WholeOrClosed gate old bytes = (bytes ≡ opened_bytes gate old) ⊎ (¬ IsOpen gate bytes)
