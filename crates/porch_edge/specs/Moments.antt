-- A worked example: why a disk tells moments. Two disks in memory get a byte each, the first one before the second. What a
-- crash may have left of each since the start admits a byte on the second disk alone, which no crash leaves.
use Rattle.std.specs.Prelude.{◌≡◌, ℕ, ◌+◌, ◌⊎◌, [], ◌∷◌, Vec}
use Rattle.std.specs.declared.alloc.Global.{Global}
use Rattle.porch_edge.specs.declared.disk.FileName.TheVariants.{Output}
use Rattle.porch_edge.specs.declared.memory_calls.Change.TheVariants.{Put}
use Rattle.porch_edge.specs.Files.{Files, no_files, with_file}
use Rattle.porch_edge.specs.Disk.{DiskState, Moment, since}
use Rattle.porch_edge.specs.Calls.{memory_state}

-- six files, of which one has a byte
abbrev pub one_byte : Files
one_byte = with_file Output no_files (1 ∷ [])

-- a disk that had no byte at moment 0, and got one at moment 1
abbrev pub put_once : Vec ℕ Global → DiskState
put_once empty = memory_state one_byte (record { file = Output; change = Put; before = empty; moment = 1 } ∷ []) 1

-- the moment of one device
abbrev pub at_once : ℕ → Moment
at_once n = λ _. n

-- two devices pass a pair of moments where the first is as far as the second, or one call further
abbrev pub IsPassed : ℕ → ℕ → Type 0
IsPassed first second = (first ≡ second) ⊎ (first ≡ second + 1)

-- each may have been left so since the start
abbrev pub IsAdmitted : Vec ℕ Global → Files → Files → Type 0
IsAdmitted empty first second = since (put_once empty) (at_once 0) first × since (put_once empty) (at_once 0) second

-- a crash at one moment leaves both so
abbrev pub IsLeft : Vec ℕ Global → Files → Files → Type 0
IsLeft empty first second = (i : ℕ) × (j : ℕ) × IsPassed i j × (put_once empty).at (at_once i) first × (put_once empty).at (at_once j) second
