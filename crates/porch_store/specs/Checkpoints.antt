-- When a checkpoint file is open, its number, and which of two is the newest.
use Rattle.std.specs.Prelude.{◌≡◌, ℕ, ◌<◌, ◌≤◌, List, [], ◌∷◌, length, take, drop}
use Rattle.std.specs.declared.option.Option.{Option}
use Rattle.std.specs.declared.option.Option.TheVariants.{Some, None}
use Rattle.byteorder.specs.Endian.{big_number}
use Rattle.porch_edge.specs.declared.disk.FileName.TheVariants.{Program, Output, CkA, CkB, Layouts, Input}
use Rattle.porch_edge.specs.Files.{Files, file_of}
use Rattle.porch_store.specs.declared.number.TheConstants.{CHECKPOINT_LETTER, CHECKPOINT_LEAST}
use Rattle.porch_store.specs.declared.newest.Newest.{Newest}
use Rattle.porch_store.specs.declared.newest.Newest.TheVariants.{Neither, One, Tie}

-- a checkpoint file counts where it has at least 128 bytes and begins with the letter P
pub record IsOpen (bytes : List ℕ) : Type 0 where
  pub long : CHECKPOINT_LEAST ≤ length bytes
  pub letter : take 1 bytes ≡ CHECKPOINT_LETTER ∷ []

-- a whole checkpoint file: the letter, and these bytes behind it
abbrev pub whole_file : List ℕ → List ℕ
whole_file bytes = CHECKPOINT_LETTER ∷ bytes

-- its number, a big-endian u64 at place 16
abbrev pub number_of : List ℕ → ℕ
number_of bytes = big_number 8 (drop 16 bytes)

-- a file is open, and has the greater number where the other is open too
pub record Outranks (bytes other : List ℕ) : Type 0 where
  pub is_open : IsOpen bytes
  pub greater : IsOpen other → number_of other < number_of bytes

-- the newest is the open file with the greater number; two open files with one number are a tie
abbrev pub IsNewest : Newest → Files → Type 0
IsNewest Neither fs = (¬ IsOpen fs.ck_a) × (¬ IsOpen fs.ck_b)
IsNewest (One CkA) fs = Outranks fs.ck_a fs.ck_b
IsNewest (One CkB) fs = Outranks fs.ck_b fs.ck_a
IsNewest (One Program) fs = ⊥
IsNewest (One Output) fs = ⊥
IsNewest (One Layouts) fs = ⊥
IsNewest (One Input) fs = ⊥
IsNewest Tie fs = IsOpen fs.ck_a × IsOpen fs.ck_b × (number_of fs.ck_a ≡ number_of fs.ck_b)

-- the number of the newest file, or of both where they tie
abbrev pub newest_number : Newest → Files → Option ℕ
newest_number Neither fs = None
newest_number (One file) fs = Some (number_of (file_of file fs))
newest_number Tie fs = Some (number_of fs.ck_a)
