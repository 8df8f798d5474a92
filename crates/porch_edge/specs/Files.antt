-- The content of the six files, and what a call does to the bytes of one.
use Rattle.std.specs.Prelude.{◌≡◌, ℕ, ◌+◌, ◌-◌, ◌^◌, ◌≤◌, ◌++◌, List, [], ◌∷◌, length, take, drop, min, max, replicate}
use Rattle.porch_edge.specs.declared.disk.FileName.{FileName}
use Rattle.porch_edge.specs.declared.disk.FileName.TheVariants.{Program, Output, CkA, CkB, Layouts, Input}

-- the bytes of each file
pub record Files : Type 0 where
  pub program : List ℕ
  pub output : List ℕ
  pub ck_a : List ℕ
  pub ck_b : List ℕ
  pub layouts : List ℕ
  pub input : List ℕ

-- six empty files
abbrev pub no_files : Files
no_files = record { program = []; output = []; ck_a = []; ck_b = []; layouts = []; input = [] }

-- the bytes of one file
abbrev pub file_of : FileName → Files → List ℕ
file_of Program fs = fs.program
file_of Output fs = fs.output
file_of CkA fs = fs.ck_a
file_of CkB fs = fs.ck_b
file_of Layouts fs = fs.layouts
file_of Input fs = fs.input

-- the files with other bytes in one of them
abbrev pub with_file : FileName → Files → List ℕ → Files
with_file Program fs bytes = record { program = bytes; output = fs.output; ck_a = fs.ck_a; ck_b = fs.ck_b; layouts = fs.layouts; input = fs.input }
with_file Output fs bytes = record { program = fs.program; output = bytes; ck_a = fs.ck_a; ck_b = fs.ck_b; layouts = fs.layouts; input = fs.input }
with_file CkA fs bytes = record { program = fs.program; output = fs.output; ck_a = bytes; ck_b = fs.ck_b; layouts = fs.layouts; input = fs.input }
with_file CkB fs bytes = record { program = fs.program; output = fs.output; ck_a = fs.ck_a; ck_b = bytes; layouts = fs.layouts; input = fs.input }
with_file Layouts fs bytes = record { program = fs.program; output = fs.output; ck_a = fs.ck_a; ck_b = fs.ck_b; layouts = bytes; input = fs.input }
with_file Input fs bytes = record { program = fs.program; output = fs.output; ck_a = fs.ck_a; ck_b = fs.ck_b; layouts = fs.layouts; input = bytes }

-- no file is longer than 2^62 bytes
abbrev pub IsWithin : Files → Type 0
IsWithin fs = (file : FileName) → length (file_of file fs) ≤ 2 ^ 62

-- with zeros up to a place, where the bytes end before it
abbrev pub padded_to : ℕ → List ℕ → List ℕ
padded_to at bytes = bytes ++ replicate (at - length bytes) 0

-- a file after a write at a place; an empty write changes nothing
abbrev pub written : List ℕ → ℕ → List ℕ → List ℕ
written old at [] = old
written old at (b ∷ bytes) = take at (padded_to at old) ++ (b ∷ bytes) ++ drop (at + length (b ∷ bytes)) old

-- a write of these places that a crash or a fault cuts short: any bytes in them, some length on the way, and all else as it was
pub record Torn (from to : ℕ) (old new : List ℕ) : Type 0 where
  pub before : take from new ≡ take from old
  pub behind : drop to new ≡ drop to old
  pub no_shorter : length old ≤ length new
  pub no_longer : length new ≤ max (length old) to

-- a cut that a crash cuts short: some length on the way
pub record Shortened (len : ℕ) (old new : List ℕ) : Type 0 where
  pub front : new ≡ take (length new) old
  pub no_shorter : min len (length old) ≤ length new

-- a cut that fails: some length on the way, and any bytes behind the place
pub record Marred (len : ℕ) (old new : List ℕ) : Type 0 where
  pub before : take len new ≡ take len old
  pub no_shorter : min len (length old) ≤ length new
  pub no_longer : length new ≤ length old

-- one file has changed in this way, and the others stay
pub record Changed (file : FileName) (change : List ℕ → List ℕ → Type 0) (old new : Files) : Type 0 where
  pub others : new ≡ with_file file old (file_of file new)
  pub bytes : change (file_of file old) (file_of file new)
