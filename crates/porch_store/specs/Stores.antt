-- What a store knows of a disk, at rest and while it fills a file.
use Rattle.std.specs.Prelude.{◌≡◌, ℕ, ◌<◌, List, [], ◌∷◌, length, take, drop}
use Rattle.std.specs.declared.option.Option.{Option}
use Rattle.std.specs.declared.option.Option.TheVariants.{Some, None}
use Rattle.porch_edge.specs.Files.{Files, file_of}
use Rattle.porch_edge.specs.Disk.{DiskState, WhereTold}
use Rattle.porch_store.specs.declared.number.TheConstants.{CHECKPOINT_LETTER}
use Rattle.porch_store.specs.declared.newest.Newest.{Newest}
use Rattle.porch_store.specs.declared.stage.Stage.TheVariants.{Idle, Filling, Spent}
use Rattle.porch_store.specs.declared.store.Store.{Store}
use Rattle.porch_store.specs.Checkpoints.{IsNewest, newest_number}
use Rattle.porch_store.specs.Taken.{older_of, newer_of}

-- what a store takes for the newest
abbrev pub newest_known : Store → Newest
newest_known store = store.newest

-- the number of that one, or of both where they tie
abbrev pub number_known : Store → Option ℕ
number_known store = store.number

-- it may begin a checkpoint
abbrev pub IsIdle : Store → Type 0
IsIdle store = store.stage ≡ Idle

-- it has begun one, and not finished it
abbrev pub IsFilling : Store → Type 0
IsFilling store = store.stage ≡ Filling

-- a call has failed, and the store is of no more use
abbrev pub IsSpent : Store → Type 0
IsSpent store = store.stage ≡ Spent

-- the number of the checkpoint that was begun
abbrev pub number_begun : Store → ℕ
number_begun store = store.begun

-- how many bytes were appended to it
abbrev pub length_appended : Store → ℕ
length_appended store = store.appended

-- a number, where there is one, is below this one
abbrev pub IsBelow : Option ℕ → ℕ → Type 0
IsBelow None number = Unit {0}
IsBelow (Some known) number = known < number

-- the store knows the newest of these files and its number, and nothing is pending in either checkpoint file
pub record Knows (which : Newest) (known : Option ℕ) (disk : DiskState) (fs : Files) : Type 0 where
  pub newest : IsNewest which fs
  pub number : known ≡ newest_number which fs
  pub settled_a : (c : Files) → disk.leaves c → c.ck_a ≡ fs.ck_a
  pub settled_b : (c : Files) → disk.leaves c → c.ck_b ≡ fs.ck_b

-- the same, where the disk tells its files
abbrev pub IsReady : Store → DiskState → Type 0
IsReady store disk = WhereTold disk (Knows (newest_known store) (number_known store) disk)

-- While so many bytes stand in the taken file: the newest is known, with a number below the one begun, and nothing is
-- pending in the file that is left alone. A crash leaves the taken one with the first byte that it has, no letter.
pub record Fills (which : Newest) (known : Option ℕ) (begun count : ℕ) (disk : DiskState) (fs : Files) : Type 0 where
  pub newest : IsNewest which fs
  pub number : known ≡ newest_number which fs
  pub below : IsBelow known begun
  pub settled : (c : Files) → disk.leaves c → file_of (newer_of which) c ≡ file_of (newer_of which) fs
  pub front : (c : Files) → disk.leaves c → take 1 (file_of (older_of which) c) ≡ take 1 (file_of (older_of which) fs)
  pub no_letter : ¬ (take 1 (file_of (older_of which) fs) ≡ CHECKPOINT_LETTER ∷ [])
  pub long : count < length (file_of (older_of which) fs)

-- the same, where the disk tells its files
abbrev pub MayFill : Store → DiskState → Type 0
MayFill store disk = WhereTold disk (Fills (newest_known store) (number_known store) (number_begun store) (length_appended store) disk)

-- so many bytes behind the first of a file
abbrev pub behind_first : ℕ → List ℕ → List ℕ
behind_first count bytes = take count (drop 1 bytes)

-- what was appended
abbrev pub appended : Store → Files → List ℕ
appended store fs = behind_first (length_appended store) (file_of (older_of (newest_known store)) fs)

-- it is this, where the disk tells its files
abbrev pub HasAppended : Store → List ℕ → DiskState → Type 0
HasAppended store bytes disk = WhereTold disk (λ fs. appended store fs ≡ bytes)
