-- A file without a flaw is the file of what it holds, and the file of a good checkpoint has none.
use Rattle.std.specs.Prelude.{◌≡◌, ◌⊎◌, ℕ, ◌+◌, ◌^◌, ◌<◌, ◌≤◌, ◌++◌, List, length, take, get_or, All, None, Result, Ok, Err}
use Rattle.sha2.specs.Sha256.{sha256}
use Rattle.porch_flat.specs.declared.whole.Flat.{Flat}
use Rattle.porch_flat_line.specs.Text.{Text}
use Rattle.porch_ucf.specs.declared.fault.ImageFault.{ImageFault}
use Rattle.porch_ucf.specs.declared.fault.ImageFault.TheVariants.{NoMemory}
use Rattle.porch_ucf.specs.declared.image.FrameRow.{FrameRow}
use Rattle.porch_ucf.specs.declared.image.BlockRow.{BlockRow}
use Rattle.porch_ucf.specs.declared.write.TheConstants.{SEAL_BYTES}
use Rattle.porch_ucf.specs.Files.{file_of}
use Rattle.porch_ucf.specs.FirstFlaw.{Fits, IsFirstFlaw, IsFlawless, IsGood}
use Rattle.porch_ucf.specs.FrontFlaws.{front_flaw}
use Rattle.porch_ucf.specs.Headers.{header_of, gate_and_name}
use Rattle.porch_ucf.specs.Images.{Checkpoint, IsImage}
use Rattle.porch_ucf.specs.Reading.{image_of}

-- a text is a list of bytes
abbrev pub AreBytes : List ℕ → Type 0
AreBytes text = (i : ℕ) → get_or text i 0 < 256

-- the text of a file whose gate is open
pub record IsOpen (text : List ℕ) : Type 0 where
  pub bytes : AreBytes text
  pub gate : take 1 text ≡ take 1 gate_and_name

-- an open file whose front has no flaw begins with the file of what it holds
abbrev pub FilesAreSpelled : Type 0
FilesAreSpelled =
    (digest text : List ℕ) → AreBytes text → SEAL_BYTES ≤ length text
    → take 1 text ≡ take 1 gate_and_name → front_flaw digest text ≡ None
    → file_of (image_of text) ≡ take (SEAL_BYTES + (header_of text).body) text

-- a file without a flaw, in the program whose text has the digest, holds a checkpoint of it that is good
abbrev pub FlawlessFilesAreGood : Type 0
FlawlessFilesAreGood =
    (long : ℕ) (program : Flat) (text : List ℕ)
    → IsFlawless long program (sha256 (Text program)) text → IsGood program (image_of text)

-- a checkpoint that the program can be gone on from under a layout whose long has so many bytes
pub record IsResumable (long : ℕ) (program : Flat) (c : Checkpoint) : Type 0 where
  pub is_good : IsGood program c
  pub fits : Fits long program c

-- a row's two numbers of 32 bits
abbrev pub FrameFits : FrameRow → Type 0
FrameFits f = (f.function < 2 ^ 32) × (f.call < 2 ^ 32)

abbrev pub BlockFits : BlockRow → Type 0
BlockFits b = (b.ty < 2 ^ 32) × (b.count < 2 ^ 32)

-- the numbers of a checkpoint fit the fields that they are written in
pub record FitsFields (c : Checkpoint) : Type 0 where
  pub number : c.header.number < 2 ^ 64
  pub turns : c.header.turns < 2 ^ 64
  pub output : c.header.output < 2 ^ 64
  pub frames : c.header.frames < 2 ^ 32
  pub blocks : c.header.blocks < 2 ^ 32
  pub body : c.header.body < 2 ^ 64
  pub program : length c.header.program ≡ 32
  pub frame_rows : All FrameFits c.frames
  pub block_rows : All BlockFits c.blocks

-- a checkpoint that the program can be gone on from, where a long has so many bytes
pub record IsReadable (long : ℕ) (program : Flat) (c : Checkpoint) : Type 0 where
  pub is_image : IsImage c
  pub fits_fields : FitsFields c
  pub is_good : IsGood program c
  pub fits : Fits long program c

-- the file of such a checkpoint, whatever follows it, holds that checkpoint and has no flaw
pub record IsReadBack (long : ℕ) (program : Flat) (c : Checkpoint) (text : List ℕ) : Type 0 where
  pub same : image_of text ≡ c
  pub flawless : IsFlawless long program (sha256 (Text program)) text

abbrev pub FilesAreReadBack : Type 0
FilesAreReadBack =
    (long : ℕ) (program : Flat) (c : Checkpoint) (rest : List ℕ)
    → IsReadable long program c → IsReadBack long program c (file_of c ++ rest)

-- reading a file answers this checkpoint, or that there is no memory
abbrev pub IsReadTo : Checkpoint → Result Checkpoint ImageFault → Type 0
IsReadTo c result = (result ≡ Err NoMemory) ⊎ (result ≡ Ok c)

-- a file without a flaw has no first flaw, and none has two
abbrev pub FlawlessFilesHaveNoFlaw : Type 0
FlawlessFilesHaveNoFlaw =
    (long : ℕ) (program : Flat) (digest text : List ℕ) (fault : ImageFault)
    → IsFlawless long program digest text → IsFirstFlaw long program digest text fault → ⊥

abbrev pub FirstFlawsAreOne : Type 0
FirstFlawsAreOne =
    (long : ℕ) (program : Flat) (digest text : List ℕ) (a b : ImageFault)
    → IsFirstFlaw long program digest text a → IsFirstFlaw long program digest text b → a ≡ b
