-- The first flaw of a checkpoint file, and the checkpoints that have none.
use Rattle.std.specs.Prelude.{◌≡◌, ℕ, List, [], ◌∷◌, length, Option, Some, None}
use Rattle.sha2.specs.Sha256.{sha256}
use Rattle.porch_find.specs.declared.roots.Root.{Root}
use Rattle.porch_flat.specs.declared.whole.Flat.{Flat}
use Rattle.porch_flat_line.specs.Text.{Text}
use Rattle.porch_ucf.specs.declared.fault.ImageFault.{ImageFault}
use Rattle.porch_ucf.specs.declared.leaves.Sought.TheVariants.{Words, Values}
use Rattle.porch_ucf.specs.DataFlaws.{IsFaultless, IsFirstFaulty}
use Rattle.porch_ucf.specs.FrontFlaws.{front_flaw}
use Rattle.porch_ucf.specs.HeaderFlaws.{counts_flaw, first_of}
use Rattle.porch_ucf.specs.Images.{Checkpoint}
use Rattle.porch_ucf.specs.Objects.{objects_of, placed, size_flaw}
use Rattle.porch_ucf.specs.Reading.{image_of}
use Rattle.porch_ucf.specs.RowFlaws.{frame_flaw, block_flaw}

-- the objects of a checkpoint where they stand in its data
abbrev pub roots_of : Flat → Checkpoint → List Root
roots_of program c = (placed program.types (objects_of program c.frames c.blocks)).roots

-- the first flaw of the rows and of the size of the data
abbrev pub body_flaw : Flat → Checkpoint → Option ImageFault
body_flaw program c =
    first_of
    (frame_flaw program c.frames
    ∷ block_flaw program.types (length c.frames) c.blocks
    ∷ size_flaw program.types (objects_of program c.frames c.blocks) c.bytes ∷ [])

-- each pointer's word names something
abbrev pub HasWords : Flat → Checkpoint → Type 0
HasWords program c = IsFaultless Words program.types (roots_of program c) c

-- each long value has room where a long has so many bytes
abbrev pub Fits : (long : ℕ) → Flat → Checkpoint → Type 0
Fits long program c = IsFaultless (Values long) program.types (roots_of program c) c

-- the first flaw of a file, in a program whose text has this digest, where a long has so many bytes:
-- first the front, then rows and size, then all words, and long values last
pub data IsFirstFlaw (long : ℕ) (program : Flat) (digest text : List ℕ) (fault : ImageFault)
    : Type 0 where
  of_front : front_flaw digest text ≡ Some fault → IsFirstFlaw long program digest text fault
  of_body : front_flaw digest text ≡ None → body_flaw program (image_of text) ≡ Some fault
      → IsFirstFlaw long program digest text fault
  of_words : front_flaw digest text ≡ None → body_flaw program (image_of text) ≡ None
      → IsFirstFaulty Words program.types (roots_of program (image_of text)) (image_of text) fault
      → IsFirstFlaw long program digest text fault
  of_values : front_flaw digest text ≡ None → body_flaw program (image_of text) ≡ None
      → HasWords program (image_of text)
      → IsFirstFaulty (Values long) program.types (roots_of program (image_of text))
      (image_of text) fault
      → IsFirstFlaw long program digest text fault

-- a checkpoint of a program that can be gone on from
pub record IsGood (program : Flat) (c : Checkpoint) : Type 0 where
  pub of_program : c.header.program ≡ sha256 (Text program)
  pub counts : counts_flaw c.header ≡ None
  pub body : body_flaw program c ≡ None
  pub words : HasWords program c

-- a file without a flaw
pub record IsFlawless (long : ℕ) (program : Flat) (digest text : List ℕ) : Type 0 where
  pub front : front_flaw digest text ≡ None
  pub body : body_flaw program (image_of text) ≡ None
  pub words : HasWords program (image_of text)
  pub values : Fits long program (image_of text)
