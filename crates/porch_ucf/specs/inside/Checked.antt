-- What is wrong with a checkpoint behind its front.
use Rattle.std.specs.Prelude.{◌≡◌, ℕ, Option, Some, None}
use Rattle.porch_flat.specs.declared.whole.Flat.{Flat}
use Rattle.porch_ucf.specs.declared.fault.ImageFault.{ImageFault}
use Rattle.porch_ucf.specs.declared.fault.ImageFault.TheVariants.{NoMemory}
use Rattle.porch_ucf.specs.declared.leaves.Sought.TheVariants.{Words, Values}
use Rattle.porch_ucf.specs.DataFlaws.{IsFirstFaulty}
use Rattle.porch_ucf.specs.FirstFlaw.{Fits, HasWords, body_flaw, roots_of}
use Rattle.porch_ucf.specs.Images.{Checkpoint}
use Rattle.porch_ucf.specs.Objects.{objects_of, size_flaw}

-- why a checkpoint isn't taken: its first flaw, or want of memory
pub data IsFlaw (long : ℕ) (program : Flat) (c : Checkpoint) (fault : ImageFault) : Type 0 where
  memory : fault ≡ NoMemory → IsFlaw long program c fault
  in_body : body_flaw program c ≡ Some fault → IsFlaw long program c fault
  in_words : body_flaw program c ≡ None
      → IsFirstFaulty Words program.types (roots_of program c) c fault
      → IsFlaw long program c fault
  in_values : body_flaw program c ≡ None → HasWords program c
      → IsFirstFaulty (Values long) program.types (roots_of program c) c fault
      → IsFlaw long program c fault

-- a checkpoint without a flaw
pub record IsSound (long : ℕ) (program : Flat) (c : Checkpoint) : Type 0 where
  pub body : body_flaw program c ≡ None
  pub words : HasWords program c
  pub values : Fits long program c

abbrev pub data_size_flaw : Flat → Checkpoint → Option ImageFault
data_size_flaw program c = size_flaw program.types (objects_of program c.frames c.blocks) c.bytes

-- what is wrong with the data alone
pub data IsDataFlaw (long : ℕ) (program : Flat) (c : Checkpoint) (fault : ImageFault) : Type 0 where
  data_memory : fault ≡ NoMemory → IsDataFlaw long program c fault
  in_size : data_size_flaw program c ≡ Some fault → IsDataFlaw long program c fault
  in_data_words : data_size_flaw program c ≡ None
      → IsFirstFaulty Words program.types (roots_of program c) c fault
      → IsDataFlaw long program c fault
  in_data_values : data_size_flaw program c ≡ None → HasWords program c
      → IsFirstFaulty (Values long) program.types (roots_of program c) c fault
      → IsDataFlaw long program c fault

pub record IsDataSound (long : ℕ) (program : Flat) (c : Checkpoint) : Type 0 where
  pub size : data_size_flaw program c ≡ None
  pub words : HasWords program c
  pub values : Fits long program c
