-- The objects of a checkpoint, put into its data one after the other.
use Rattle.std.specs.Prelude.{◌≡◌, ℕ, ◌<◌, ◌⊎◌}
use Rattle.porch_ucf.specs.declared.fault.Reason.TheVariants.{Size}
use Rattle.porch_ucf.specs.declared.fault.ImageFault.{ImageFault}
use Rattle.porch_ucf.specs.declared.fault.ImageFault.TheVariants.{Damaged, NoMemory}
use Rattle.porch_ucf.specs.declared.header.TheConstants.{BODY_AT}

-- why an object isn't put: it would end past the data, or there is no memory
abbrev pub IsFull : (most end : ℕ) → ImageFault → Type 0
IsFull most end fault = (fault ≡ NoMemory) ⊎ ((fault ≡ Damaged BODY_AT Size) × (most < end))
