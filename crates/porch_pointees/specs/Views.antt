-- What the code's types are in the definitions.
use Rattle.porch_check.specs.Sealing.{Sealed}
use Rattle.porch_pointees.specs.declared.pointers.SealedTypes as code

abbrev pub as_sealed : code.SealedTypes → Sealed
as_sealed x = record { types = x.types; pointers = x.pointers }
