pub mod SoundHolding
pub mod CellsGrow
pub mod Linking
pub mod BodiesGrow
pub mod IntSources
pub mod BodyIs
pub mod LoadedIs
