-- What only the contracts of the crate's own functions cite.
-- What a command does where all variables are ints, from their values.
pub mod Effects
-- How a run is kept, and which state it stands for.
pub mod Kept
