-- What only the contracts of the crate's own functions cite.
-- How a run is kept, and which state it stands for.
pub mod Kept
-- What a command leads to, before it is done.
pub mod Effects
-- Arguments, variables and frames of calls.
pub mod Calls
-- The labels of a program's functions, one by one.
pub mod Beginning
