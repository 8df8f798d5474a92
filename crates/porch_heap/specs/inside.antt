-- What only the contracts of the crate's own functions cite.
pub mod Searching
pub mod ChunkRow
pub mod TooLarge
pub mod Seats
pub mod Hints
