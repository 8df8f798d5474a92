-- What only the contracts of the crate's own functions cite.
pub mod Entries
pub mod Uses
pub mod Rows
pub mod Positions
pub mod Leaves
pub mod Edits
pub mod Places
pub mod Texts
