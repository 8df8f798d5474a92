-- What only the contracts of the crate's own functions cite.
-- a keyword by its first letter
pub mod Keywords
-- a mark by its first byte
pub mod Marks
