-- what a byte of an object names
pub mod Spots
-- lists of objects, and which of them begins last at or before a place
pub mod Roots
-- a list of types on which examples are worked out
pub mod Worked
-- what only private contracts cite
pub mod inside
