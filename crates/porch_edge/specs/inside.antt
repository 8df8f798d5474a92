-- What only private contracts cite.
-- what a disk in memory keeps of its calls
pub mod Kept
-- it is a fact
pub mod Props
-- and what it tells keeps the laws of a disk
pub mod MemoryLaws
-- what undoing the calls comes to
pub mod Undo
