-- A heap, its free bytes, its gaps, and what comes and goes.
pub mod Blocks
-- The first gap and the longest run of free bytes as functions.
pub mod Gaps
-- The blocks that a heap's chunks hold.
pub mod Chunks
pub mod inside
