-- what stands at the head of a tree
pub mod Heads
-- trees in their parts
pub mod Parts
