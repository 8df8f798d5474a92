-- Contents, in reading order.
-- when a checkpoint file is open, its number, and which of two is the newest
pub mod Checkpoints
-- which file a commit takes, and what a crash leaves meanwhile
pub mod Taken
-- what a store knows of a disk
pub mod Stores
-- what only private contracts cite
pub mod inside
