-- the state that a checkpoint stands for
pub mod ImageState
-- a checkpoint and its state, worked out
pub mod Worked
