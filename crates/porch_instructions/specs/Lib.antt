-- what the resolved commands do to memory
pub mod Instructions
-- when an instruction is what a command of a function does
pub mod Resolved
-- what cells and sources are in each frame of a function
pub mod Variables
