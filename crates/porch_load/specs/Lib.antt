-- when an operation may be done in each frame of a function
pub mod Sound
-- what the code of one function has to do with its commands
pub mod Bodies
-- what the calls of a function pass
pub mod Calls
-- a program that is loaded
pub mod Loaded
