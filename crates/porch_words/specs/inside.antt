-- words as they are read, from left to right
pub mod Reading
-- one step of the code
pub mod Steps
