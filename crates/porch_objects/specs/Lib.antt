-- objects, their values, and what lives
pub mod Store
-- what is said of a run
pub mod Meaning
-- what is done through pointers
pub mod Pointers
-- laws of these words
pub mod Laws
-- cases of them that are worked out
pub mod Worked
