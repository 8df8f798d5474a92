-- what the code does with the levels of the parts
pub mod Takes
-- how far the code has read
pub mod Reads
