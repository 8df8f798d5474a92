-- what words are in an expression
pub mod Parts
-- the builder
pub mod Building
-- what the code's frames are as plain data
pub mod Shown
