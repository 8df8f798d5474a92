-- what is true of leaves, and of memory
pub mod Measured
