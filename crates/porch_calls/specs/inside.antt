-- steps of calls of the library
pub mod Steps
-- how many arguments there are
pub mod Counts
-- functions of the program, as calls ask for them
pub mod Signatures
