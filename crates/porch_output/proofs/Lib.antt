pub mod Begins
pub mod Keeps
pub mod Passes
