-- some small expressions
pub mod Worked
