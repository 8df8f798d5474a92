pub mod Lengths
pub mod Hexadecimal
pub mod SameSteps
