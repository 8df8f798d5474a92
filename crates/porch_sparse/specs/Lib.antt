-- a pattern over and over
pub mod Repeated
pub mod inside
