pub mod Bytes
pub mod Moments
