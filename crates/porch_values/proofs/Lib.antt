pub mod Bounds
pub mod Valid
pub mod FewerWidths
pub mod SameValue
