pub mod Lines
pub mod Nearer
pub mod Ends
