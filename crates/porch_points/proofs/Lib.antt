pub mod Naming
pub mod Wording
pub mod Addressing
pub mod Displacing
