pub mod Slices
pub mod Cleaning
pub mod Alone
pub mod Places
pub mod Answering
pub mod Kept
