pub mod Logs
pub mod Index
pub mod Steps
pub mod MemorySteps
pub mod Logged
pub mod Painted
pub mod Picks
pub mod Growth
mod StaysLost
