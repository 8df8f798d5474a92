pub mod Changes
pub mod Allocations
