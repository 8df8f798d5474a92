-- which limits are allowed
pub mod Limits
