-- where expressions stand
pub mod Contexts
