pub mod Resolving
pub mod Signs
pub mod FineFits
pub mod Convex
