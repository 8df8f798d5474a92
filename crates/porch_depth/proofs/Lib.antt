pub mod Takes
pub mod Readings
pub mod Sweeps
pub mod Faults
pub mod Before
pub mod Nesting
pub mod Rising
