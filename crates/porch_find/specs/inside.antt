-- the two forms in which an object lies in bytes
pub mod Forms
-- what is true of the places of a list of types
pub mod Measured
