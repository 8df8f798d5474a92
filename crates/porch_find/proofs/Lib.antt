pub mod Rising
pub mod Elements
pub mod Spotting
pub mod LastRoot
pub mod WorkedTypes
pub mod Arrays
