-- What only the contracts of the crate's own functions cite.
pub mod Operand
pub mod Puts
