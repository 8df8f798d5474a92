-- what is known of the types and places of a program
pub mod Known
-- memory with the first values of globals
pub mod Values
