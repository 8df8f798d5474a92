-- when code does what the commands of a function do
pub mod Code
