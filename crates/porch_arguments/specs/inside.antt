-- values of arguments, one after another
pub mod Values
