pub mod GlobalValues
