-- operands of rows
pub mod Rows
