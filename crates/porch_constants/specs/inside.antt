-- operands of rows
pub mod Rows
-- the steps of operators
pub mod Steps
