-- steps of rows, over plain variables
pub mod Stepped
