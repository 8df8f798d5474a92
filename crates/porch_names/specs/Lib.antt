-- what the code's names and parameters are in the definitions
pub mod Views
