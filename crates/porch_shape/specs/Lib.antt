-- what the code's types are in the definitions
pub mod Views
