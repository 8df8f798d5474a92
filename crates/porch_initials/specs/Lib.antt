-- what the code's parts are in the definitions
pub mod Views
pub mod inside
