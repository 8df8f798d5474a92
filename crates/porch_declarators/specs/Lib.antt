-- what the code's parts are in the definitions
pub mod Views
-- counts of arrays
pub mod Counts
