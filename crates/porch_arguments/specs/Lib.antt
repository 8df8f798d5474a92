-- what the code's arguments are in the definitions
pub mod Views
-- which forms are literals
pub mod Literals
-- what only private contracts cite
pub mod inside
