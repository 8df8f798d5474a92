-- what the code's types are in the definitions
pub mod Views
-- what only private contracts cite
pub mod inside
