-- what the code's directives are in the definitions
pub mod Directives
-- what only private contracts cite
pub mod inside
