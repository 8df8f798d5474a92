-- commands and options, as they are spelled
pub mod Spelling
-- what options give, and what an order is
pub mod Orders
-- the words of the command line
pub mod Words
-- what only private contracts cite
pub mod inside
