-- the last numbers of types, by the first ones
pub mod Numbers
-- what only private contracts cite
pub mod inside
