-- a text without its comments and includes
pub mod Comments
-- which program a text is the source of, and what every other text is refused with
pub mod Sources
-- what only private contracts cite
pub mod inside
