-- the tree of a program as plain data
pub mod Tree
-- which tokens there are, and how a text spells them
pub mod Token
-- which texts are programs, and which tree each of them has
pub mod Language
-- what only private contracts cite
pub mod inside
