-- how words are spelled, and which word each operator is
pub mod Words
-- the tree as plain data
pub mod Mirror
-- what the code's tree is as plain data
pub mod Views
-- what a tree is as tokens
pub mod Pieces
-- which trees the grammar has
pub mod Formed
-- where typedef names are types
pub mod Names
-- which tokens are a unit, and which is the first wrong one
pub mod Grammar
-- some small units
pub mod Worked
