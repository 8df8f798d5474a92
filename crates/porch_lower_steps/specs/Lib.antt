-- a step of a row
pub mod Steps
-- what only this crate's own functions say
pub mod inside
