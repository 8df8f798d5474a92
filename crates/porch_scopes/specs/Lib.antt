-- what the code's tables are in the definitions
pub mod Views
-- types with few leaves
pub mod Sizes
-- scopes in scopes
pub mod Stack
-- what is known at a place of the text
pub mod Known
-- the numbers of functions that have a body
pub mod Bodies
-- what an answer says of the result that it should be
pub mod Answers
pub mod inside
