-- what words are in a type
pub mod Signs
-- the builder of types and declarators
pub mod Types
-- the reader of expressions and types
pub mod Parts
-- what bases and expressions begin with
pub mod Starts
-- where expressions and types end that stand in a part of another kind
pub mod Ends
-- what the code's parts are as plain data
pub mod Shown
-- what only private contracts cite
pub mod inside
