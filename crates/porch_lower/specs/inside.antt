-- What only the contracts of the crate's own functions and its proofs cite.
-- The flat program of a tree.
pub mod Programs
-- A row of factors or terms behind its left operand.
pub mod Rows
