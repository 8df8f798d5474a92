-- what the code's operands are in the definitions
pub mod Views
-- how answers are said
pub mod Answers
-- what nodes are made of
pub mod Nodes
