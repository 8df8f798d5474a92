-- the meaning of a tree
pub mod Mean
-- programs that are worked out
pub mod Worked
