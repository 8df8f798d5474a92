-- The commands that a tree becomes, and how many temporaries they take.
pub mod Code
-- Which trees are lowered, what their flat program looks like, and that it means the same.
pub mod Lowered
pub mod inside
