-- when a machine stands for a state, and what a step of both comes to
pub mod Follows
-- where the objects of a state lie in memory
pub mod Placed
-- what is written to a leaf is read there, and nowhere else
pub mod Leaves
pub mod inside
