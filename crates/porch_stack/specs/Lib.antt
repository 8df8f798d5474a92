-- what a step answers
pub mod Answers
-- what state a spot stands for, and what holds of it
pub mod Holding
-- the operation that comes next
pub mod Next
-- when it may be done
pub mod Doing
