-- `&`, `++` and `--` of places
pub mod Places
-- the steps of an assignment with an operator
pub mod Assignments
