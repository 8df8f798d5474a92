-- what is said of each program
pub mod Agree
-- operators, conversions, choices and assignments
pub mod Values
-- pointers, arrays, structs and blocks
pub mod Places
-- loops, switches, calls and what is shown
pub mod Statements
