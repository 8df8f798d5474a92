-- the words that programs are written in here
pub mod Write
-- each operator
pub mod Operators
-- order of evaluation
pub mod Order
-- each undefined act
pub mod Acts
-- one past a row, over checkpoint()
pub mod Ends
-- pointers, rows and lists
pub mod Pointers
-- structs
pub mod Structs
-- calls
pub mod Calls
-- loops and switches
pub mod Statements
-- what is shown
pub mod Shown
-- where runs stop, and marks
pub mod Turns
-- a whole program
pub mod Whole
