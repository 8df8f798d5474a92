-- what operations do to memory, to the heap and to what is shown, and where they lead
pub mod Operations
-- when an operation does what a command of a function does
pub mod Resolved
