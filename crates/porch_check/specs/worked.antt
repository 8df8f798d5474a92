-- the words that sources are written in
pub mod Write
-- names: declared before they are used, and once in a scope
pub mod Names
-- declared types
pub mod Types
-- operands and operators
pub mod Operators
-- calls: functions, the library, allocations and literals
pub mod Calls
-- statements and initialisers
pub mod Statements
-- typed programs, whole
pub mod Programs
