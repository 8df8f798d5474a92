-- commands in the making, and the temporaries that are in use
pub mod Code
-- what is known of an expression before it becomes code
pub mod Values
-- the commands of operators, conversions and conditions
pub mod Operators
-- expressions and places
pub mod Expression
-- statements
pub mod Statement
-- functions, globals and the flat program
pub mod Lowering
-- programs that are worked out
pub mod worked
