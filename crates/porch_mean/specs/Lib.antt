-- how evaluations come out, and how they follow one another
pub mod Outcome
-- what operators do with values
pub mod Operators
-- what is shown
pub mod Printing
-- what objects begin with
pub mod Initial
-- what expressions and places evaluate to
pub mod Expression
-- what statements do
pub mod Statement
-- calls, and what a program means
pub mod Mean
-- laws of every run
pub mod Laws
-- programs that are worked out
pub mod worked
