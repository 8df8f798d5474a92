-- how typing goes on until the first broken rule
pub mod Refusals
-- the types of a text while it is read
pub mod Shapes
-- what names and tags mean
pub mod Scopes
-- what an expression is found to be, and conversions
pub mod Operands
-- which expressions are constants
pub mod Constants
-- the typed forms
pub mod Operators
-- which tags the braces of a part complete
pub mod Braces
-- what bases and declarators declare
pub mod Declarations
-- names, calls and the library
pub mod Calls
-- expressions, type names and declarators
pub mod Expressions
-- initialisers
pub mod Initialisers
-- declarations and statements
pub mod Statements
-- the numbers of the types
pub mod Sealing
-- whole texts: where to start
pub mod Units
-- sources that are worked out
pub mod worked
