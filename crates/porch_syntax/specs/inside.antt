-- the lexemes and tokens of a text, as the code reads them
pub mod Lexing
-- how the tokens of an expression are read
pub mod Reading
-- how those of statements and declarations are
pub mod Program
-- the program that a text is read as
pub mod Source
