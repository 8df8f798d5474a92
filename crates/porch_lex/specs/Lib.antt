-- the classes of bytes
pub mod Characters
-- integer constants
pub mod Constants
-- character constants and string literals
pub mod Literals
-- comments and includes
pub mod Gaps
-- what stands at the front of a text
pub mod Lexemes
-- which tokens a text has, and which rule it breaks first
pub mod Tokens
-- which words its tokens are to the grammar
pub mod Words
-- what the bytes of a token are
pub mod Spelling
-- the values of constants and characters
pub mod Values
-- what only private contracts cite
pub mod inside
