-- the words that lines begin with
pub mod Words
-- the text of a flat program
pub mod Text
-- the arguments that code has in hand
pub mod Arguments
