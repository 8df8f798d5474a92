-- where commands and labels stand in a function
pub mod Places
-- parts of a program that several crates speak of
pub mod Parts
-- which programs are valid
pub mod Valid
-- the places of labels, as they are kept
pub mod Labelled
-- the whole flat text: the forms of commands, the lines of a text, types, rules
pub mod whole
-- what only private contracts cite
pub mod inside
