-- lists of arguments, one at a time
pub mod Lists
-- what a line makes of a program
pub mod Steps
-- lines of a text
pub mod Lines
-- the parts of a line that is written
pub mod Written
-- what is written is read again
pub mod Decoded
-- what is written of a command is read again
pub mod Commands
-- the text of a program is that of its parts
pub mod Parts
-- how far a text was read
pub mod Reading
-- what is read has numbers that fit
pub mod Small
-- texts of lists with one more part
pub mod Pushed
-- a line that is taken makes a longer text
pub mod Sound
-- types are added one after another
pub mod TypesRun
-- the lines of a program are taken
pub mod Complete
-- what was read begins a program's text
pub mod Parsed
