-- what a command is, whatever its name
pub mod Form
-- the forms that code has in hand
pub mod Views
-- what stands in each line of a text
pub mod Lines
-- types of variables, leaves and operands' places
pub mod Places
-- how frames are saved and rebuilt
pub mod Rewritten
-- which functions reach a checkpoint
pub mod Calls
-- which data a text can say
pub mod Flats
-- the rules
pub mod Rules
-- the first rule that is broken
pub mod Search
-- programs, and what the rules say of them
pub mod Worked
