-- the first token that is shown to lie too deep, and the first fault
pub mod Levels
-- small texts, and texts with many parentheses
pub mod Worked
-- what an answer says of a text
pub mod Told
-- what the code answers
pub mod Faults
-- what the code does
pub mod inside
