-- what names, values and roots mean
pub mod Views
-- what answers mean
pub mod Answers
-- the variables of the innermost call
pub mod Innermost
pub mod inside
