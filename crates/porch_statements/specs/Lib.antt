-- what the code's frames and points are as plain data
pub mod Shown
-- what only private contracts cite
pub mod inside
