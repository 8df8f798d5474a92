-- the runs that words order
pub mod Words
-- which layout a name stands for
pub mod Layouts
-- the closing line of each answer
pub mod Lines
-- why the top call gives each answer
pub mod Answers
-- what only private contracts cite
pub mod inside
