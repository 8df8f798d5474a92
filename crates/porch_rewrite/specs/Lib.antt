-- what rewriting makes of a program
pub mod Rewriting
-- what is promised of it
pub mod Laws
-- programs that are worked out
pub mod Worked
-- what only private contracts cite
pub mod inside
