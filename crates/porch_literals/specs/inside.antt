-- characters of literals
pub mod Characters
-- how many arguments a format takes
pub mod Counts
