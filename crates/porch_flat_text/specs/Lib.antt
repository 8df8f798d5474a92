-- which programs a text can say
pub mod Fitting
-- the first line that is wrong
pub mod FirstWrong
-- what reading answers
pub mod Parsing
-- what only private contracts cite
pub mod inside
