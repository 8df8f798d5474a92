-- What only private contracts cite.
-- the number of an open file
pub mod Numbers
