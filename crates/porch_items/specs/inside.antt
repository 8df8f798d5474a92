-- What only private contracts cite.
-- how far a text has been read
pub mod Reading
