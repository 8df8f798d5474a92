-- What only private contracts cite.
-- what functions and labels are made of
pub mod Made
