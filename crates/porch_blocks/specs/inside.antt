-- What only private contracts cite.
-- how one frame ends
pub mod Ended
