-- What only private contracts cite.
-- what a fault of tokens is answered with
pub mod Faults
