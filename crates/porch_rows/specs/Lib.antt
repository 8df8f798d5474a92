-- the trees of sequences
pub mod Sequences
-- what only private contracts cite
pub mod inside
