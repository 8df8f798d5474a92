-- which forms are places
pub mod Forms
-- values that are read of objects
pub mod Readings
-- what only private contracts cite
pub mod inside
