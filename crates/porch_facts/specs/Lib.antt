-- which constants may stand as an operand
pub mod Accepts
-- what only private contracts cite
pub mod inside
