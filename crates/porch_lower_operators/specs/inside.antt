-- operands that are converted
pub mod Conversions
-- tests of values that are no int
pub mod Tests
