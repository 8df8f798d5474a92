-- Ranges of the kinds, and the results of operators and conversions.
pub mod Integers
-- Sets of widths within others.
pub mod Widths
pub mod inside
