mod Counts
mod Together
mod Rows
