mod Passed
mod Fitted
mod Reversed
