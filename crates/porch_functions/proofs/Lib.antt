mod Sums
mod FirstParts
