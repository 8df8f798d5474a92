mod Digits
mod Split
mod Steps
mod Named
mod Values
mod Ordered
mod Limited
