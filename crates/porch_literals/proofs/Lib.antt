mod Spelled
mod Counted
