mod Lists
mod Firsts
mod Statements
mod Blocks
mod Runs
mod Items
