pub mod Lists
pub mod Ranks
pub mod Commits
pub mod Starts
pub mod Fronts
pub mod Numbers
pub mod Spared
