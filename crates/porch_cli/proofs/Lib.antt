pub mod Reasons
pub mod Taken
pub mod OneRun
pub mod Budget
pub mod Runs
pub mod Looks
pub mod Fronts
