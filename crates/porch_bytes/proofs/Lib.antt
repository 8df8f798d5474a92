pub mod OneRun
pub mod Parts
pub mod Conjunctions
pub mod ReadBack
