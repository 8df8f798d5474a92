-- what is left of a run, and that each run has an end
pub mod Left
