-- runs that are ordered
pub mod Ordered
-- what the search for a layout answers
pub mod Naming
-- how the run of a flat program goes on
pub mod Running
-- what the parts of the top call do
pub mod Parts
