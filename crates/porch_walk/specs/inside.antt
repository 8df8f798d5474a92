-- what single steps of the code do
pub mod Steps
-- what the code keeps of where a walk stands
pub mod Stages
