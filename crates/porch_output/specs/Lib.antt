-- Contents, in reading order.
-- what an output stands for on a disk, and what a crash leaves of its file
pub mod Outputs
-- what a buffer in front of a sink has passed on
pub mod Shows
-- facts on an output over calls on other files
pub mod Others
