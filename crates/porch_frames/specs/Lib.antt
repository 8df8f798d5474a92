-- how arguments go to the parameters of a new frame
pub mod Passing
