pub mod Keeping
pub mod Doing
pub mod Running
pub mod Parts
pub mod Loading
pub mod DirectCodes
pub mod Going
