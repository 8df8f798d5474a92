-- what contracts see of a machine
pub mod Standing
-- a run of steps in one call
pub mod Running
-- when its parts are whole
pub mod inside
