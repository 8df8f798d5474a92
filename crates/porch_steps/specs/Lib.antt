-- what contracts see of an abstract machine, and what it is fit for
pub mod Held
-- what a call that takes many steps answers
pub mod Ran
pub mod inside
