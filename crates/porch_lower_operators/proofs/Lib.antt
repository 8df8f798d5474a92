-- code in the making, one step behind the other
pub mod Steps
