-- what is kept of each type, and that it is right
pub mod Tables
