pub mod Opens
pub mod Downs
