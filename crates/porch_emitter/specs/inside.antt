-- temporaries of types that have a place
pub mod Pools
