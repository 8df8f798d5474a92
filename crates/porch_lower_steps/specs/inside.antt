-- temporaries that hold operands, by type
pub mod Raised
