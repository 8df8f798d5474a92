-- What only the contracts of the crate's own functions cite.
pub mod Rows
pub mod Numbers
pub mod Bindings
pub mod Completes
pub mod Stacked
pub mod Numbered
pub mod Again
