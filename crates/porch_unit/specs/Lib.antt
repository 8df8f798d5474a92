-- the builder of statements and items
pub mod Units
