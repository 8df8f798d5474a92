-- the store of a flat run beside that of the source
pub mod Beside
-- what is done through pointers is the same in both
pub mod Laws
