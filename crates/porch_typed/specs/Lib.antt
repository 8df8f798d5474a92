-- the typed tree as plain data
pub mod Mirror
-- what the code's tree is as plain data
pub mod Views
-- how many nodes it has
pub mod Size
-- which trees are typed
pub mod Typed
-- small functions
pub mod Worked
