-- the builder of declarations
pub mod Declarations
-- what the code's stages are as plain data
pub mod Shown
