-- what holds of the types when a text has ended
pub mod Lasts
-- what follows for the program
pub mod Laws
