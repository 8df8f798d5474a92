-- which layouts may be used, and the six that have names
pub mod Layouts
-- the words for keys and rules
pub mod Words
-- what a layouts file says of a name
pub mod Files
-- when each rule of layouts files is broken
pub mod Rules
