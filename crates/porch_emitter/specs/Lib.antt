-- temporaries by type
pub mod Pools
-- where those of each type begin
pub mod Starts
-- code in the making
pub mod Made
-- what only this crate's own functions say
pub mod inside
