-- what only this crate's own functions say
pub mod inside
