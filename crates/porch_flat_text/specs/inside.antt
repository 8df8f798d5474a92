pub mod FoundWords
pub mod Numbers
pub mod Cuts
pub mod Commands
pub mod Drafts
pub mod Texts
pub mod Reads
pub mod Good
