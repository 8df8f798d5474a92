-- where the live objects are, in memory and in the data of a checkpoint
pub mod Plans
-- the words of addresses, and the addresses of words
pub mod Words
-- the words that a checkpoint may have, by its data alone
pub mod Displacements
-- objects on which an example is worked out
pub mod Worked
