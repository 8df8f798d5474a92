-- where globals, the stack, its frames and the heap lie
pub mod Room
-- how a leaf's bytes are a number
pub mod Leaf
-- what a command does to bytes
pub mod Column
-- what a run over bytes is
pub mod ByteRun
-- when bytes stand for a state
pub mod StandsFor
-- what contracts see of a machine, and what a step of it does
pub mod Steps
-- what a run has to do with what its program means
pub mod Laws
-- what only private contracts cite
pub mod inside
