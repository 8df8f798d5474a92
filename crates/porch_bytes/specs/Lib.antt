-- where globals, the stack, its frames and the heap lie
pub mod Memory
-- how a leaf's bytes are a number
pub mod Leaf
-- leaves by their size and sign
pub mod Shapes
-- which bytes may be read and written
pub mod Access
-- what runs, and what it begins with
pub mod State
-- what each command does to memory
pub mod Column
-- what a run is
pub mod ByteRun
-- what holds of a machine in itself
pub mod Fits
-- when memory stands for a state of the flat abstract machine
pub mod StandsFor
-- programs that are worked out
pub mod Worked
