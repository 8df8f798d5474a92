-- The state of the flat abstract machine, and what a command does to it.
pub mod Machine
-- Runs, counted in steps, and what a program means; the laws of runs.
pub mod Run
-- What contracts see of an abstract machine, and what a step of it answers.
pub mod Held
-- the same for all commands of the flat text; no program runs these yet
pub mod whole
pub mod inside
