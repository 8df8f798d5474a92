-- what one command of the whole flat text does to a state
pub mod Machine
-- runs, counted in steps, and what a program means
pub mod Run
-- programs that are worked out
pub mod Worked
