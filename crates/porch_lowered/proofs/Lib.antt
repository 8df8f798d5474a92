-- what is read of a store
pub mod ReadAlike
-- what changes it
pub mod ChangeAlike
-- nothing points to a temporary
pub mod Grounded
-- what a store typing says of names and values
pub mod Typed
-- runs from a state
pub mod Runs
-- how a flat run follows an evaluation
pub mod Follows
-- temporaries, read and written
pub mod Temporaries
-- states beside those of the source, and single commands
pub mod States
-- code takes the temporaries that were in use
pub mod Growing
-- what it means that code follows an evaluation
pub mod Codes
-- values that are held in temporaries
pub mod Holding
-- a leaf that is written with the value that it has
pub mod SameLeaf
-- operands: temporaries, variables of the source, constants
pub mod Operands
-- integers that need no conversion, and conversions that meet no act
pub mod Numbers
-- operands that are used and converted, and what is made of them
pub mod Conversions
-- jumps, turns and checkpoints
pub mod Control
-- conditions
pub mod Branches
-- one command that makes a value, and conversions
pub mod Commands
-- the code of an operator on two integers
pub mod Operate
-- arithmetic and shifts
pub mod Integers
-- comparisons of integers
pub mod Comparisons
-- the code of operators on integers
pub mod OperatorCode
-- values that are held, and what follows
pub mod Held
-- single forms
pub mod Forms
-- what is alive where an object is changed
pub mod Alive
-- operators use both operands
pub mod Strict
-- values as the store typing grows
pub mod Later
-- forms with one operand
pub mod OneOperand
-- pointers to variables and globals
pub mod Places
-- pointers that are stepped, and the elements between two
pub mod Pointers
-- the code of operators that step a pointer
pub mod PointerCode
-- comparisons of pointers
pub mod PointerComparisons
-- any operator on two operands
pub mod Applied
-- the types that lowering takes expressions to have
pub mod Types
-- what the induction over expressions says
pub mod Lowered
-- rows of operators
pub mod Rows
-- operands that are tested
pub mod Conditions
-- expressions that are tested
pub mod Tests
-- `&&` and `||`
pub mod Logic
-- forms with one operand, as the induction has them
pub mod Forming
-- `!`
pub mod Negations
-- `?:`
pub mod Choices
-- values that are dropped, and commas
pub mod Commas
-- expressions that are operands where they stand
pub mod Atoms
-- values that are there
pub mod Present
-- variables of the source that are read
pub mod Variables
-- places, as the induction has them
pub mod Located
-- the cases of the induction that make a value of others
pub mod Cases
-- what is read, and conversions
pub mod Converted
-- the cases of the induction that make a value of a place
pub mod PlaceCases
-- further cases
pub mod MoreCases
-- assignments, as the induction has them
pub mod Assigned
-- assignments through pointers, to globals and to members
pub mod Assigning
-- what is read and assigned there, as cases of the induction
pub mod Pointed
-- structs that are assigned
pub mod Structs
-- members of a struct that is no place, as cases of the induction
pub mod MemberCases
-- `free` and `checkpoint()`
pub mod Blocks
-- what is stored
pub mod Stores
-- variables that are assigned to
pub mod Assignments
-- `+`, `-` and `~` of an operand
pub mod Unary
-- structs that are copied
pub mod Copies
-- what has no value: checkpoints, and declarations that are reached
pub mod Valueless
-- constants
pub mod Constants
-- allocations
pub mod Allocated
-- an expression whose cases fit together
pub mod Composed
