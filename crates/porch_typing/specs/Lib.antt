-- types while a text is read: what a state of them is, and how it goes on
pub mod Shapes
-- names and tags while a text is read
pub mod States
-- the program that a text comes to
pub mod Ends
-- what expressions are found to be has its type there
pub mod Forms
-- which constants and literals a tree has
pub mod Spelled
-- the laws
pub mod Laws
