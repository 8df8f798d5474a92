-- lists
mod Lists
-- types go on
mod Shapes
-- how parts of a text follow one another
mod States
-- what a type of the text is at the end
mod Ends
-- values of forms, and what is assigned
mod Values
-- operators between two operands
mod Operators
-- forms of one operand, of places and of members
mod Nodes
-- choices, assignments and casts
mod Choices
-- names, literals, sizes and calls
mod Calls
-- calls of the program's functions, and formats
mod CallForms
-- calls of the library
mod Library
-- values of constants, and characters of literals
mod Constants
-- what stands round bases and declarators
mod Declared
-- expressions, type names and declarators
mod Expressions
-- the place in front of a text
mod Beginning
