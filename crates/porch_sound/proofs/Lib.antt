-- what the laws of types say of one list
mod Lawful
-- typed objects: a leaf that is written, objects in lists, new objects
mod Objects
-- what is found in a typed store and read of it
mod Found
-- what agrees with a store typing agrees with a later one
mod Later
-- pointers that are stepped, and the elements between two
mod Steps
-- what changes a store
mod Changes
