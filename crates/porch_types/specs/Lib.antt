-- Types as a list, and the leaves of each.
pub mod Leaves
-- The numbers of the kinds, and that of int.
pub mod Kinds
-- Rows and subobjects of a root, and the search for a row.
pub mod Rows
-- What the part is that holds a leaf.
pub mod Parts
-- The type of each leaf.
pub mod LeafTypes
-- What stays so in a longer list.
pub mod Longer
-- What a list of types refuses.
pub mod Adding
-- The types that entries hold, as which contracts see a list.
pub mod Entries
pub mod inside
