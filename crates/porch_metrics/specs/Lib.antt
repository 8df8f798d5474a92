-- sizes and alignments of types
pub mod Extents
-- where the leaves of a type begin
pub mod Places
-- how large types are, and how far their leaves lie
pub mod Bounds
-- where rows and subobjects begin, and how their leaves lie in them
pub mod PlacedRows
-- leaves and subobjects lie apart
pub mod Apart
-- a type's extent comes from those of its parts, and stays in longer lists
pub mod AddingUp
-- what only private contracts cite
pub mod inside
