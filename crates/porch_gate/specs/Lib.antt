-- Contents.
-- when a file is open, and what the calls on its gate make of its bytes
pub mod Gates
