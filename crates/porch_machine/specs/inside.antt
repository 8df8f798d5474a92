-- commands of main with the places of their labels, and what they do to its ints
pub mod Resolved
-- which commands have such a form
pub mod Resolving
