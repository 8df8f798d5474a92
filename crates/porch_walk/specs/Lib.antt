-- a walk along tokens with what may still be to come
pub mod Walk
-- what the code answers
pub mod Wrongs
-- small texts
pub mod Worked
-- how far a text is read
pub mod Reach
-- where the code stands in a walk, and a walk that its caller leads
pub mod Walks
-- what a part of the walk does with a word to the uses of the grammar that are counted
pub mod Plans
-- in how many of these uses each token is shown to lie
pub mod Levels
-- a unit that has just what is shown
pub mod Had
-- what single steps of the code do
pub mod inside
