-- the objects of a checkpoint, put into its data one after the other
pub mod Placing
-- the first faulty leaf of one object
pub mod Leaves
-- the test that is made of the eight bytes of a leaf
pub mod LeafTests
-- the runs of leaves of which a test is made
pub mod Runs
-- what is wrong with a checkpoint behind its front
pub mod Checked
-- where the SAVED of each call number stands
pub mod SavedPlaces
