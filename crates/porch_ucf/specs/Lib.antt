-- numbers at a place of a text
pub mod Fields
-- the header of a checkpoint file
pub mod Headers
-- what a checkpoint holds
pub mod Images
-- the bytes of a checkpoint file
pub mod Files
-- what is wrong with a header
pub mod HeaderFlaws
-- what is wrong with a file before its rows are read
pub mod FrontFlaws
-- what a file holds, by place
pub mod Reading
-- the first number that fails a test
pub mod FirstFailing
-- what is wrong with the rows
pub mod RowFlaws
-- the objects whose values are the data, and where they stand in it
pub mod Objects
-- what is wrong with the data, leaf by leaf
pub mod DataFlaws
-- the first flaw of a file, and the checkpoints that have none
pub mod FirstFlaw
-- a file without a flaw is the file of what it holds
pub mod Laws
-- what only private contracts cite
pub mod inside
