-- Contents, in reading order: the streams, the disk, the one in memory, and behind them what is proved over all disks.
-- why a call fails: the count of faults rose
pub mod Causes
-- what a call on a stream does to the bytes that a source has left and a sink holds
pub mod Streams
-- the streams in memory
pub mod MemoryStreams
-- the streams of the process
pub mod Standard
-- six files, and what a call does to the bytes of one
pub mod Files
-- the name of each in a folder
pub mod Names
-- which files of one are lost
pub mod Folder
-- what each call on a disk does, and what a crash may leave
pub mod Disk
-- which calls of a disk in memory fail
pub mod Plan
-- what a crash may leave after its calls
pub mod Calls
-- and what a stop leaves
pub mod Picks
-- what it tells
pub mod Memory
-- why it tells moments: a worked example
pub mod Moments
-- facts on the files where one of them got other bytes
pub mod OneFile
-- facts on what two calls tell
pub mod Told
-- facts on calls one after another, and on two runs of them
pub mod Runs
-- facts on calls that leave a file as it was
pub mod Others
-- what only private contracts cite
pub mod inside
