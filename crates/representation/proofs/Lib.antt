-- How tables hold what 01's definitions speak of: the rows of a tree, the store, where the walk stands; and what a reader of the tables finds.
pub mod Gap
-- the records in a file's bytes as rows
pub mod Run
pub mod Store
pub mod Spots
pub mod Shown
pub mod Counts
