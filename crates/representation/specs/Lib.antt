-- How tables hold what 01's definitions speak of: the rows of a tree, the store, where the walk stands; and what a reader of the tables finds.
pub mod Gap
pub mod Store
pub mod Spots
pub mod Shown
pub mod Run
