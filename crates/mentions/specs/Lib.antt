-- Counters of mentions, for any numbers in them, and what they come to behind the records of a tree.
pub mod Counters
pub mod Sums
