-- What a reader finds in the bytes of a file: fields, the tree, numbers, Loads, counts.
pub mod ReadBack
pub mod Decoded
pub mod Written
pub mod Loads
pub mod Counted
