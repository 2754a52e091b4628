-- What streaming through the gap does to the rows of a tree.
pub mod Cells
