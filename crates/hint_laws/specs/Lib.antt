-- The hints of declarations, in a source and in a lowered tree.
pub mod Hints
pub mod Balanced
