-- Rows that carry the places of a rearrangement come to stand in it.
pub mod Numbers
pub mod Places
pub mod Merge
pub mod Place
