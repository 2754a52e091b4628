-- The rewrites on tables are those of 01.
pub mod Standing
pub mod Replaced
pub mod Contexts
pub mod Lists
pub mod Loops
pub mod Sides
pub mod ForOf
pub mod Kept
