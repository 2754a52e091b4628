pub mod Frame
pub mod Cases
pub mod Switch
pub mod For
pub mod Sides
pub mod ForOf
pub mod Parts
pub mod Lists

-- What the rewrites of contexts do to the rows of a tree.
