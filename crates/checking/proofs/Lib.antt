-- Laws of the definitions, and what ties them to the reader.
pub mod Laws
pub mod Cap
pub mod Body
pub mod Leaf
pub mod Link
pub mod Counts
pub mod Mentions
pub mod Files
pub mod Figured
