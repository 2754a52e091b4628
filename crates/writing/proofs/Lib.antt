-- The turns of the loops, and numbers that are stored over one another.
pub mod Laws
pub mod Over
