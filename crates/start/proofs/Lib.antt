-- The turns of the loops, and that what the code answers is what 01 says.
pub mod Laws
pub mod Answer
