-- What the code of this crate computes.
pub mod Tally
pub mod Figures
