-- The rewrite of a Program on tables is that of 01.
pub mod Mix
pub mod Arrange
pub mod Plan
pub mod Rewrite
pub mod Program
