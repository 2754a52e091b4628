-- `enter_program` on tables.
pub mod Plan
pub mod Placing
pub mod Arrange
pub mod Program
