pub mod Program
pub mod Entered
pub mod Written
pub mod Contexts
