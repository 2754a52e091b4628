pub mod Declarations
pub mod Items
pub mod Program
