-- Each visit adds what its lines charge.
pub mod Names
pub mod Rows
pub mod Loading
pub mod Taken
pub mod Trees
pub mod Charged
pub mod Made
pub mod Contexts
pub mod Parts
pub mod ForOf
pub mod Items
pub mod Program
pub mod Enter
pub mod Chosen
