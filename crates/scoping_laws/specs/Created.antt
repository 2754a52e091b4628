-- The scopes and symbols of a context are those of 01.
pub mod Held
pub mod Scopes
pub mod Loads
pub mod Try
pub mod Lists
pub mod Parts
pub mod Loops
