-- Accepted files are fit, and their walk comes to the final figures.
pub mod Placed
pub mod Barred
pub mod Accepted
pub mod Ends
pub mod Orderly
pub mod Modes
pub mod ForOf
pub mod Sums
pub mod Final
pub mod Import
pub mod Root
