-- The walk on tables.
pub mod Visit
pub mod Over
pub mod Counted
pub mod Call
pub mod Plain
