-- Scope and symbol rows in tables.
pub mod Rows
pub mod Search
pub mod Candidates
pub mod Changes
