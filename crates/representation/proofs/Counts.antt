-- The counts of symbols, held in tables.
pub mod Rows
pub mod Heads
pub mod Held
