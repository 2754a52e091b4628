-- The scope and symbol rows of 01's store, held in tables.
pub mod Held
