-- `helper_load` on tables.
pub mod Load
