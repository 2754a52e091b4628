-- `enter_for_of_statement` on tables.
pub mod ForOf
