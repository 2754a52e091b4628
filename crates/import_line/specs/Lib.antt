-- The import line on tables.
pub mod Import
