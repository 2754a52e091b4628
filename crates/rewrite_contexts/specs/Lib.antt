-- The statements and bodies that get a context, on tables.
pub mod Lists
pub mod Tries
