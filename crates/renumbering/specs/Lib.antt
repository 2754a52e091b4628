-- New numbers for scopes, for any numbers in the tables, and that they are those of the definition.
pub mod Numbers
pub mod Laws
