-- The items of a Program that is lowered, on tables.
pub mod Kinds
pub mod Names
pub mod Items
