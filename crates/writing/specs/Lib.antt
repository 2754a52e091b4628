-- The bytes that are written from the tables, and the laws of storing them.
pub mod Writing
pub mod Stored
