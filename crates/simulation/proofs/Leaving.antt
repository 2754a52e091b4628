pub mod Leaving
pub mod Block
