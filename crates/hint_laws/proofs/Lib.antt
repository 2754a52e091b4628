pub mod Outline
pub mod Requested
pub mod Balanced
pub mod Lowered
