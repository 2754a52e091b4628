-- Leaving a StaticBlock on tables is that of 01.
pub mod Standing
pub mod Block
