pub mod Visit
pub mod Leaving
