pub mod TryParts
pub mod Figures
