pub mod Twice
pub mod Refusals
pub mod Claims
pub mod ShutOut
