-- What is claimed, and the last steps of its proofs.
pub mod Hinting
pub mod Calls
pub mod Desk
pub mod Depth
pub mod Letters
pub mod Import
pub mod Counts
pub mod Agreement
pub mod Twice
pub mod Order
pub mod OneWord
pub mod ShutOut
pub mod Claims
pub mod Refusals
