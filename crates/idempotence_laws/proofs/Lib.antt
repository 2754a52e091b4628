-- Lowering a lowered file changes nothing.
pub mod Quiet
pub mod QuietHeads
pub mod Scopes
pub mod Again
