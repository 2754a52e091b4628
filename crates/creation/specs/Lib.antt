-- The scopes and symbols that a context makes.
pub mod Scopes
pub mod Creation
pub mod Kinds
