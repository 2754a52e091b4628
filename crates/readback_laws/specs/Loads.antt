-- The Loads written are those read and one for each context.
pub mod Contexts
pub mod Written
