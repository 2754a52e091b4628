pub mod Scopes
pub mod Settle
pub mod Lengths
pub mod Enter
