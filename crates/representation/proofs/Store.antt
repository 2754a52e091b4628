pub mod Cells
pub mod Scopes
pub mod Symbols
pub mod Searches
pub mod Agreed
pub mod Moved
