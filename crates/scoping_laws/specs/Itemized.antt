-- What a lowered Program makes of its items is 01's.
pub mod Rows
pub mod Visits
pub mod Names
pub mod Held
pub mod Classes
pub mod Declarations
pub mod Kinds
pub mod Split
