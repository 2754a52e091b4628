-- The For, with its Labels, and the Switch, on tables.
pub mod For
pub mod Switch
