pub mod Visit
-- The visits on tables are 01's visits.
pub mod Rows
pub mod Rewrite
pub mod Lists
pub mod Others
pub mod Entering
pub mod Visits
pub mod Parts
pub mod Counted
pub mod Calls
pub mod Started
pub mod Rewritten
pub mod Tried
pub mod Arranged
pub mod Leaving
