-- The charge of each visit, from the source alone.
pub mod VisitCharges
pub mod Growth
pub mod Counts
