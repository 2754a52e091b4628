pub mod Totals
pub mod Growth
pub mod Counts
pub mod Fit
