-- The numbers of refusals, and which files are refused for too few rows or too short an output.
pub mod Outcomes
pub mod Numbers
pub mod Small
