-- What start answers and leaves in the tables; what the code of this crate computes; and that the tables filled are those of 01.
pub mod Start
pub mod Flat
pub mod Rows
pub mod Records
pub mod Filled
pub mod Counted
