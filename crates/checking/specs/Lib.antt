-- What the code of this crate computes.
pub mod Flat
-- What a survey answers.
pub mod Survey
