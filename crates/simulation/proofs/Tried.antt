-- The rewrite of a Try's parts on tables is that of 01.
pub mod Passing
pub mod Part
pub mod Parts
pub mod Names
pub mod Handler
pub mod Children
pub mod Try
