-- The scope rows agree with the tree, in a file just read and between any two calls for a visit.
pub mod Weights
pub mod Rows
pub mod Demands
pub mod Lists
pub mod Tries
pub mod Contexts
pub mod Parts
pub mod ForOf
pub mod Program
pub mod Entered
pub mod Visits
pub mod Read
pub mod Agreed
