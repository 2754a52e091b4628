pub mod TakeUp
pub mod Plan
pub mod Try
