-- Usings taken up by a context, and the rows of the Try around them.
pub mod TakeUp
pub mod Plan
pub mod Try
