-- The answers of the public calls in 01's numbers, and a walk in numbers for C.
pub mod Answers
pub mod Numbers
pub mod Told
