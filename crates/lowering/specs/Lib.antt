-- What lower answers and leaves; what its code computes; and that the two agree.
pub mod Lower
pub mod Flat
pub mod Numbered
pub mod Bytes
pub mod Law
pub mod Answers
