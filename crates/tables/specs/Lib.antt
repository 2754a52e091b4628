-- Tables of rows: what the code computes on them.
pub mod Columns
pub mod Loops
pub mod Table
pub mod Stream
