pub mod Rows
pub mod Streams
