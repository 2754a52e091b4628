pub mod Lists
pub mod Streamed
