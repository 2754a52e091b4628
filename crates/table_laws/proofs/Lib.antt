pub mod Placed
pub mod Streamed
pub mod Lists
