-- Laws of the places of rows.
pub mod Capped
