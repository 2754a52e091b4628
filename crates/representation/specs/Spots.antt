-- Where 01's walk stands, held in tables.
pub mod Spots
