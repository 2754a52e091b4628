-- Where the walk stands.
pub mod Path
