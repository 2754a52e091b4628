-- Laws of the tallies.
pub mod Laws
pub mod Silent
