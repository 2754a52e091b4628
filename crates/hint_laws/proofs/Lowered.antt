-- No using is left when the walk is over.
pub mod Quiet
pub mod Paths
pub mod Program
pub mod Entered
pub mod Left
pub mod Visits
