pub mod Tries
pub mod ForOf
pub mod Program
pub mod Enter
pub mod Left
pub mod Fits
pub mod FitEntered
pub mod Pending
pub mod Figures
pub mod TryParts
-- After any number of visits: those read and the charges so far.
pub mod Visits
pub mod TakenUp
