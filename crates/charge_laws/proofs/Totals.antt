-- A tally comes to the figures of 01.
pub mod Roles
pub mod Lists
pub mod Sums
pub mod Statements
pub mod Items
pub mod Total
-- Its counters are not capped.
pub mod Bound
-- So it is with every accepted file.
pub mod Accepted
-- Its final figures fit 16 bits.
pub mod Fits
