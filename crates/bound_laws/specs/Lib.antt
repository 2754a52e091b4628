-- The walk never outgrows what the source allows.
pub mod Rows
pub mod Weights
pub mod Contexts
pub mod Rewrites
pub mod Visits
pub mod Fits
-- Nor do the mentions of its symbols.
pub mod MentionsFit
-- Nor do the numbers in its records and rows.
pub mod Numbers
pub mod NumbersContexts
pub mod NumbersProgram
pub mod NumbersVisits
pub mod NumbersFit
pub mod Completed
-- The end of the walk, and the walk as a recursion over the tree.
pub mod Last
pub mod Through
