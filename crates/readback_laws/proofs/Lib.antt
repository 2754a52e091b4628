-- The tree that the bytes of a file say, and that it is the tree written.
pub mod Mapped
pub mod Back
pub mod Taken
pub mod Contexts
pub mod Items
pub mod Entered
pub mod Childless
pub mod Accepted
-- What the walk leaves is written in bytes.
pub mod InBytes
-- The Loads written are those read and one for each context.
pub mod Loads
-- The counts written are those of the tree, for a reader of the bytes.
pub mod Counted
pub mod ReadBack
pub mod Written
pub mod Length
