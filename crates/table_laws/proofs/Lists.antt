pub mod Try

-- What taking up a list does to the rows of a tree.
