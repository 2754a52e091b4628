-- What it leaves as it is, and what is charged for it: in its list, around it, in the tree.
pub mod Alike
pub mod Items
pub mod Grown
pub mod Lists
pub mod ForOf
pub mod Trees
-- The final figures of two files.
pub mod Final
-- The changed bytes are read: fields and records, rows, the word, the file.
pub mod SameBytes
pub mod SameRows
pub mod Reparsed
pub mod ChangedRead
