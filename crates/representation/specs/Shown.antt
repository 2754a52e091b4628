-- The tree, the scopes and the symbols that tables show.
pub mod Shown
