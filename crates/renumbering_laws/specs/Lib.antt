-- Scopes numbered in the order in which the tree names them.
pub mod Heads
pub mod Order
pub mod Trees
pub mod Named
pub mod Files
pub mod Agree
pub mod Final
