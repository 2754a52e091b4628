-- Lemmas of this crate.
mod Stored
mod Parts
