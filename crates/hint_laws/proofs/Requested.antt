-- What an accepted source asks for, and that it calls nothing.
pub mod Everywhere
pub mod Known
pub mod Asked
