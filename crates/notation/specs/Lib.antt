-- What a text in 01's notation says, the text of a file, and the laws of storing both.
pub mod Notation
pub mod Spots
pub mod Stored
pub mod Turns
pub mod Shown
pub mod Puts
pub mod ShownTurns
pub mod ShownBack
pub mod Case
