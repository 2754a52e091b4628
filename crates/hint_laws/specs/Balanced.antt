-- What a tree gives and still asks for, and that visits keep it.
pub mod Balance
