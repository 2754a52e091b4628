-- What document 01 means, in its order.
pub mod Numbers
pub mod Refusals
pub mod Tree
pub mod Mentions
pub mod File
pub mod Grammar
pub mod Reading
pub mod Scoping
pub mod Agreement
pub mod Renumbering
pub mod Shapes
pub mod HelperLoader
pub mod Statements
pub mod Contexts
pub mod ForOf
pub mod Program
pub mod Walk
pub mod ImportLine
pub mod Charges
pub mod Due
pub mod Lowering
pub mod Hint
-- Files in 01's notation, and small ones computed.
pub mod Notation
pub mod Computing
pub mod Examples
