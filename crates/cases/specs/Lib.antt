-- The cases of 01 and of the requests, computed.
pub mod Table
pub mod TableCounts
pub mod TableDepth
pub mod TableImport
pub mod TableOrder
pub mod TableWord
pub mod TableVisits
