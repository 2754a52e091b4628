-- The columns of the three tables, by name.
pub mod RecordTable
pub mod ScopeTable
pub mod SymbolTable
