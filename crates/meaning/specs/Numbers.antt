-- The numbers that 01 gives a meaning, by name.
pub mod Tag
pub mod Kind
pub mod Form
pub mod LineForm
pub mod Parts
pub mod Mode
pub mod Letter
pub mod StepForm
pub mod ScopeFlag
pub mod SymbolFlag
pub mod KnownName
