pub mod Created
pub mod Itemized
