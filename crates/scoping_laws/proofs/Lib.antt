pub mod Itemized
