pub mod Spelling
pub mod Tree
pub mod Flat
pub mod Laws
