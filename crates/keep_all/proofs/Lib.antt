pub mod Cells
pub mod Keeps
pub mod Writes
