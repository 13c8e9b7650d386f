pub mod Rule
pub mod Chain
pub mod Cells
pub mod Work
pub mod Whole
pub mod Laws
