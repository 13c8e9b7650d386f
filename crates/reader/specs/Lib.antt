pub mod Cursor
pub mod Binding
pub mod Reading
pub mod Terms
pub mod Statements
pub mod Functions
pub mod Whole
pub mod Script
