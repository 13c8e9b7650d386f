pub mod Names
pub mod Types
pub mod Faults
pub mod View
