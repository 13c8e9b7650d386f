pub mod Model
pub mod Reach
pub mod Counts
pub mod Trace
pub mod Release
pub mod Places
