pub mod Drain
mod Puts
mod Fresh
mod Calls
pub mod Chains
pub mod Seen
pub mod Settle
pub mod Works
