pub mod Symbols
pub mod Local
pub mod Reader
pub mod Script
pub mod Sound
pub mod Complete
pub mod Reading
pub mod Fuel
pub mod Items
pub mod Refusing
pub mod Exact
pub mod Telling
mod Examples
