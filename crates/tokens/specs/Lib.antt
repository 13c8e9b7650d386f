pub mod Spelling
pub mod Lexing
pub mod Scan
pub mod Laws
pub mod State
