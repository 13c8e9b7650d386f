pub mod Tokens
pub mod Grammar
pub mod Refusals
pub mod Combine
pub mod Parse
pub mod Parentheses
