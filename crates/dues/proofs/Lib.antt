pub mod Standing
pub mod Row
pub mod Tokens
