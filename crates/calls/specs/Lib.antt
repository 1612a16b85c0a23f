pub mod Places
pub mod Engine
