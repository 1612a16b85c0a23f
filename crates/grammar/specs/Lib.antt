pub mod Limits
pub mod Grammar
pub mod Kinds
pub mod Values
pub mod Finite
pub mod Views
pub mod Cases
