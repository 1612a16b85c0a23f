pub mod Laws
pub mod FiniteTrees
pub mod Values
