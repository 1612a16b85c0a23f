pub mod Reader
pub mod Views
pub mod Faults
pub mod Refusals
