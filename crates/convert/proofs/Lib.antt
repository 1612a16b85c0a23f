-- The laws that other crates cite, and those that the functions' proofs cite.
pub mod Exactly
pub mod Converting
pub mod Entries
pub mod Fitting
pub mod TokenClasses
pub mod Writing
pub mod Outcome
pub mod Whole
