-- The laws that other crates cite, and those that the functions' proofs cite.
pub mod Counts
pub mod Copying
pub mod Reading
pub mod Loading
