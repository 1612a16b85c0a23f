-- The laws that the functions' proofs cite.
pub mod Listing
pub mod Walking
pub mod Growing
pub mod Loosening
pub mod Sealing
pub mod Joining
pub mod Cutting
pub mod Counting
pub mod Collecting
pub mod Extracting
pub mod Editing
