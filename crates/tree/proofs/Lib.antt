-- The laws that other crates cite, and those that the functions' proofs cite.
pub mod Trees
pub mod Forest
pub mod Places
pub mod Rest
pub mod Blanks
pub mod Sequences
pub mod Dues
pub mod Accepted
pub mod Reading
pub mod Ends
pub mod Slip
pub mod Owed
