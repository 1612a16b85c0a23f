pub mod Vars
pub mod Matching
pub mod Arena
pub mod Candidates
