-- The laws of the engine, in the order of use.
pub mod Frames
pub mod Going
pub mod Parting
pub mod Searching
pub mod Seeking
pub mod Chains
pub mod Applied
pub mod Applying
pub mod Testing
pub mod Filling
pub mod Finishing
pub mod Replacing
pub mod Rounds
