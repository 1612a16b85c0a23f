pub mod Lists
pub mod Reading
pub mod Parting
pub mod Putting
pub mod Growing
pub mod Whole
pub mod Pieces
