pub mod Lookups
pub mod Records
pub mod Filling
pub mod Shown
pub mod Bounded
pub mod All
